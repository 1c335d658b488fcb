use Rattle.std.proofs.Common.{◌≡◌, inr, true, false, refl, rules}
use Rattle.fuse_serving.specs.Rounds.{BrokenOff, rounds_limit}
use Rattle.fuse_serving.specs.Pieces.{scene}
use Rattle.fuse_serving.proofs.Broken.{passed_on}
use Rattle.fuse_serving.proofs.SoFar.{none_yet, one_more_so_far, all_served, served_to_end, broken_off}
use Rattle.fuse_serving.proofs.serving.serve.Goals as goal

pub loop-init : goal.loop-init
loop-init g c = let p = g.P.Performer in none_yet p.Serves g.K.Kernel.Does (scene p.machine p.server c.args.performer.now c.args.kernel.now)

pub loop-preserved : goal.loop-preserved
loop-preserved g c =
    let p = g.P.Performer in
    let on : c.in_ok-serve_next.field-0 ≡ true = search rules in
    one_more_so_far p.Serves g.K.Kernel.Does (scene p.machine p.server c.args.performer.now c.args.kernel.now)
    (scene p.machine p.server c.loop.performer c.loop.kernel) (scene p.machine p.server c.serve_next.new.performer c.serve_next.new.kernel)
    c.loop.counter c.in_ok-serve_next.field-0 c.loop.invariant on c.in_ok-serve_next.ensures.served

pub returns-then-not-branch-clause-served : goal.returns-then-not-branch-clause-served
returns-then-not-branch-clause-served g c =
    let p = g.P.Performer in
    let off : c.in_ok-serve_next.field-0 ≡ false = search rules in
    served_to_end p.Serves g.K.Kernel.Does (scene p.machine p.server c.args.performer.now c.args.kernel.now)
    (scene p.machine p.server c.loop.performer c.loop.kernel) (scene p.machine p.server c.serve_next.new.performer c.serve_next.new.kernel)
    c.loop.counter c.in_ok-serve_next.field-0 c.loop.invariant off c.in_ok-serve_next.ensures.served

pub returns-clause-served : goal.returns-clause-served
returns-clause-served g c =
    let p = g.P.Performer in
    let last = scene p.machine p.server c.loop.performer c.loop.kernel in
    let many : c.loop.counter ≡ rounds_limit = search rules in
    all_served p.Serves g.K.Kernel.Does (scene p.machine p.server c.args.performer.now c.args.kernel.now) last last c.loop.counter c.loop.invariant
    (inr (many, refl))

pub returns-in_err-serve_next-clause-broken : goal.returns-in_err-serve_next-clause-broken
returns-in_err-serve_next-clause-broken g c =
    let p = g.P.Performer in
    let r = c.from_residual.ensures in
    let old = scene p.machine p.server c.args.performer.now c.args.kernel.now in
    let last = scene p.machine p.server c.loop.performer c.loop.kernel in
    let new = scene p.machine p.server c.serve_next.new.performer c.serve_next.new.kernel in
    let fault = c.in_err-serve_next.field-0.0 in
    passed_on (λ f. BrokenOff p.Serves g.K.Kernel.Does f old new) c.from_residual.result fault r.0 r.1
    (broken_off p.Serves g.K.Kernel.Does old last new c.loop.counter fault c.loop.invariant c.in_err-serve_next.ensures.broken)

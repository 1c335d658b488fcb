use Rattle.std.proofs.Common.{◌≡◌, ◌∙◌, ℕ, Option, take, sym, subst, false}
use Rattle.fuse_serving.specs.Exchanges.{Reads, read_of}
use Rattle.fuse_serving.specs.Rounds.{Breaks}
use Rattle.fuse_serving.specs.Pieces.{scene}
use Rattle.fuse_serving.proofs.ReadRounds.{from_read}
use Rattle.fuse_serving.proofs.Broken.{unread, broken_from_read, passed_on}
use Rattle.fuse_serving.proofs.serving.serve_next.Goals as goal

pub returns-clause-served : goal.returns-clause-served
returns-clause-served g c =
    let p = g.P.Performer in
    let old = c.args.performer.now in
    let on : (p.server old).ended ≡ false = sym c.is_ended.ensures ∙ c.if-is_ended.false in
    let does : g.K.Kernel.Does c.args.kernel.now (Reads (take c.in-Ok-Some.size c.read.new.buffer)) c.read.new.self =
    subst (λ (o : Option ℕ). g.K.Kernel.Does c.args.kernel.now (read_of o c.read.new.buffer) c.read.new.self) c.in-Ok-Some.field-0-is c.in-Ok-Some.ensures.does in
    from_read p.Serves g.K.Kernel.Does (p.machine old) (p.server old) c.args.kernel.now c.read.new.self (take c.in-Ok-Some.size c.read.new.buffer)
    (scene p.machine p.server c.serve_read.new.performer c.serve_read.new.kernel) c.in_ok-goes_on.goes_on on does c.in_ok-goes_on.ensures.served

pub returns-in-Err-clause-broken : goal.returns-in-Err-clause-broken
returns-in-Err-clause-broken g c =
    let p = g.P.Performer in
    let old = c.args.performer.now in
    let on : (p.server old).ended ≡ false = sym c.is_ended.ensures ∙ c.if-is_ended.false in
    unread p.Serves g.K.Kernel.Does _ (p.machine old) (p.server old) c.args.kernel.now c.read.new.self on tt

pub returns-in_err-goes_on-clause-broken : goal.returns-in_err-goes_on-clause-broken
returns-in_err-goes_on-clause-broken g c =
    let p = g.P.Performer in
    let old = c.args.performer.now in
    let on : (p.server old).ended ≡ false = sym c.is_ended.ensures ∙ c.if-is_ended.false in
    let does : g.K.Kernel.Does c.args.kernel.now (Reads (take c.in-Ok-Some.size c.read.new.buffer)) c.read.new.self =
    subst (λ (o : Option ℕ). g.K.Kernel.Does c.args.kernel.now (read_of o c.read.new.buffer) c.read.new.self) c.in-Ok-Some.field-0-is c.in-Ok-Some.ensures.does in
    let r = c.from_residual.ensures in
    let new = scene p.machine p.server c.serve_read.new.performer c.serve_read.new.kernel in
    let fault = c.in_err-goes_on.field-0.0 in
    passed_on (λ f. Breaks p.Serves g.K.Kernel.Does f (scene p.machine p.server old c.args.kernel.now) new) c.from_residual.result fault r.0 r.1
    (broken_from_read p.Serves g.K.Kernel.Does fault (p.machine old) (p.server old) c.args.kernel.now c.read.new.self
    (take c.in-Ok-Some.size c.read.new.buffer) new on does c.in_err-goes_on.ensures.broken)

use Rattle.std.proofs.Common.{◌≡◌, ℕ, Bool, rules, Ok, Err, subst}
use Rattle.fs_cred.specs.declared.errno.Errno.TheVariants.{EINVAL}
use Rattle.fuse_protocol.specs.declared.request.RequestFault.TheVariants.{Malformed}
use Rattle.fuse_protocol.specs.Requests.{request_of}
use Rattle.fuse_plans.specs.declared.reply.Response.TheVariants.{Fails}
use Rattle.fuse_plans.specs.RequestErrors.{failed}
use Rattle.fuse_serving.specs.Exchanges.{Passes}
use Rattle.fuse_serving.specs.Rounds.{tells}
use Rattle.fuse_serving.specs.Pieces.{ReadBreaks, scene}
use Rattle.fuse_serving.proofs.ReadRounds.{read_spoken, read_badly}
use Rattle.fuse_serving.proofs.Broken.{unanswered_badly, passed_on}
use Rattle.fuse_serving.proofs.serving.serve_read.Goals as goal

pub returns-in_ok-serve_spoken-in-Ok-clause-served : goal.returns-in_ok-serve_spoken-in-Ok-clause-served
returns-in_ok-serve_spoken-in-Ok-clause-served g c =
    let p = g.P.Performer in
    let is : request_of c.args.bytes.now ≡ Ok c.in-Ok.spoken = search rules in
    read_spoken p.Serves g.K.Kernel.Does c.args.bytes.now c.in-Ok.spoken (scene p.machine p.server c.args.performer.now c.args.kernel.now)
    (scene p.machine p.server c.serve_spoken.new.performer c.serve_spoken.new.kernel) is c.in_ok-serve_spoken-in-Ok.ensures.served

pub returns-in_ok-_taken-in-Err-Malformed-clause-served : goal.returns-in_ok-_taken-in-Err-Malformed-clause-served
returns-in_ok-_taken-in-Err-Malformed-clause-served g c =
    let p = g.P.Performer in
    let does = g.K.Kernel.Does in
    let unique : ℕ = c.in-Err-Malformed.unique in
    let taken : Bool = c.in_ok-_taken-in-Err-Malformed._taken in
    let is : request_of c.args.bytes.now ≡ Err (Malformed unique) = search rules in
    let told : Passes does c.args.kernel.now (tells unique (Fails (failed EINVAL)) taken) c.tell.new.kernel =
    subst (λ (n : ℕ). Passes does c.args.kernel.now (tells n (Fails (failed EINVAL)) taken) c.tell.new.kernel)
    c.in-Err-Malformed.unique-is c.in_ok-_taken-in-Err-Malformed.ensures.told in
    read_badly p.Serves does c.args.bytes.now unique (p.machine c.args.performer.now) (p.server c.args.performer.now)
    c.args.kernel.now c.tell.new.kernel taken is told

pub returns-in_err-serve_spoken-in-Ok-clause-broken : goal.returns-in_err-serve_spoken-in-Ok-clause-broken
returns-in_err-serve_spoken-in-Ok-clause-broken g c =
    let p = g.P.Performer in
    let r = c.from_residual.ensures in
    let old = scene p.machine p.server c.args.performer.now c.args.kernel.now in
    let new = scene p.machine p.server c.serve_spoken.new.performer c.serve_spoken.new.kernel in
    let is : request_of c.args.bytes.now ≡ Ok c.in-Ok.spoken = search rules in
    passed_on (λ f. ReadBreaks p.Serves g.K.Kernel.Does c.args.bytes.now f old new) c.from_residual.result c.in_err-serve_spoken-in-Ok.field-0.0 r.0 r.1
    (c.in_err-serve_spoken-in-Ok.ensures.broken c.args.bytes.now is)

pub returns-in_err-_taken-in-Err-Malformed-clause-broken : goal.returns-in_err-_taken-in-Err-Malformed-clause-broken
returns-in_err-_taken-in-Err-Malformed-clause-broken g c =
    let p = g.P.Performer in
    let unique : ℕ = c.in-Err-Malformed.unique in
    let is : request_of c.args.bytes.now ≡ Err (Malformed unique) = search rules in
    let r = c.from_residual-in_err-_taken-in-Err-Malformed.ensures in
    let old = scene p.machine p.server c.args.performer.now c.args.kernel.now in
    let new = scene p.machine p.server c.args.performer.now c.tell.new.kernel in
    let fault = c.in_err-_taken-in-Err-Malformed.field-0.0 in
    passed_on (λ f. ReadBreaks p.Serves g.K.Kernel.Does c.args.bytes.now f old new) c.from_residual-in_err-_taken-in-Err-Malformed.result fault r.0 r.1
    (unanswered_badly p.Serves g.K.Kernel.Does c.args.bytes.now unique fault
    (p.machine c.args.performer.now) (p.server c.args.performer.now) c.args.kernel.now c.tell.new.kernel is c.in_err-_taken-in-Err-Malformed.ensures.fault)

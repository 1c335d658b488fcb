use Rattle.fuse_plans.specs.AttributePlans.{set_size}
use Rattle.fuse_sessions.proofs.Doings.{gives, keeps-last, same-work, then-fails, then-ok}
use Rattle.std.proofs.Common.{ap, refl}
use Rattle.std.specs.Prelude.{Option, ℕ}
use Rattle.fuse_requests.proofs.attributes.set_size.Goals as goal

pub returns-in_default-clause-did : goal.returns-in_default-clause-did
returns-in_default-clause-did g c =
    same-work (ap (λ (o : Option ℕ). set_size c.args.now c.args.actor.now.cred c.args.actor.now.start c.args.handle o) c.in_default.is)
    (gives _ _)

pub returns-in_err-resize_object-clause-did : goal.returns-in_err-resize_object-clause-did
returns-in_err-resize_object-clause-did g c =
    same-work (ap (λ (o : Option ℕ). set_size c.args.now c.args.actor.now.cred c.args.actor.now.start c.args.handle o) c.in-Some.is)
    (then-fails _ c.from_residual.ensures c.in_err-resize_object.ensures.did)

pub returns-clause-did : goal.returns-clause-did
returns-clause-did g c =
    same-work (ap (λ (o : Option ℕ). set_size c.args.now c.args.actor.now.cred c.args.actor.now.start c.args.handle o) c.in-Some.is)
    (then-ok _ c.in_ok-resize_object.ensures.did (keeps-last _ refl c.touch.ensures.kept))

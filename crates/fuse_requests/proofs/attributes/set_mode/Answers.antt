use Rattle.fuse_plans.specs.AttributePlans.{set_mode}
use Rattle.fuse_sessions.proofs.Doings.{gives, keeps-last, same-work, then-fails, then-ok}
use Rattle.std.proofs.Common.{ap, refl}
use Rattle.std.specs.Prelude.{Option, ℕ}
use Rattle.fuse_requests.proofs.attributes.set_mode.Goals as goal

pub returns-in_default-clause-did : goal.returns-in_default-clause-did
returns-in_default-clause-did g c =
    same-work (ap (λ (o : Option ℕ). set_mode c.args.now c.args.actor.now.cred c.args.actor.now.start o) c.in_default.is) (gives _ _)

pub returns-in_err-on_once-clause-did : goal.returns-in_err-on_once-clause-did
returns-in_err-on_once-clause-did g c =
    same-work (ap (λ (o : Option ℕ). set_mode c.args.now c.args.actor.now.cred c.args.actor.now.start o) c.in-Some.is)
    (then-fails _ c.from_residual.ensures (rw c.empty_path.ensures at c.in_err-on_once.ensures.did))

pub returns-clause-did : goal.returns-clause-did
returns-clause-did g c =
    same-work (ap (λ (o : Option ℕ). set_mode c.args.now c.args.actor.now.cred c.args.actor.now.start o) c.in-Some.is)
    (then-ok _ (rw c.empty_path.ensures at c.in_ok-on_once.ensures.did) (keeps-last _ refl c.change.ensures.kept))

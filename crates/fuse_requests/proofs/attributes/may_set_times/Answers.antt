use Rattle.fuse_plans.specs.AttributePlans.{may_set_times}
use Rattle.fuse_sessions.proofs.Doings.{attempts, gives, has-failed, of-result, same-work, then-ok, where-false, where-true}
use Rattle.std.proofs.Common.{ap, sym, ◌∙◌}
use Rattle.std.specs.Prelude.{Bool}
use Rattle.fuse_requests.proofs.attributes.may_set_times.Goals as goal

pub returns-then-is_owner-clause-did : goal.returns-then-is_owner-clause-did
returns-then-is_owner-clause-did g c =
    same-work (ap (λ (b : Bool). may_set_times c.args.actor.now.cred c.args.actor.now.start b c.args.changes.now) c.if-is_owner.true) (gives _ _)

pub returns-then-needs_owner-clause-did : goal.returns-then-needs_owner-clause-did
returns-then-needs_owner-clause-did g c =
    same-work (ap (λ (b : Bool). may_set_times c.args.actor.now.cred c.args.actor.now.start b c.args.changes.now) c.if-is_owner.false)
    (where-true _ _ (sym c.needs_owner.ensures ∙ c.if-needs_owner.true) (has-failed _ _))

pub returns-clause-did : goal.returns-clause-did
returns-clause-did g c =
    same-work (ap (λ (b : Bool). may_set_times c.args.actor.now.cred c.args.actor.now.start b c.args.changes.now) c.if-is_owner.false)
    (where-false _ _ (sym c.needs_owner.ensures ∙ c.if-needs_owner.false)
    (then-ok _ (attempts _ (rw (c.empty_path.ensures, c.from_digit.ensures) at c.on_once.ensures.did)) (of-result c.or_not_permitted.ensures)))

use Rattle.std.specs.Prelude.{Bool}
use Rattle.std.proofs.Common.{refl, ap}
use Rattle.fuse_plans.specs.Serving.{keep_due_if, keep_due}
use Rattle.fuse_sessions.proofs.Doings.{gives, keeps-last, on-machine, reads, same-work, then-ok}
use Rattle.fuse_sessions.proofs.session.Session.keep_due.Goals as goal

pub returns-then-not-is_due : goal.returns-then-not-is_due
unfolding keep_due
returns-then-not-is_due g c =
    reads _ _ c.is_due.ensures (same-work (ap (λ (b : Bool). keep_due_if b c.args.now) c.if-not-is_due.true) (gives _ _))

pub returns : goal.returns
unfolding keep_due
returns g c =
    reads _ _ c.is_due.ensures
    (same-work (ap (λ (b : Bool). keep_due_if b c.args.now) c.if-not-is_due.false)
    (then-ok _ (on-machine c.ask.ensures) (keeps-last _ refl c.note_kept.ensures.kept)))

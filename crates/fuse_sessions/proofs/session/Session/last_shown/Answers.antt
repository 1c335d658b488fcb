use Rattle.std.specs.Prelude.{Bool, Option, Some}
use Rattle.std.proofs.Common.{ap, sym, ◌∙◌}
use Rattle.fs_model.specs.declared.reply.Status.{Status}
use Rattle.fuse_state.specs.declared.times.Times.{Times}
use Rattle.fuse_state.specs.Removed.{removed_directory}
use Rattle.fuse_plans.specs.RemovedPlans.{last_shown, last_shown_if}
use Rattle.fuse_sessions.proofs.Doings.{gives, reads-last, same-work, then-fails, then-ok}
use Rattle.fuse_sessions.proofs.session.Session.last_shown.Goals as goal

pub returns-in_default-clause-did : goal.returns-in_default-clause-did
unfolding last_shown
returns-in_default-clause-did g c = same-work (ap (λ (o : Option Status). last_shown c.args.now o) c.in_default.is) (gives _ _)

pub returns-in_err-stamps-clause-did : goal.returns-in_err-stamps-clause-did
unfolding last_shown
returns-in_err-stamps-clause-did g c =
    same-work (ap (λ (o : Option Status). last_shown c.args.now o) c.in-Some.is)
    (same-work (ap (λ (b : Bool). last_shown_if b c.args.now c.in-Some.status) (sym c.is_directory.ensures ∙ c.if-is_directory.true))
    (then-fails _ c.from_residual.ensures c.in_err-stamps.ensures.did))

pub returns-then-is_directory-clause-did : goal.returns-then-is_directory-clause-did
unfolding last_shown
returns-then-is_directory-clause-did g c =
    same-work (ap (λ (o : Option Status). last_shown c.args.now o) c.in-Some.is)
    (same-work (ap (λ (b : Bool). last_shown_if b c.args.now c.in-Some.status) (sym c.is_directory.ensures ∙ c.if-is_directory.true))
    (then-ok _ c.in_ok-stamps.ensures.did (reads-last _ _ (ap Some (c.new.ensures ∙ ap (λ (t : Times). removed_directory c.args.now c.in-Some.status t) c.times_in-times.ensures)))))

pub returns-clause-did : goal.returns-clause-did
unfolding last_shown
returns-clause-did g c =
    same-work (ap (λ (o : Option Status). last_shown c.args.now o) c.in-Some.is)
    (same-work (ap (λ (b : Bool). last_shown_if b c.args.now c.in-Some.status) (sym c.is_directory.ensures ∙ c.if-is_directory.false)) (gives _ _))

use Rattle.std.specs.Prelude.{Bool, ◌||◌, not}
use Rattle.std.proofs.Common.{ap, sym, ◌∙◌}
use Rattle.fuse_state.specs.declared.settings.Settings.{Settings}
use Rattle.fuse_plans.specs.RemovedPlans.{look_before, look_before_if}
use Rattle.fuse_sessions.proofs.Doings.{attempts, gives, gives-as, reads, same-work, then-ok}
use Rattle.fuse_sessions.proofs.session.Session.look_before.Goals as goal

pub returns-then-has_to_look-clause-did : goal.returns-then-has_to_look-clause-did
unfolding look_before
returns-then-has_to_look-clause-did g c =
    reads _ _ (ap (λ (k : Settings). k.keeps_times) c.settings.ensures)
    (same-work (ap (λ (b : Bool). look_before_if b c.args.dir_ino c.args.name) (sym c.has_to_look.ensures ∙ c.if-has_to_look.true))
    (then-ok _ (attempts _ c.look_inside_own-seen.ensures.did) (gives-as c.status_seen.ensures)))

pub returns-clause-did : goal.returns-clause-did
unfolding look_before
returns-clause-did g c =
    reads _ _ (ap (λ (k : Settings). k.keeps_times) c.settings.ensures)
    (same-work (ap (λ (b : Bool). look_before_if b c.args.dir_ino c.args.name) (sym c.has_to_look.ensures ∙ c.if-has_to_look.false)) (gives _ _))

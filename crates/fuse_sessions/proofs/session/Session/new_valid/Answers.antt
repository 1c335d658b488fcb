use Rattle.std.specs.Prelude.{Bool}
use Rattle.std.proofs.Common.{sym, ap, ◌∙◌}
use Rattle.fuse_plans.specs.NamePlans.{new_valid_if, new_valid}
use Rattle.fuse_sessions.proofs.Doings.{attempts, gives, gives-as, reads, same-work, then-ok}
use Rattle.fuse_sessions.proofs.session.Session.new_valid.Goals as goal

pub returns-then-not-keeps_names-clause-did : goal.returns-then-not-keeps_names-clause-did
unfolding new_valid
returns-then-not-keeps_names-clause-did g c =
    reads _ _ c.settings-settings.ensures
    (same-work (ap (λ (b : Bool). new_valid_if c.args.dir_ino c.settings-settings.result.keeping.names b) (sym c.keeps_names.ensures ∙ c.if-not-keeps_names.true)) (gives _ _))

pub returns-clause-did : goal.returns-clause-did
unfolding new_valid
returns-clause-did g c =
    reads _ _ c.settings-settings.ensures
    (same-work (ap (λ (b : Bool). new_valid_if c.args.dir_ino c.settings-settings.result.keeping.names b) (sym c.keeps_names.ensures ∙ c.if-not-keeps_names.false))
    (then-ok _ (attempts _ c.list_hides-hides.ensures.did) (gives-as c.unless_hidden.ensures)))

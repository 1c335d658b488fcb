use Rattle.std.specs.Prelude.{Option}
use Rattle.std.specs.Option.{ok_or}
use Rattle.std.proofs.Common.{ap, sym, ◌∙◌}
use Rattle.fuse_state.specs.declared.removed.RemovedDirectory.{RemovedDirectory}
use Rattle.fuse_sessions.proofs.Doings.{has-failed, reads-needed, where-false, where-true}
use Rattle.fuse_sessions.proofs.session.Session.removed_instead.Goals as goal

pub returns-then-is_stale : goal.returns-then-is_stale
returns-then-is_stale g c =
    where-true _ _ (sym c.is_stale.ensures ∙ c.if-is_stale.true)
    (reads-needed _ _ _ (c.ok_or.ensures.value ∙ ap (λ (o : Option RemovedDirectory). ok_or o c.args.error) c.removed_directory_of.ensures))

pub returns : goal.returns
returns g c = where-false _ _ (sym c.is_stale.ensures ∙ c.if-is_stale.false) (has-failed _ _)

use Rattle.fuse_plans.specs.DirectoryPlans.{take_directory}
use Rattle.fuse_sessions.proofs.Doings.{has-failed, keeps, reads, reads-last}
use Rattle.std.proofs.Common.{refl, sym, ◌∙◌}
use Rattle.fuse_requests.proofs.directories.take_directory.Goals as goal

pub returns-then-not-may_open_directory : goal.returns-then-not-may_open_directory
unfolding take_directory
returns-then-not-may_open_directory g c = reads _ _ (sym c.if-not-may_open_directory.true ∙ c.may_open_directory.ensures) (has-failed _ _)

pub returns : goal.returns
unfolding take_directory
returns g c =
    reads _ _ (sym c.if-not-may_open_directory.false ∙ c.may_open_directory.ensures) (reads _ _ c.next_directory-handle.ensures
    (keeps _ _ refl c.add_directory.ensures.kept (reads-last _ _ c.opened_body.ensures)))

use Rattle.fuse_plans.specs.DirectoryPlans.{close_directory}
use Rattle.fuse_sessions.proofs.Doings.{gives, keeps}
use Rattle.std.proofs.Common.{refl}
use Rattle.fuse_requests.proofs.directories.close_directory.Goals as goal

pub returns : goal.returns
unfolding close_directory
returns g c = keeps _ _ refl c.remove_directory.ensures.kept (gives _ _)

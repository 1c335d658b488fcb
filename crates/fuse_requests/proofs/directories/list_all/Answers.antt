use Rattle.fuse_plans.specs.DirectoryPlans.{list_all}
use Rattle.fuse_sessions.proofs.Doings.{attempts, then-ok}
use Rattle.fuse_requests.proofs.directories.list_all.Goals as goal

pub returns-clause-did : goal.returns-clause-did
unfolding list_all
returns-clause-did g c =
    then-ok _ (attempts _ (rw (c.empty_path.ensures, c.listing.ensures) at c.on_own-opened.ensures.did)) c.list_opened.ensures.did

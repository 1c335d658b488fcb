use Rattle.fuse_plans.proofs.ShareRuns.{requests_keep_shares, directories_are_found}
use Rattle.fuse_plans.proofs.laws.shares_are_found.Goals as goal

pub returns-clause-kept : goal.returns-clause-kept
returns-clause-kept c = requests_keep_shares

pub returns-clause-directories : goal.returns-clause-directories
returns-clause-directories c = directories_are_found

use Rattle.fuse_plans.proofs.RecordedRequests.{failures_change_nothing}
use Rattle.fuse_plans.proofs.AlterSteps.{openings_are_told}
use Rattle.fuse_plans.proofs.laws.failures_change_nothing.Goals as goal

pub returns : goal.returns
returns c = record { failures = failures_change_nothing; told = openings_are_told }

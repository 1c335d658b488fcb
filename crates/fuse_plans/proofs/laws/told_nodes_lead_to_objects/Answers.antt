use Rattle.fuse_plans.proofs.RecordedRequests.{makings_are_counted}
use Rattle.fuse_plans.proofs.ToldNodes.{told_nodes_lead_to_objects as lead}
use Rattle.fuse_plans.proofs.laws.told_nodes_lead_to_objects.Goals as goal

pub returns-clause-lead : goal.returns-clause-lead
returns-clause-lead c = lead

pub returns-clause-counted : goal.returns-clause-counted
returns-clause-counted c = makings_are_counted

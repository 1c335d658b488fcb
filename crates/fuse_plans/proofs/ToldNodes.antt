-- What is told of a name that was found or made leads to the object.
use Rattle.std.proofs.Common.{sym, subst}
use Rattle.fuse_plans.specs.declared.reply.Response.TheVariants.{Says}
use Rattle.fuse_plans.specs.Laws.{ToldNodesLeadToObjects}
use Rattle.fuse_plans.specs.Requests.{asked_of}
use Rattle.fuse_plans.specs.Serving.{request_plan}
use Rattle.fuse_plans.proofs.AllEnds.{AllEnd, all-run}
use Rattle.fuse_plans.proofs.Searches.{plan_for}
use Rattle.fuse_plans.proofs.ToldNames.{Leads, SaysSo, leads-plan, all-planned}

pub told_nodes_lead_to_objects : ToldNodesLeadToObjects
unfolding request_plan
told_nodes_lead_to_objects r s t operation body es replies node shown asks names lt entry runs =
    all-run (SaysSo Leads) (plan_for r r.operation s) es replies (Says body, t)
    (subst (λ o. AllEnd (SaysSo Leads) (plan_for r o s)) (sym asks)
    (all-planned Leads r operation s (λ nobody. leads-plan (asked_of r nobody) r.value operation names)))
    runs node shown entry lt

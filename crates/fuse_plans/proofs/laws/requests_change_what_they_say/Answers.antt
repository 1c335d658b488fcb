use Rattle.fuse_plans.proofs.laws.requests_change_what_they_say.Goals as goal
use Rattle.fuse_plans.proofs.RequestConducts.{requests_change_what_they_say, runs_change_what_requests_say, others_keep_times}
use Rattle.fuse_plans.proofs.Said.{others_change_nothing}

pub returns : goal.returns
returns c = record {
  may_be_asked = requests_change_what_they_say;
  asked = runs_change_what_requests_say;
  nothing = others_change_nothing;
  times = others_keep_times;
}

use Rattle.fuse_plans.proofs.ConfinedRequests.{requests_confined}
use Rattle.fuse_plans.proofs.ConfinedTurns.{request_runs_confined}
use Rattle.fuse_plans.proofs.laws.unreadable_bytes_do_not_show_in_answers.Goals as goal

pub returns : goal.returns
returns c = record { one = requests_confined; several = request_runs_confined }

use Rattle.fuse_plans.proofs.UsersAreGranted.{users_are_granted}
use Rattle.fuse_plans.proofs.UsersCountAlone.{users_count_alone}
use Rattle.fuse_plans.proofs.laws.users_need_no_groups.Goals as goal

pub returns-clause-shown : goal.returns-clause-shown
returns-clause-shown c = users_count_alone

pub returns-clause-granted : goal.returns-clause-granted
returns-clause-granted c = users_are_granted

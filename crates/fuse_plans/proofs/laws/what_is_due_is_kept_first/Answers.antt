use Rattle.fuse_plans.proofs.DueFirst.{due_first, none_before, recent_unless_due}
use Rattle.fuse_plans.proofs.KeptInTime.{kept_in_time}
use Rattle.fuse_plans.proofs.RequestConducts.{clock_stays}
use Rattle.fuse_plans.proofs.laws.what_is_due_is_kept_first.Goals as goal

pub returns-clause-first : goal.returns-clause-first
returns-clause-first c = due_first

pub returns-clause-undue : goal.returns-clause-undue
returns-clause-undue c = none_before

pub returns-clause-recent : goal.returns-clause-recent
returns-clause-recent c = recent_unless_due

pub returns-clause-clock : goal.returns-clause-clock
returns-clause-clock c = clock_stays

pub returns-clause-in_time : goal.returns-clause-in_time
returns-clause-in_time c = kept_in_time

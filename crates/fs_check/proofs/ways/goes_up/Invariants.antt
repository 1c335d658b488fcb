use Rattle.fs_check.proofs.Climbing.{IsOnWay, unmarked}
use Rattle.fs_check.proofs.ways.goes_up.Given as goal

abbrev pub invariant-loop-at : goal.invariant-loop-at
invariant-loop-at l = IsOnWay l.inodes l.marks l.dir_ino l.at

abbrev pub decreases-loop-at : goal.decreases-loop-at
decreases-loop-at l = unmarked l.marks

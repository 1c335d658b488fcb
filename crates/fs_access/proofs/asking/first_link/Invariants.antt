use Rattle.std.proofs.Common.{◌≤◌, ◌-◌}
use Rattle.host_trees.specs.Copies.{Copies}
use Rattle.fs_access.specs.Asking.{AreNoLinks}
use Rattle.fs_access.proofs.asking.first_link.Given as goal

abbrev pub invariant-loop-passed : goal.invariant-loop-passed
invariant-loop-passed g l =
    Copies g.M.FileSystem.Serves l.initial.machine l.machine (λ asked. AreNoLinks l.fn.question.path l.fn.pid l.passed asked) × (l.passed ≤ l.fn.most)

abbrev pub decreases-loop-passed : goal.decreases-loop-passed
decreases-loop-passed g l = l.fn.most - l.passed

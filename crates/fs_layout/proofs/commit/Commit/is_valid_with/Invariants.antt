use Rattle.std.proofs.Common.{◌≤◌, ◌<◌, ℕ, get_or}
use Rattle.fs_layout.proofs.commit.Commit.is_valid_with.Given as goal
use Rattle.fs_layout.specs.Header.{log_end}

abbrev pub invariant-loop-target : goal.invariant-loop-target
invariant-loop-target l = (k d : ℕ) → k < l.target-index → (log_end l.header ≤ get_or l.targets k d) × (get_or l.targets k d < l.sectors)

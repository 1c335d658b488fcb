use Rattle.std.proofs.Common.{◌≡◌, ◌-◌, ◌≤◌}
use Rattle.fs_layout.specs.declared.inode.TheConstants.{POINTER_LEVELS}
use Rattle.fs_check.proofs.loading.load_pointers.Given as goal

abbrev pub invariant-loop-level : goal.invariant-loop-level
invariant-loop-level g l = (1 ≤ l.level) × (l.level ≤ POINTER_LEVELS) × (g.F.DiskFile.held l.part.file ≡ g.F.DiskFile.held l.initial.part.file)

abbrev pub decreases-loop-level : goal.decreases-loop-level
decreases-loop-level g l = l.level - 1

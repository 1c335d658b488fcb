use Rattle.std.proofs.Common.{◌+◌, ◌-◌}
use Rattle.fs_layout.specs.Images.{pointer_in}
use Rattle.sector_disk.specs.Disk.{OnlyReads}
use Rattle.fs_check.specs.Checks.{meaning}
use Rattle.fs_check.specs.Counts.{sum_to, times_reached, AreInDataArea, AddsOwners}
use Rattle.fs_check.proofs.marking.+mark_reached.Given as goal

abbrev pub decreases-mark_reached : goal.decreases-mark_reached
decreases-mark_reached g l = l.level

abbrev pub invariant-loop-i : goal.invariant-loop-i
invariant-loop-i g l = record {
  reads : OnlyReads (g.D.Disk.state l.fn.disk) (g.D.Disk.state l.disk);
  good : AreInDataArea l.opened.geometry (λ t. times_reached (meaning (g.D.Disk.state l.fn.disk)) 0 l.s t
      + sum_to (λ k. times_reached (meaning (g.D.Disk.state l.fn.disk)) (l.level - 1) (pointer_in (meaning (g.D.Disk.state l.fn.disk)) l.s k) t) l.i);
  marked : AddsOwners l.opened.geometry (meaning (g.D.Disk.state l.fn.disk)) (λ t. times_reached (meaning (g.D.Disk.state l.fn.disk)) 0 l.s t
      + sum_to (λ k. times_reached (meaning (g.D.Disk.state l.fn.disk)) (l.level - 1) (pointer_in (meaning (g.D.Disk.state l.fn.disk)) l.s k) t) l.i)
      l.fn.marks l.marks;
}

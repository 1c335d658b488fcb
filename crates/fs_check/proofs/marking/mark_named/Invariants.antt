use Rattle.std.proofs.Common.{◌+◌, get_or}
use Rattle.fs_layout.specs.Bytes.{SectorMap}
use Rattle.fs_check.specs.Counts.{sum_to, times_reached, AreInDataArea, HaveRoom, AddsOwners}
use Rattle.fs_check.proofs.marking.mark_named.Given as goal

abbrev pub invariant-loop-i : goal.invariant-loop-i
invariant-loop-i l = record {
  room : HaveRoom l.geometry.sectors l.marks;
  good : (m : SectorMap) → AreInDataArea l.geometry (λ s. times_reached m 0 l.inode.acl s + times_reached m 0 l.inode.default_acl s
      + sum_to (λ k. times_reached m 0 (get_or l.inode.direct k 0) s) l.i);
  marked : (m : SectorMap) → AddsOwners l.geometry m (λ s. times_reached m 0 l.inode.acl s + times_reached m 0 l.inode.default_acl s
      + sum_to (λ k. times_reached m 0 (get_or l.inode.direct k 0) s) l.i) l.fn.marks l.marks;
}

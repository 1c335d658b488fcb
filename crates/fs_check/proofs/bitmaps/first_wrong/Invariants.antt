use Rattle.std.proofs.Common.{◌≡◌, ◌≤◌, ◌<◌, ◌+◌, ◌*◌, ℕ}
use Rattle.fs_layout.specs.Bytes.{SectorMap}
use Rattle.fs_model.specs.Rules.{IsBlockBit}
use Rattle.fs_check.specs.Checks.{IsOwnerMap}
use Rattle.fs_check.proofs.bitmaps.first_wrong.Given as goal

abbrev pub invariant-loop-s : goal.invariant-loop-s
invariant-loop-s l = (m : SectorMap) → IsOwnerMap l.geometry m l.owned → l.map ≡ m (l.geometry.block_bitmap + l.k)
    → (i : ℕ) → 4096 * l.k ≤ i → i < l.s → IsBlockBit l.geometry m i

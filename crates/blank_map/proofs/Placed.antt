-- Maps on their disks, after calls that change no disk.
use Rattle.std.proofs.Common.{ℕ, ◌-◌, ◌≤◌, ◌+◌, ap, arith}
use Rattle.std.proofs.lemmas.List.FromFn.{length-range_with_len}
use Rattle.fs_layout.specs.declared.geometry.Geometry.{Geometry}
use Rattle.fs_layout.specs.Header.{log_end}
use Rattle.sector_txn.specs.Sectors.{TxnState, SameStore}
use Rattle.sector_txn.proofs.TransactionRuns.{lacking_at_most}
use Rattle.bit_alloc.specs.Room.{bitmaps, HasSpare}
use Rattle.blank_map.specs.Maps.{IsPlaced}

-- a map stays where it is
pub placed_after : {p : Geometry} {old new : TxnState} → IsPlaced p old → SameStore old new → IsPlaced p new
placed_after placed same = record {
  geometry = placed.geometry;
  disk = omega (arith, placed.disk, same.reads.narrowed.size);
  header = omega (arith, placed.header, ap log_end same.header);
}

-- all bitmaps can be put, and so many sectors more
pub has_spare : (p : Geometry) (k : ℕ) (txn : TxnState) → (p.table - p.inode_bitmap) + k ≤ txn.room → HasSpare p k txn
has_spare p k txn room = omega (arith, room, lacking_at_most txn (bitmaps p), length-range_with_len p.inode_bitmap (p.table - p.inode_bitmap))

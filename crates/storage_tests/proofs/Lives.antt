-- What the tests of a file's life ask.
use Rattle.std.proofs.Common.{◌≡◌, ℕ, ◌≤◌, [], refl, ap, subst, ◌∙◌, arith}
use Rattle.fs_layout.specs.declared.inode.Inode.{Inode}
use Rattle.fs_layout.specs.declared.geometry.Geometry.{Geometry}
use Rattle.fs_layout.specs.Bytes.{SectorMap}
use Rattle.fs_layout.specs.Header.{log_end}
use Rattle.fs_layout.specs.Images.{Holds, inode_at}
use Rattle.fs_layout.specs.Ownership.{IsConsistent}
use Rattle.fs_layout.specs.Geometry.{IsGeometry}
use Rattle.sector_txn.specs.Sectors.{TxnState, IsUnchanged}
use Rattle.bit_alloc.specs.Inodes.{IsSound, KeepsBytes}
use Rattle.bit_alloc.proofs.Transactions.{map_unchanged, bitmaps_unchanged}
use Rattle.inode_table.specs.Inodes.{DiffersInAttributes}
use Rattle.blank_map.specs.Maps.{IsPlaced}

-- a map that was only read is sound
pub sound_unchanged : (p : Geometry) (old new : TxnState) → IsSound p old → IsUnchanged old new → IsSound p new
sound_unchanged p old new sound same = record {
  consistent = subst (IsConsistent p) (map_unchanged same) sound.consistent;
  bitmaps = bitmaps_unchanged p old new sound.bitmaps same;
}

-- an inode that was read has its own attributes
pub same_attributes : (p : Geometry) (n : ℕ) (old new : TxnState) → IsUnchanged old new → (v : Inode) → v ≡ inode_at p old.sectors n
    → DiffersInAttributes (inode_at p new.sectors n) v
same_attributes p n old new same v is =
    subst (λ (w : Inode). DiffersInAttributes w v) (is ∙ ap (λ (image : SectorMap). inode_at p image n) (map_unchanged same)) refl

-- a map on a disk as its layout says is where it has to be
pub placed_on : {p : Geometry} {txn : TxnState} → IsGeometry p → p.sectors ≤ txn.disk.size → txn.header ≡ p.header → IsPlaced p txn
placed_on geometry disk same = record { geometry = geometry; disk = disk; header = omega (arith, ap log_end same, geometry.log) }

-- an inode that is read and then saved holds nothing, if it held nothing
pub empty_after : (p : Geometry) (n : ℕ) (old mid new : TxnState) → IsUnchanged old mid
    → KeepsBytes mid.sectors new.sectors (inode_at p mid.sectors n) (inode_at p new.sectors n)
    → Holds old.sectors (inode_at p old.sectors n) [] → Holds new.sectors (inode_at p new.sectors n) []
empty_after p n old mid new same keeps held =
    keeps.bytes [] (subst (λ (image : SectorMap). Holds image (inode_at p image n) []) (map_unchanged same) held)

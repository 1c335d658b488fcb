-- A scan of a directory's slots, whose transaction stays the same.
use Rattle.std.proofs.Common.{◌≡◌, ◌≢◌, ℕ, ◌+◌, ◌/◌, ◌%◌, List, sym, subst, arith, ap}
use Rattle.fs_layout.specs.declared.version.Version.{Version}
use Rattle.fs_layout.specs.Header.{log_end}
use Rattle.fs_layout.specs.Version.{block_slots}
use Rattle.fs_layout.specs.declared.inode.Inode.{Inode}
use Rattle.fs_layout.specs.declared.geometry.Geometry.{Geometry}
use Rattle.fs_layout.specs.Bytes.{SectorMap}
use Rattle.fs_layout.specs.Images.{Owns}
use Rattle.fs_layout.specs.Directories.{HasNames}
use Rattle.sector_txn.specs.Sectors.{TxnState, IsUnchanged}
use Rattle.bit_alloc.specs.Inodes.{IsSound}
use Rattle.inode_table.specs.Inodes.{IsInodeOf}
use Rattle.inode_table.proofs.StoredAcls.{data_mapped}
use Rattle.block_map.specs.Blocks.{IsWithin}
use Rattle.block_map.proofs.Runs.{same_map}
use Rattle.dir_core.specs.Slots.{HasSlots, IsBlock}
use Rattle.dir_core.proofs.SlotPlaces.{same_block}

-- what stands in the table can be read
pub inode_within : {p : Geometry} {txn : TxnState} {v : Inode} → IsSound p txn → IsInodeOf p txn.sectors v → IsWithin txn.header txn.disk.size txn.sectors v
inode_within {p} {txn} {v} sound there s o =
    data_mapped sound (sound.consistent.in_data there.0 s there.1 (subst (λ u. Owns txn.sectors u s) there.2 o))

-- a directory's names are those of its slots
pub slots_of_names : {version : Version} {image : SectorMap} {v : Inode} {names : List (List ℕ × ℕ)} → (h : HasNames version image v names) → HasSlots version image v h.slots
slots_of_names h = record { kind = h.kind; apart = h.apart; each = h.each; few = h.few; holds = h.holds; whole = h.whole }

-- ---- later in the scan
module _ {old mid : TxnState} (same : IsUnchanged old mid) where
  pub within_later : (v w : Inode) → w ≡ v → IsWithin old.header old.disk.size old.sectors v → IsWithin mid.header mid.disk.size mid.sectors w
  within_later v w is within s o =
      let image : mid.sectors ≡ old.sectors = same_map old.sectors mid.sectors same.sectors in
      let r = within s (subst (λ m. Owns m v s) image (subst (λ u. Owns mid.sectors u s) is o)) in
      (omega (arith, r.0, ap log_end same.store.header), omega (arith, r.1, same.store.reads.narrowed.size))

  pub block_later : (v w : Inode) (k : ℕ) (block : List ℕ) → w ≡ v → IsBlock old.sectors v k block → IsBlock mid.sectors w k block
  block_later v w k block is h =
      subst (λ u. IsBlock mid.sectors u k block) (sym is) (subst (λ m. IsBlock m v k block) (sym (same_map old.sectors mid.sectors same.sectors)) h)

  pub block_before : (v w : Inode) (k : ℕ) (block : List ℕ) → w ≡ v → IsBlock mid.sectors w k block → IsBlock old.sectors v k block
  block_before v w k block is h =
      subst (λ m. IsBlock m v k block) (same_map old.sectors mid.sectors same.sectors) (subst (λ u. IsBlock mid.sectors u k block) is h)

-- the next slot's block is at hand, where the slot isn't its first
pub block_stays : (version : Version) (image : SectorMap) (v : Inode) (slot : ℕ) (block : List ℕ) → IsBlock image v (slot / block_slots version) block
    → (slot + 1) % block_slots version ≢ 0 → IsBlock image v ((slot + 1) / block_slots version) block
block_stays version image v slot block h inside = subst (λ k. IsBlock image v k block) (same_block version slot inside) h

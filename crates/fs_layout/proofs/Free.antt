-- An inode without sectors; an image in which no inode owns anything; and what an inode of an image fits.
use Rattle.std.proofs.Common.{◌≡◌, ℕ, zero, suc, ◌+◌, ◌-◌, ◌*◌, ◌/◌, ◌%◌, ◌<◌, ◌≤◌, List, [], length, take, get_or, refl, sym, ap, ◌∙◌, arith, inl, inr, ◌⊎◌, ◌↔◌, IsTrue, Ok}
use Rattle.std.proofs.lemmas.List.{drop-replicate, take-replicate}
use Rattle.std.proofs.lemmas.Bool.{cases_lt}
use Rattle.fs_layout.specs.declared.inode.TheConstants.{DIRECT_BLOCKS, POINTER_LEVELS, INODE_SIZE}
use Rattle.fs_layout.specs.declared.inode.Inode.{Inode}
use Rattle.fs_layout.specs.declared.geometry.Geometry.{Geometry}
use Rattle.fs_layout.specs.Bytes.{SectorMap, IsSector, window, zeros, le16, le32, le64, le32s}
use Rattle.fs_layout.specs.Inode.{inode_bytes, inode_of, inode_fits, free_inode, FitsInode}
use Rattle.fs_layout.specs.Geometry.{IsGeometry}
use Rattle.fs_layout.specs.Images.{HasWholeTables, map_bits, bit, stored, inode_at}
use Rattle.fs_layout.specs.Images.{number_on, byte_in, byte_at, Part, AccessAcl, DefaultAcl, OnLevel, part, Owns, Holds}
use Rattle.fs_layout.specs.Ownership.{IsOwned, IsConsistent}
use Rattle.fs_layout.specs.InodeChanges.{IsOwnedApart, ChangesBlocks}
use Rattle.fs_layout.proofs.Places.{after_map}
use Rattle.fs_layout.proofs.Fields.{part_len, IsBytes-part}
use Rattle.fs_layout.proofs.InodeLaw.{read_fits}
use Rattle.fs_layout.proofs.Pointers.{pointer_direct, pointer_without, no_pointers}
use Rattle.fs_layout.proofs.Saves.{in_table, inode_there, valid_there}
use Rattle.fs_layout.proofs.Blocks.{rewrites}
use Rattle.fs_layout.proofs.SplicedBytes.{get_or-zeros}

-- ---- an inode without sectors
pub record HasNoSector (v : Inode) : Type 0 where
  pub acl : v.acl ≡ 0
  pub default_acl : v.default_acl ≡ 0
  pub direct : (k : ℕ) → get_or v.direct k 0 ≡ 0
  pub indirect : (level : ℕ) → get_or v.indirect level 0 ≡ 0

no_sector_on_level : (image : SectorMap) (v : Inode) (level i : ℕ) → HasNoSector v → number_on image v level i ≡ 0
no_sector_on_level image v zero k none =
    elim (cases_lt k DIRECT_BLOCKS) [
      | inl lt ↦ pointer_direct image v k lt ∙ none.direct k
      | inr ge ↦ pointer_without image v k ge none.indirect
    ]
no_sector_on_level image v (suc level) i none = no_pointers image v none.indirect level i

no_sector_part : (image : SectorMap) (v : Inode) (a : Part) → HasNoSector v → part image v a ≡ 0
unfolding part
no_sector_part image v AccessAcl none = none.acl
no_sector_part image v DefaultAcl none = none.default_acl
no_sector_part image v (OnLevel level i) none = no_sector_on_level image v level i none

-- an inode without sectors owns nothing
pub owns_nothing : (image : SectorMap) (v : Inode) (s : ℕ) → HasNoSector v → Owns image v s → ⊥
owns_nothing image v s none o = o.some (sym o.is ∙ no_sector_part image v o.at none)

-- and holds nothing, if its size is 0
pub holds_nothing : (image : SectorMap) (v : Inode) → HasNoSector v → v.size ≡ 0 → Holds image v []
unfolding byte_at
holds_nothing image v none empty = record {
  size = empty;
  byte = λ i. ap (λ (s : ℕ). byte_in image s (i % 512)) (no_sector_on_level image v 0 (i / 512) none);
  trim = λ level i le. no_sector_on_level image v level i none;
}

-- a free inode has no sector
pub free_has_no_sector : HasNoSector free_inode
unfolding zeros
free_has_no_sector = record { acl = refl; default_acl = refl; direct = get_or-zeros DIRECT_BLOCKS; indirect = get_or-zeros POINTER_LEVELS }

-- a free inode fits its fields
pub free_fits : FitsInode free_inode
unfolding inode_fits zeros
free_fits = record {
  valid = record { numbers = refl; free = λ e. refl };
  mode = omega arith;
  uid = omega arith;
  gid = omega arith;
  names = omega arith;
  size = omega arith;
  parent = omega arith;
  acl = omega arith;
  default_acl = omega arith;
  direct_len = refl;
  direct = λ i. let e : get_or (zeros DIRECT_BLOCKS) i 0 ≡ 0 = get_or-zeros DIRECT_BLOCKS i in omega (arith, e);
  indirect_len = refl;
  indirect = λ i. let e : get_or (zeros POINTER_LEVELS) i 0 ≡ 0 = get_or-zeros POINTER_LEVELS i in omega (arith, e);
  mtime = omega arith;
  ctime = omega arith;
  atime = omega arith;
}

-- A used inode without sectors becomes free, or a free one used: what is owned does not change.
pub no_sector_changes : {p : Geometry} {v w : Inode} {image : SectorMap} → IsGeometry p → HasWholeTables p image → IsOwnedApart p image v → HasNoSector v
    → HasNoSector w → ChangesBlocks p v w image image
no_sector_changes {v = v} {w} {image} geometry tables apart none then =
    rewrites geometry tables apart (λ a. no_sector_part image w a then ∙ sym (no_sector_part image v a none)) (record { whole = apart.whole; others = λ s ban. refl })

-- ---- an inode table of zeros
free_bytes : inode_bytes free_inode ≡ zeros INODE_SIZE
unfolding le16 le32 le64 le32s zeros
free_bytes = refl

zeros_window : (at : ℕ) → at + INODE_SIZE ≤ 512 → window (zeros 512) at INODE_SIZE ≡ zeros INODE_SIZE
unfolding zeros
zeros_window at room = ap (take INODE_SIZE) (drop-replicate at 512 0) ∙ take-replicate INODE_SIZE (512 - at) 0 (omega arith)

-- a sector of zeros in the table has free inodes, which are valid
pub free_where_zeros : (p : Geometry) (image : SectorMap) (n : ℕ) → image (p.table + n / 4) ≡ zeros 512
    → (inode_at p image n ≡ free_inode) × (inode_of (stored p image n) ≡ Ok (inode_at p image n))
unfolding stored
free_where_zeros p image n e =
    let bytes : stored p image n ≡ inode_bytes free_inode = ap (λ (r : List ℕ). window r (INODE_SIZE * (n % 4)) INODE_SIZE) e ∙ zeros_window (INODE_SIZE * (n % 4)) (omega arith) ∙ sym free_bytes in
    (inode_there p image n free_inode free_fits bytes, valid_there p image n free_inode free_fits bytes)

-- ---- what is read fits
-- an inode of a consistent image fits its fields
pub inode_fits_there : {p : Geometry} {image : SectorMap} → IsConsistent p image → (n : ℕ) → n < p.inodes → FitsInode (inode_at p image n)
unfolding stored
inode_fits_there {p} {image} h n lt =
    let i = in_table p n h.geometry lt in
    let whole : IsSector (image (p.table + n / 4)) = h.sectors (p.table + n / 4) (let a = after_map h.geometry in omega (arith, a)) i.1 in
    let room : INODE_SIZE * (n % 4) + INODE_SIZE ≤ length (image (p.table + n / 4)) = omega (arith, whole.len) in
    read_fits (stored p image n) (inode_at p image n) (part_len INODE_SIZE (INODE_SIZE * (n % 4)) (image (p.table + n / 4)) room)
    (IsBytes-part INODE_SIZE (INODE_SIZE * (n % 4)) (image (p.table + n / 4)) whole.bytes) (h.valid n lt)

-- ---- an image in which nothing is owned
-- It is consistent where its inodes are valid, and the bits set are those below the data and past the end. So is
-- the image of a new disk.
pub consistent_without_owners : (p : Geometry) (image : SectorMap) → IsGeometry p → HasWholeTables p image
    → ((n : ℕ) → n < p.inodes → inode_of (stored p image n) ≡ Ok (inode_at p image n))
    → ((n s : ℕ) → n < p.inodes → Owns image (inode_at p image n) s → ⊥)
    → ((s : ℕ) → s < map_bits p → IsTrue (bit image p.block_bitmap s) ↔ ((s < p.first_data) ⊎ (p.sectors ≤ s)))
    → IsConsistent p image
consistent_without_owners p image geometry tables valid none bits = record {
  geometry = geometry;
  sectors = tables;
  owned_sectors = λ n s lt o. absurd (none n s lt o);
  valid = valid;
  in_data = λ n s lt o. absurd (none n s lt o);
  sole = λ n m s ln lm a b. absurd (none n s ln a);
  block_bits = λ s fits. (λ t. outside s ((bits s fits).0 t), λ o. (bits s fits).1 (back s o));
}
  where
    outside : (s : ℕ) → (s < p.first_data) ⊎ (p.sectors ≤ s) → (s < p.first_data) ⊎ ((p.sectors ≤ s) ⊎ IsOwned p image s)
    outside s (inl low) = inl low
    outside s (inr past) = inr (inl past)

    back : (s : ℕ) → (s < p.first_data) ⊎ ((p.sectors ≤ s) ⊎ IsOwned p image s) → (s < p.first_data) ⊎ (p.sectors ≤ s)
    back s (inl low) = inl low
    back s (inr (inl past)) = inr past
    back s (inr (inr o)) = absurd (none o.by s o.below o.is)

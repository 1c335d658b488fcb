-- An inode is freed: its bit is cleared, the sectors of its ACLs are given back, and zeros are written.
use Rattle.std.proofs.Common.{◌≡◌, ℕ, ◌<◌, ◌≤◌, [], None, refl, sym, subst, ◌∙◌, arith, inl, inr}
use Rattle.std.proofs.lemmas.Bool.{cases_lt}
use Rattle.std.proofs.lemmas.List.{get_or_past}
use Rattle.fs_layout.specs.declared.inode.TheConstants.{DIRECT_BLOCKS}
use Rattle.fs_layout.specs.declared.inode.Inode.{Inode}
use Rattle.fs_layout.specs.declared.geometry.Geometry.{Geometry}
use Rattle.fs_layout.specs.Bytes.{SectorMap}
use Rattle.fs_layout.specs.Inode.{FitsInode, free_inode}
use Rattle.fs_layout.specs.Images.{AccessAcl, DefaultAcl, part, Holds, inode_map_bits, bit, free_sectors, inode_at}
use Rattle.fs_layout.specs.Ownership.{IsConsistent}
use Rattle.fs_layout.specs.InodeChanges.{IsOwnedApart, MarksInode, ChangesBlocks, ChangesInode, Saves}
use Rattle.fs_layout.proofs.Composes.{apart_after, both_changes, both_inodes}
use Rattle.fs_layout.proofs.Consistent.{owned_is_apart, stays_consistent, saved_stays_consistent}
use Rattle.fs_layout.proofs.Free.{HasNoSector, free_fits, free_has_no_sector, inode_fits_there, no_sector_changes}
use Rattle.fs_layout.proofs.Marks.{marks_change}
use Rattle.fs_layout.proofs.Places.{after_map}
use Rattle.fs_layout.proofs.Pointers.{pointer_direct, trimmed_named, turns_acl, turns_default_acl}
use Rattle.fs_layout.proofs.Saves.{IsSaved}
use Rattle.bit_alloc.proofs.Soundness.{free_kept}
use Rattle.inode_table.specs.Storing.{GivesBack}
use Rattle.inode_table.proofs.Stores.{HasStored, stored}

-- an inode that holds nothing has no sector but those of its ACLs
without_acls : (image : SectorMap) (v : Inode) → FitsInode v → Holds image v [] → HasNoSector (record v { acl = 0; default_acl = 0 })
without_acls image v fits h = record {
  acl = refl;
  default_acl = refl;
  direct = λ k. elim (cases_lt k DIRECT_BLOCKS) [
    | inl lt ↦ sym (pointer_direct image v k lt) ∙ h.trim 0 k (let z = h.size in omega (arith, z))
    | inr ge ↦ get_or_past v.direct k 0 (let len = fits.direct_len in omega (arith, len, ge))
  ];
  indirect = λ level. trimmed_named image v fits.indirect_len h.trim level (let z = h.size in omega (arith, z));
}

module _ {p : Geometry} {n : ℕ} {m0 m1 m2 m3 m4 : SectorMap}
    (h : IsConsistent p m0) (lt : n < p.inodes) (empty : Holds m0 (inode_at p m0 n) [])
    (mark : MarksInode p n m0 m1) (access : GivesBack p (inode_at p m0 n).acl m1 m2) (default : GivesBack p (inode_at p m0 n).default_acl m2 m3)
    (saves : Saves p n free_inode m3 m4) where
  first : ChangesInode p n m0 m1 × (inode_at p m1 n ≡ inode_at p m0 n)
  first = marks_change h lt mark

  now : IsConsistent p m1
  now = stays_consistent h lt first.0

  apart : IsOwnedApart p m1 (inode_at p m0 n)
  apart = subst (λ (u : Inode). IsOwnedApart p m1 u) first.1 (owned_is_apart now n lt)

  second : HasStored p (inode_at p m0 n) (record (inode_at p m0 n) { acl = 0 }) AccessAcl 0 m1 m2
  unfolding part
  second =
      let v = inode_at p m0 n in
      stored {x = v.acl} h.geometry now.sectors apart refl {y = 0} None (λ n i e. cc) (λ c e. cc) (refl, access) (λ keeps. turns_acl m1 m2 v v.acl 0 refl keeps)

  third : HasStored p (record (inode_at p m0 n) { acl = 0 }) (record (inode_at p m0 n) { acl = 0; default_acl = 0 }) DefaultAcl 0 m2 m3
  unfolding part
  third =
      let v = inode_at p m0 n in
      let between : Inode = record v { acl = 0 } in
      stored {x = v.default_acl} h.geometry second.changes.owned.sectors (apart_after h.geometry apart second.changes.owned) refl {y = 0} None (λ n i e. cc) (λ c e. cc)
      (refl, default) (λ keeps. turns_default_acl m2 m3 between v.default_acl 0 refl keeps)

  -- then it owns nothing, and neither does a free inode
  changes : ChangesBlocks p (inode_at p m0 n) free_inode m1 m3
  changes =
      let v = inode_at p m0 n in
      let both = both_changes h.geometry second.changes third.changes in
      let none = without_acls m0 v (inode_fits_there h n lt) empty in
      both_changes h.geometry both (no_sector_changes h.geometry third.changes.owned.sectors (apart_after h.geometry apart both.owned) none free_has_no_sector)

  saved : IsConsistent p m4 × IsSaved p n free_inode m1 m3 m4
  saved = saved_stays_consistent now lt first.1 free_fits changes saves

  pub freed_consistent : IsConsistent p m4
  freed_consistent = saved.0

  pub freed_changes : ChangesInode p n m0 m4
  freed_changes = both_inodes h.geometry first.0 saved.1.changes

  pub freed_is : inode_at p m4 n ≡ free_inode
  freed_is = saved.1.is

  -- the inode bitmap is as the mark left it
  pub freed_bits : (m : ℕ) → m < inode_map_bits p → bit m4 p.inode_bitmap m ≡ bit m1 p.inode_bitmap m
  freed_bits = saved.1.inode_bits

  pub freed_free_sectors : free_sectors p m0 ≤ free_sectors p m4
  freed_free_sectors =
      let a = free_kept p n m0 m1 mark in
      omega (arith, a, second.free, third.free, saved.1.free)

  pub freed_super : m4 0 ≡ m0 0
  freed_super =
      let from = after_map h.geometry in
      saves.others 0 (λ e. omega (arith, from, e)) ∙ third.low 0 (omega (arith, from)) ∙ second.low 0 (omega (arith, from))
      ∙ mark.others 0 (λ i. let past = i.0 in omega (arith, past, from))

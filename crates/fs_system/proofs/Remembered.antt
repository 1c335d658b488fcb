-- What a store remembers of how much is free in it, and in each sector of the bitmaps.
use Rattle.call_parts.specs.BothTables.{Tables}
use Rattle.std.proofs.Common.{◌≡◌, ℕ, ◌≤◌, List, Option, Some, None, refl, sym, ap, subst, ◌∙◌, inl, inr}
use Rattle.std.specs.Prelude.{not, count_by, Contains, IfSome}
use Rattle.bit_alloc.specs.Bits.{clear_below}
use Rattle.free_counts.specs.Known.{CountList, count_known, TellsClear}
use Rattle.fs_layout.specs.Header.{header_of, log_end}
use Rattle.sector_disk.specs.Disk.{DiskState}
use Rattle.sector_txn.specs.Sectors.{TxnState}
use Rattle.sector_txn.specs.Stores.{StoreView, present}
use Rattle.std.specs.List.{range_with_len}
use Rattle.fs_layout.specs.declared.geometry.Geometry.{Geometry}
use Rattle.fs_layout.specs.Bytes.{SectorMap}
use Rattle.fs_layout.specs.Images.{bit, free_sectors}
use Rattle.fs_layout.specs.Geometry.{geometry_in}
use Rattle.fs_layout.specs.Superblock.{FitsSuper, super_bytes, super_of}
use Rattle.fs_layout.proofs.RecoveryLaw.{contains_at, target_or_none}
use Rattle.fs_layout.proofs.SuperLaw.{super_codec}
use Rattle.fs_layout.proofs.Codecs.{same_spelling}
use Rattle.redo_journal.specs.Meaning.{SameMap}
use Rattle.redo_journal.proofs.Meaning.{same_back}
use Rattle.fs_model.specs.States.{State}
use Rattle.fs_model.specs.Trees.{Room, free_inodes}
use Rattle.fs_model.proofs.FreeInodes.{free_are_clear}
use Rattle.fs_system.specs.declared.counted.FreeSpace.{FreeSpace}
use Rattle.fs_system.specs.declared.counted.KnownSpace.{KnownSpace}
use Rattle.fs_system.specs.Counting.{TellsSpace, IsRemembered, TellsCounts, HasCounts, IsKnown}
use Rattle.fs_system.specs.Layouts.{IsDiskOf}
use Rattle.fs_system.specs.Running.{IsRunning}
use Rattle.fs_system.proofs.Ends.{running_same, tree_held}

some_same : (p q : Geometry) (x y : Option Geometry) → x ≡ Some p → y ≡ Some q → x ≡ y → p ≡ q
some_same p q x y e f g = cc

-- a disk is laid out in one way
one_geometry : (size : ℕ) (map : SectorMap) (p q : Geometry) → IsDiskOf size p map → IsDiskOf size q map → p ≡ q
one_geometry size map p q x y =
    let super : x.super ≡ y.super =
    same_spelling 512 FitsSuper super_bytes super_of super_codec x.super y.super x.super_fits y.super_fits (sym x.super_is ∙ y.super_is) in
    some_same p q _ _ x.has_geometry y.has_geometry (ap (λ v. geometry_in v.version v.header size v.inodes) super)

-- what was counted is so of each state of this map
pub counted_tells : (size : ℕ) (p : Geometry) (map : SectorMap) (tables : Tables) (s : State) → IsRunning size p map tables s → (free : FreeSpace)
    → free.sectors ≡ free_sectors p map → free.inodes ≡ count_by (λ n. not (bit map p.inode_bitmap n)) (range_with_len 0 p.inodes) → TellsSpace size map free
counted_tells size p map tables s r free all clear = record {
  sectors = λ q others t on. on.state_of.free_is ∙ ap (λ k. free_sectors k map) (one_geometry size map q p on.disk_is r.disk_is) ∙ sym all;
  inodes = λ q others t on.
      let held = tree_held q map others t on.state_of in
      ap (λ (k : Room). free_inodes k t.tree) on.state_of.same_room ∙ free_are_clear q map t.tree held.holds held.tree_is
      ∙ ap (λ (k : Geometry). count_by (λ n. not (bit map k.inode_bitmap n)) (range_with_len 0 k.inodes))
      (one_geometry size map q p on.disk_is r.disk_is) ∙ sym clear;
}

-- What is told of the free space holds of the same map.
pub tells_after : (size size' : ℕ) (old new : SectorMap) (free : FreeSpace) → size' ≡ size → SameMap new old
    → TellsSpace size old free → TellsSpace size' new free
tells_after size size' old new free sized same told = record {
  sectors = λ p tables s r. told.sectors p tables s (running_same size' size p new old tables tables s (sym sized) (same_back new old same) refl r);
  inodes = λ p tables s r. told.inodes p tables s (running_same size' size p new old tables tables s (sym sized) (same_back new old same) refl r);
}

pub remembered_after : (size size' : ℕ) (old new : SectorMap) (free : Option FreeSpace) → size' ≡ size → SameMap new old → IsRemembered size old free
    → IsRemembered size' new free
remembered_after size size' old new None sized same is = tt
remembered_after size size' old new (Some free) sized same is = tells_after size size' old new free sized same is

-- ---- the counts of sectors
-- no count is that of any map
pub nothing_counted : (map : SectorMap) (counts : CountList) → ((n : ℕ) → count_known counts n ≡ None) → TellsCounts map counts
nothing_counted map counts none = λ n past. subst (λ (c : Option ℕ). IfSome c (λ k. k ≡ clear_below (λ _. map n) 0 4096)) (sym (none n)) tt

-- those of a map are those of one that is the same
pub counts_after : (old new : SectorMap) (counts : CountList) → SameMap new old → TellsCounts old counts → TellsCounts new counts
counts_after old new counts same told = λ n past.
    let behind : log_end (header_of (old 0)) ≤ n = subst (λ (s : List ℕ). log_end (header_of s) ≤ n) (same 0 (inl refl)) past in
    subst (λ (s : List ℕ). IfSome (count_known counts n) (λ k. k ≡ clear_below (λ _. s) 0 4096)) (sym (same n (inr behind))) (told n behind)

-- in a transaction on a disk with as many header sectors as its sector 0 says
module _ (txn : TxnState) (counts : CountList) (is : txn.header ≡ header_of (txn.sectors 0)) where
  pub counts_told : TellsCounts txn.sectors counts → HasCounts txn counts
  counts_told told = record { told = subst (λ (h : ℕ). TellsClear h txn.sectors counts) (sym is) told }

  pub told_counts : HasCounts txn counts → TellsCounts txn.sectors counts
  told_counts has = subst (λ (h : ℕ). TellsClear h txn.sectors counts) is has.told

-- where some sectors alone were written, and nothing is known of them any more
counts_apart : (before now : SectorMap) (sectors : List ℕ) (old new : CountList) → (Contains sectors 0 → ⊥) → ((n : ℕ) → (Contains sectors n → ⊥) → now n ≡ before n)
    → ((n : ℕ) → Contains sectors n → count_known new n ≡ None) → ((n : ℕ) → (Contains sectors n → ⊥) → count_known new n ≡ count_known old n)
    → TellsCounts before old → TellsCounts now new
counts_apart before now sectors old new super same here others told = λ n past. elim (target_or_none sectors n) [
  | inl (k, (lt, is)) ↦
      subst (λ (c : Option ℕ). IfSome c (λ k. k ≡ clear_below (λ _. now n) 0 4096)) (sym (here n (contains_at sectors k n lt is))) tt
  | inr apart ↦
      let behind : log_end (header_of (before 0)) ≤ n = subst (λ (s : List ℕ). log_end (header_of s) ≤ n) (same 0 super) past in
      subst (λ (c : Option ℕ). IfSome c (λ k. k ≡ clear_below (λ _. now n) 0 4096)) (sym (others n apart))
      (subst (λ (s : List ℕ). IfSome (count_known old n) (λ k. k ≡ clear_below (λ _. s) 0 4096)) (sym (same n apart)) (told n behind))
]

-- ---- both
-- what is known of a map is known of one that is the same
pub knows_same : (size size' : ℕ) (old new : SectorMap) (known : KnownSpace) → size' ≡ size → SameMap new old → IsKnown size old known → IsKnown size' new known
knows_same size size' old new known sized same knows = record {
  space = remembered_after size size' old new known.free sized same knows.space;
  counts_are = counts_after old new known.counts same knows.counts_are;
}

-- the same of what a store has
pub knows_store : {D : Type 0} {known : KnownSpace} (state : D → DiskState) (old new : StoreView D) → (state new.disk).size ≡ (state old.disk).size
    → SameMap (present state new) (present state old) → IsKnown (state old.disk).size (present state old) known
    → IsKnown (state new.disk).size (present state new) known
knows_store {D} {known} state old new sized same knows =
    knows_same (state old.disk).size (state new.disk).size (present state old) (present state new) known sized same knows

-- and but for some sectors, of one that differs in these alone
pub knows_apart : (size : ℕ) (before now : SectorMap) (sectors : List ℕ) (known : KnownSpace) (counts : CountList) → (Contains sectors 0 → ⊥)
    → ((n : ℕ) → (Contains sectors n → ⊥) → now n ≡ before n) → ((n : ℕ) → Contains sectors n → count_known counts n ≡ None)
    → ((n : ℕ) → (Contains sectors n → ⊥) → count_known counts n ≡ count_known known.counts n)
    → IsKnown size before known → IsKnown size now (record { free = None; counts = counts })
knows_apart size before now sectors known counts super same here others knows = record {
  space = tt;
  counts_are = counts_apart before now sectors known.counts counts super same here others knows.counts_are;
}

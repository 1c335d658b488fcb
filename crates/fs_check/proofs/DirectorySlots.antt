-- The slots of one directory.
use Rattle.std.specs.Prelude.{◌≡◌, ◌≢◌, ℕ, ◌+◌, ◌*◌, ◌/◌, ◌%◌, ◌<◌, List, length, Result, Ok, Bool, true, false, IsTrue, ◌↔◌, All}
use Rattle.std.proofs.Common.{refl, sym, ap, arith, ◌∙◌, subst, inl, inr}
use Rattle.std.proofs.lemmas.Bool.{cases_eq, cases_lt}
use Rattle.fs_layout.specs.declared.fault.LayoutFault.{LayoutFault}
use Rattle.fs_layout.specs.declared.inode.Inode.{Inode}
use Rattle.fs_layout.specs.declared.geometry.Geometry.{Geometry}
use Rattle.fs_layout.specs.declared.version.Version.{Version}
use Rattle.fs_layout.specs.declared.version.Version.TheVariants.{One, Two, Three}
use Rattle.fs_layout.specs.Version.{slot_size, block_slots}
use Rattle.fs_layout.specs.Bytes.{SectorMap, window}
use Rattle.fs_layout.specs.Images.{Part, part, pointer, Owns, IsData}
use Rattle.fs_layout.specs.Directories.{NamedInode, stored_slot, slot_at, slot_of, slot_or_none, slot_count}
use Rattle.sector_disk.specs.Disk.{DiskState, OnlyReads}
use Rattle.fs_model.specs.Rules.{IsGeometryOf}
use Rattle.fs_check.specs.Checks.{meaning, AreInodes}
use Rattle.fs_layout.specs.declared.inode.Kind.TheVariants.{Free}
use Rattle.fs_check.proofs.Tests.{free_behind, refuses}
use Rattle.fs_check.specs.Naming.{block_of_slot, AreValid, AreSlots, IsUsable, HasGoodSlots}
use Rattle.fs_check.proofs.Carrying.{meaning_same}
use Rattle.fs_check.proofs.Openings.{many_sectors, geometry_size}

-- ---- the block of a slot

-- what an inode has is on the disk, or it has none
pub part_on_disk : (size : ℕ) (image : SectorMap) (p : Geometry) (m : SectorMap) (v : Inode) (a : Part) → IsGeometryOf size image p
    → ((s : ℕ) → Owns m v s → IsData p s) → part m v a < size
part_on_disk size image p m v a at in_data = elim (cases_eq (part m v a) 0) [
  | inl none ↦ (let many = many_sectors size image (record { geometry = p; is = at }) in omega (arith, none, many))
  | inr some ↦
      let below = (in_data (part m v a) (record { at = a; is = refl; some = some })).1 in
      let same = geometry_size size image p at in
      omega (arith, below, same)
]

module _ (old mid : DiskState) (reads : OnlyReads old mid) (v : Inode) where
  pub in_data_still : (p : Geometry) → ((s : ℕ) → Owns (meaning old) v s → IsData p s) → (s : ℕ) → Owns (meaning mid) v s → IsData p s
  in_data_still p x = subst (λ m. (s : ℕ) → Owns m v s → IsData p s) (sym (meaning_same reads)) x

  pub block_back : (version : Version) (k : ℕ) (block : List ℕ) → block ≡ block_of_slot version (meaning mid) v k → block ≡ block_of_slot version (meaning old) v k
  block_back version k block x = subst (λ (m : SectorMap). block ≡ block_of_slot version m v k) (meaning_same reads) x

  pub block_still : (version : Version) (k : ℕ) (block : List ℕ) → block ≡ block_of_slot version (meaning old) v k → block ≡ block_of_slot version (meaning mid) v k
  block_still version k block x = subst (λ (m : SectorMap). block ≡ block_of_slot version m v k) (sym (meaning_same reads)) x

-- ---- one slot

-- slot k begins at this byte of its block
module _ (version : Version) (m : SectorMap) (v : Inode) (k at : ℕ) (block : List ℕ) (is : block ≡ block_of_slot version m v k)
    (begins : at ≡ slot_size version * (k % block_slots version)) where
  slot_here : window block at (slot_size version) ≡ stored_slot version m v k
  unfolding stored_slot
  slot_here =
      ap (λ (s : List ℕ). window s at (slot_size version)) is
      ∙ ap (λ i. window (block_of_slot version m v k) i (slot_size version)) begins

  pub valid_here : (x : NamedInode) (r : Result NamedInode LayoutFault) → r ≡ slot_of version (window block at (slot_size version)) → r ≡ Ok x
      → (slot_of version (stored_slot version m v k) ≡ Ok (slot_at version m v k)) × (x ≡ slot_at version m v k)
  unfolding slot_at
  valid_here x r from found =
      let read : slot_of version (stored_slot version m v k) ≡ Ok x = ap (slot_of version) (sym slot_here) ∙ sym from ∙ found in
      let there : slot_or_none (slot_of version (stored_slot version m v k)) ≡ x = ap slot_or_none read in
      (read ∙ ap (λ y. Ok y) (sym there), sym there)

  pub not_valid : (r : Result NamedInode LayoutFault) → r ≡ slot_of version (window block at (slot_size version)) → ((x : NamedInode) → r ≡ Ok x → ⊥)
      → k < slot_count version v → AreValid version m v → ⊥
  not_valid r from none lt valid = none (slot_at version m v k) (from ∙ ap (slot_of version) slot_here ∙ valid k lt)

-- the next slot stands in the same block, or begins one
next_slot : (version : Version) (k : ℕ) → (k + 1) % block_slots version ≢ 0 → k / block_slots version ≡ (k + 1) / block_slots version
next_slot One k ne = omega (arith, ne)
next_slot Two k ne = omega (arith, ne)
next_slot Three k ne = omega (arith, ne)

pub same_block : (version : Version) (m : SectorMap) (v : Inode) (k : ℕ) (block : List ℕ) → block ≡ block_of_slot version m v k
    → (k + 1) % block_slots version ≢ 0 → block ≡ block_of_slot version m v (k + 1)
same_block version m v k block is ne = is ∙ ap (λ b. m (pointer m v b)) (next_slot version k ne)

-- where it begins, by numbers that are told
pub slot_begins : (version : Version) (k size slots : ℕ) → size ≡ slot_size version → slots ≡ block_slots version
    → size * (k % slots) ≡ slot_size version * (k % block_slots version)
slot_begins version k size slots a b = ap (λ n. n * (k % slots)) a ∙ ap (λ n. slot_size version * (k % n)) b

-- ---- the rule on slots

module _ (p : Geometry) (m : SectorMap) (v : Inode) (inodes : List Inode) (slots : List NamedInode) (table : AreInodes p m inodes) (are : AreSlots p.version m v slots) where
  good_if_usable : All (IsUsable inodes) slots → HasGoodSlots p m v
  good_if_usable usable k lt =
      let len = are.len in
      let u = subst (IsUsable inodes) (are.each k (slot_at p.version m v k) lt) (usable k (slot_at p.version m v k) (omega (arith, lt, len))) in
      let size = table.len in
      let low = u.below in
      let below : (slot_at p.version m v k).ino < p.inodes = omega (arith, size, low) in
      record {
        is = are.valid k lt;
        below = below;
        used = subst (λ (w : Inode). w.kind ≢ Free) (table.each (slot_at p.version m v k).ino below) u.used;
        not_root = u.not_root;
      }

  usable_if_good : HasGoodSlots p m v → All (IsUsable inodes) slots
  usable_if_good good k d lt =
      let len = are.len in
      let below : k < slot_count p.version v = omega (arith, lt, len) in
      let x = good k below in
      let low = x.below in
      subst (IsUsable inodes) (sym (are.each k d below)) (record {
        below = elim (cases_lt (slot_at p.version m v k).ino (length inodes)) [
          | inl in_list ↦ in_list
          | inr past ↦ absurd (x.used (ap (λ (w : Inode). w.kind) (free_behind p m inodes (slot_at p.version m v k).ino table past low)))
        ];
        used = subst (λ (w : Inode). w.kind ≢ Free) (sym (table.each (slot_at p.version m v k).ino low)) x.used;
        not_root = x.not_root;
      })

  pub not_good : (b : Bool) (seen : List NamedInode) → seen ≡ slots → b ≡ false → (IsTrue b ↔ All (IsUsable inodes) seen) → HasGoodSlots p m v → ⊥
  not_good b seen same e test good = refuses (All (IsUsable inodes) seen) b e test (subst (All (IsUsable inodes)) (sym same) (usable_if_good good))

  pub are_good : (b : Bool) (seen : List NamedInode) → seen ≡ slots → b ≡ true → (IsTrue b ↔ All (IsUsable inodes) seen) → HasGoodSlots p m v
  are_good b seen same e test = good_if_usable (subst (All (IsUsable inodes)) same (test.0 e))

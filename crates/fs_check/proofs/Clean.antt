-- A disk that obeys all rules stands for a tree, which the summary counts.
use Rattle.std.specs.Prelude.{◌≡◌, ℕ, zero, suc, ◌+◌, ◌-◌, ◌<◌, ◌≤◌, ◌^◌, ◌==◌, ◌&&◌, Bool, true, false, not, cond}
use Rattle.std.specs.Prelude.{List, length, get_or, drop, map, count_by, IsTrue, ◌↔◌}
use Rattle.std.proofs.Common.{refl, sym, ap, arith, ◌∙◌, subst, inl, inr}
use Rattle.std.specs.List.{range_with_len}
use Rattle.std.proofs.lemmas.List.{ext_get_or, get_or-drop, length-drop}
use Rattle.std.proofs.lemmas.List.FromFn.{get_or-map-range_with_len, length-map-range_with_len}
use Rattle.std.proofs.lemmas.List.Sums.{sum_by-cons}
use Rattle.fs_layout.specs.declared.inode.Inode.{Inode}
use Rattle.fs_layout.specs.declared.geometry.Geometry.{Geometry}
use Rattle.fs_layout.specs.Bytes.{SectorMap}
use Rattle.fs_layout.specs.Inode.{free_inode}
use Rattle.fs_layout.specs.Geometry.{IsGeometry}
use Rattle.fs_layout.specs.Images.{IsData, bit, inode_at, free_sectors}
use Rattle.fs_layout.specs.Commit.{IsCommit, named_area}
use Rattle.fs_layout.proofs.Bits.{has_bit}
use Rattle.fs_layout.proofs.Counting.{count_split, count_none}
use Rattle.fs_layout.proofs.Places.{is_a_geometry}
use Rattle.fs_layout.proofs.Targets.{targets_in-commit}
use Rattle.sector_disk.specs.Disk.{DiskState, IsImage, IsWholeSector, OnlyReads, sector}
use Rattle.fs_model.specs.Rules.{IsGeometryOf, InData, BlockBits, is_directory_kind, ObeysBefore, ObeysAll, HasWholeSectors}
use Rattle.fs_model.specs.Summaries.{is_file_kind, is_link_kind, is_used, some_target}
use Rattle.fs_model.specs.Trees.{Tree}
use Rattle.fs_model.specs.Stands.{room_of}
use Rattle.fs_model.proofs.BuiltTrees.{tree_is, held_all}
use Rattle.fs_model.proofs.RulesLaw.{geometry, now_whole, the_tree, stands}
use Rattle.fs_model.proofs.Findings.{each_obeyed}
use Rattle.fs_model.proofs.Summaries.{files_counted, nameless_counted, directories_counted, links_counted, nodes_counted}
use Rattle.fs_check.specs.declared.faults.Summary.{Summary}
use Rattle.fs_check.specs.Checks.{meaning, BeginsWith, AreInodes, IsOwnerMap, IsCounted, IsClean}
use Rattle.fs_check.proofs.BitTables.{either}
use Rattle.fs_check.proofs.Tests.{inode_here, free_behind}
use Rattle.fs_check.proofs.Carrying.{back_of, meaning_same, before_back}

-- ---- counts over lists and over ranges

counted : {A : Type 0} (f : A → Bool) (g : ℕ → A) (a n : ℕ) → count_by f (map g (range_with_len a n)) ≡ count_by (λ k. f (g k)) (range_with_len a n)
counted f g a zero = refl
counted f g a (suc n) =
    let rest = counted f g (a + 1) n in
    let one = sum_by-cons (λ x. cond (f x) 1 0) (g a) (map g (range_with_len (a + 1) n)) in
    let two = sum_by-cons (λ (k : ℕ). cond (f (g k)) 1 0) a (range_with_len (a + 1) n) in
    omega (arith, one, two, rest)

-- a list whose elements are known
list_is : {A : Type 0} (xs : List A) (d : A) (g : ℕ → A) (a n : ℕ) → length xs ≡ n → ((k : ℕ) → k < n → get_or xs k d ≡ g (a + k))
    → xs ≡ map g (range_with_len a n)
list_is xs d g a n len each =
    ext_get_or d xs (map g (range_with_len a n)) (len ∙ sym (length-map-range_with_len g a n)) (λ k lt.
    let below : k < n = omega (arith, lt, len) in
    each k below ∙ sym (get_or-map-range_with_len g a n k (a + k) d below refl))

same_bools : (b c : Bool) → IsTrue b ↔ IsTrue c → b ≡ c
same_bools true true h = refl
same_bools true false h = absurd (let e : false ≡ true = h.0 refl in cc)
same_bools false true h = absurd (let e : false ≡ true = h.1 refl in cc)
same_bools false false h = refl

-- ---- the whole

-- each sector of what is seen has 512 bytes
pub whole_seen : (d : DiskState) → IsImage d d.seen → ((n : ℕ) (content : List ℕ) → n < d.size → d.may_hold n content → IsWholeSector content)
    → HasWholeSectors d.size (sector d.seen)
whole_seen d is each s lt = let here = each s (sector d.seen s) lt (is.each s lt) in record { len = here.len; bytes = here.bytes }

module _ (d : DiskState) (p : Geometry) (area : ℕ) (targets : List ℕ) (inodes : List Inode) (owned : List Bool) (s : Summary) (small : d.size < 2 ^ 32)
    (whole : HasWholeSectors d.size (sector d.seen)) (opened : BeginsWith d p area targets) (table : AreInodes p (meaning d) inodes)
    (owners : IsOwnerMap p (meaning d) owned)
    (before : ObeysBefore p (meaning d) 15) (counts : IsCounted p targets inodes owned s) where
  abbrev pub all : ObeysAll d.size (sector d.seen)
  all = record { geometry = p; is_geometry = opened.geometry; commit = record { targets = targets; is = opened.commit }; rules = each_obeyed p (meaning d) before }

  abbrev pub the_geometry_is : IsGeometry p
  the_geometry_is = geometry d.size (sector d.seen) whole all

  abbrev pub t : Tree
  t = the_tree d.size (sector d.seen) whole all

  inode_list : inodes ≡ map (inode_at p (meaning d)) (range_with_len 0 (length inodes))
  inode_list = list_is inodes free_inode (inode_at p (meaning d)) 0 (length inodes) refl
      (λ k lt. inode_here p (meaning d) inodes k free_inode table lt ∙ ap (inode_at p (meaning d)) (let e : k ≡ 0 + k = omega arith in e))

  -- a free one isn't counted, so those behind the list aren't
  by_list : (f : Inode → Bool) → f free_inode ≡ false → count_by f inodes ≡ count_by (λ n. f (inode_at p (meaning d) n)) (range_with_len 0 p.inodes)
  by_list f free =
      let g : ℕ → Bool = λ n. f (inode_at p (meaning d) n) in
      let len = table.len in
      let listed : count_by f inodes ≡ count_by g (range_with_len 0 (length inodes)) =
      ap (count_by f) inode_list ∙ counted f (inode_at p (meaning d)) 0 (length inodes) in
      let all : length inodes + (p.inodes - length inodes) ≡ p.inodes = omega (arith, len) in
      let split = count_split g 0 (length inodes) (p.inodes - length inodes) in
      let none = count_none g (0 + length inodes) (p.inodes - length inodes) (λ k from to.
      ap f (free_behind p (meaning d) inodes k table (omega (arith, from)) (omega (arith, to, len))) ∙ free) in
      let whole = ap (λ (n : ℕ). count_by g (range_with_len 0 n)) all in
      omega (arith, listed, split, none, whole)

  -- a data sector's bit says whether it is owned
  bit_is : (k : ℕ) → IsData p k → get_or owned k false ≡ bit (meaning d) p.block_bitmap k
  bit_is k data_sector =
      let rule = before BlockBits (omega arith) k (has_bit the_geometry_is k data_sector.1) in
      same_bools _ _ (
        (λ set. rule.1 (inr (inr ((owners.each k data_sector.1).0 set)))),
        (λ set. elim (rule.0 set) [
          | inl low ↦ absurd (let from = data_sector.0 in omega (arith, low, from))
          | inr past ↦ elim past [
            | inl high ↦ absurd (let to = data_sector.1 in omega (arith, high, to))
            | inr is ↦ (owners.each k data_sector.1).1 is
          ]
        ]),
      )

  free_list : drop p.first_data owned ≡ map (bit (meaning d) p.block_bitmap) (range_with_len p.first_data (p.sectors - p.first_data))
  free_list =
      let len = owners.len in
      let room = the_geometry_is.data_sectors in
      list_is (drop p.first_data owned) false (bit (meaning d) p.block_bitmap) p.first_data (p.sectors - p.first_data)
      (omega (arith, len, length-drop p.first_data owned))
      (λ k lt. get_or-drop p.first_data owned k false ∙ bit_is (p.first_data + k) (omega arith, omega (arith, lt)))

  free_is : count_by not (drop p.first_data owned) ≡ free_sectors p (meaning d)
  free_is = ap (count_by not) free_list ∙ counted not (bit (meaning d) p.block_bitmap) p.first_data (p.sectors - p.first_data)

  pub clean : IsClean d s
  unfolding the_tree
  clean =
      let whole' = now_whole d.size (sector d.seen) whole all in
      let held = held_all p (meaning d) (geometry d.size (sector d.seen) whole all) whole' all.rules in
      let is = tree_is p (meaning d) (geometry d.size (sector d.seen) whole all) whole' all.rules in (
        room_of p,
        t,
        free_sectors p (meaning d),
        stands d.size (sector d.seen) whole all,
        record {
          files = counts.files ∙ by_list (λ v. is_file_kind v.kind && not (v.names == 0)) refl ∙ sym (files_counted p (meaning d) t held is);
          dirs = counts.dirs ∙ by_list (λ v. is_directory_kind v.kind) refl ∙ sym (directories_counted p (meaning d) t held is);
          link_count = counts.link_count ∙ by_list (λ v. is_link_kind v.kind) refl ∙ sym (links_counted p (meaning d) t held is);
          nameless = counts.nameless ∙ by_list (λ v. is_file_kind v.kind && v.names == 0) refl ∙ sym (nameless_counted p (meaning d) t held is);
          blocks = counts.blocks ∙ free_is;
          inodes = counts.free ∙ ap (λ k. p.inodes - 1 - k) (by_list (λ v. is_used v.kind) refl ∙ sym (nodes_counted p (meaning d) t held is));
          pending = counts.pending ∙ ap some_target (sym (targets_in-commit d.size (sector d.seen) targets small opened.commit));
        },
      )

-- facts that were found one after the other
pub clean_after : (s0 s1 s2 s3 : DiskState) (p : Geometry) (area : ℕ) (targets : List ℕ) (items inodes : List Inode) (owned : List Bool) (s : Summary)
    → s0.size < 2 ^ 32 → HasWholeSectors s0.size (sector s0.seen) → IsGeometryOf s0.size (sector s0.seen) p
    → OnlyReads s0 s1 → area ≡ named_area (sector s1.seen) → IsCommit s1.size (sector s1.seen) targets
    → OnlyReads s0 s2 → AreInodes p (meaning s2) items → inodes ≡ items
    → OnlyReads s0 s3 → IsOwnerMap p (meaning s3) owned → ObeysBefore p (meaning s3) 15 → IsCounted p targets inodes owned s → IsClean s0 s
clean_after s0 s1 s2 s3 p area targets items inodes owned s small whole at r1 named commit r2 table same r3 owners before counts =
    let opened : BeginsWith s0 p area targets = record {
      geometry = at;
      log = back_of (λ n i. area ≡ named_area (sector i)) r1 named;
      commit = back_of (λ n i. IsCommit n (sector i) targets) r1 commit;
    } in
    clean s0 p area targets inodes owned s small whole opened
    (subst (AreInodes p (meaning s0)) (sym same) (subst (λ m. AreInodes p m items) (meaning_same r2) table))
    (subst (λ m. IsOwnerMap p m owned) (meaning_same r3) owners)
    (before_back r3 before) counts

-- the data begins within the owner map
pub first_within : (size : ℕ) (image : SectorMap) (p : Geometry) (m : SectorMap) (owned : List Bool) → IsGeometryOf size image p → IsOwnerMap p m owned
    → p.first_data ≤ length owned
first_within size image p m owned at owners =
    let room = (is_a_geometry _ _ size at.super.inodes at.has_geometry).data_sectors in
    let len = owners.len in
    omega (arith, room, len)

-- and no sector before it is owned
pub none_before : (size : ℕ) (image : SectorMap) (p : Geometry) (m : SectorMap) (owned : List Bool) → IsGeometryOf size image p → IsOwnerMap p m owned
    → ObeysBefore p m 15 → (s : ℕ) → s < p.first_data → get_or owned s false ≡ false
none_before size image p m owned at owners before s low = elim (either (get_or owned s false)) [
  | inl set ↦
      let room = (is_a_geometry _ _ size at.super.inodes at.has_geometry).data_sectors in
      let by = (owners.each s (omega (arith, room, low))).0 set in
      absurd (let from = (before InData (omega arith) by.by by.below s by.is).0 in omega (arith, from, low))
  | inr clear ↦ clear
]

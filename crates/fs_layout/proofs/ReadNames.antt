-- The names of slots as entries, and the names of a directory as they are read.
use Rattle.std.specs.Prelude.{◌≡◌, ℕ, ◌<◌, List, length, Some, Contains}
use Rattle.std.proofs.Common.{refl, sym, ap, arith, ◌∙◌}
use Rattle.fs_layout.specs.declared.version.Version.{Version}
use Rattle.fs_layout.specs.declared.inode.Inode.{Inode}
use Rattle.fs_layout.specs.Bytes.{SectorMap}
use Rattle.fs_layout.specs.Maps.{name_cmp, get}
use Rattle.fs_layout.specs.Directories.{names_of_slots, HaveDistinctNames, slot_count, slot_at, HasNames, NamedInode}
use Rattle.fs_layout.specs.Laws.{AreNamesOf, AreRead}
use Rattle.fs_layout.proofs.SlotNames.{names-IsMap, length-names, slot_leads, named_by}
use Rattle.fs_layout.proofs.ImageSlots.{HasWholeBlocks, slots_of, slot_is, slots_are, count_is}

-- a slot by its parts
slot_parts : (s : NamedInode) (name : List ℕ) (n : ℕ) → s.name ≡ name → s.ino ≡ n → s ≡ record { ino = n; name = name }
slot_parts s name n e f = let whole : record s { ino = s.ino } ≡ record { ino = n; name = name } = rw (e, f) refl in whole

module _ (slots : List NamedInode) (apart : HaveDistinctNames slots) where
  leads : (name : List ℕ) (n : ℕ) → Contains slots (record { ino = n; name = name }) → get name_cmp (names_of_slots slots) name ≡ Some n
  leads name n (k, lt, is) =
      ap (λ (s : NamedInode). get name_cmp (names_of_slots slots) s.name) (sym is)
      ∙ slot_leads slots (record { ino = n; name = name }) k apart lt
      ∙ ap (λ (s : NamedInode). Some s.ino) is

  stands : (name : List ℕ) (n : ℕ) → get name_cmp (names_of_slots slots) name ≡ Some n → Contains slots (record { ino = n; name = name })
  stands name n e =
      let r = named_by slots (record { ino = n; name = name }) name n e in
      (r.at, r.below, slot_parts _ name n r.name_is r.inode_is)

  pub are_names_of : AreNamesOf slots
  are_names_of = record { map_is = names-IsMap slots; count = length-names slots apart; each = λ name n. (stands name n, leads name n) }

module _ (version : Version) (image : SectorMap) (v : Inode) (names : List (List ℕ × ℕ)) (h : HasNames version image v names) (sectors : HasWholeBlocks image v) where
  below : (k : ℕ) → k < slot_count version v → k < length h.slots
  below k lt = let count = count_is version image v h.slots h.whole sectors h.each h.holds in omega (arith, lt, count)

  pub are_read : AreRead version image v names
  unfolding slots_of
  are_read = record {
    each = λ k lt. (slot_is version image v h.slots h.whole sectors h.each h.holds k (slot_at version image v k) (below k lt)).0;
    apart = λ j k less lt same.
        let none = slot_at version image v k in
        let a = (slot_is version image v h.slots h.whole sectors h.each h.holds j none (below j (omega (arith, less, lt)))).1 in
        let b = (slot_is version image v h.slots h.whole sectors h.each h.holds k none (below k lt)).1 in
        h.apart j k none less (below k lt) (ap (λ (s : NamedInode). s.name) (sym a) ∙ same ∙ ap (λ (s : NamedInode). s.name) b);
    are = h.are ∙ ap names_of_slots (slots_are version image v h.slots h.whole sectors h.each h.holds);
  }

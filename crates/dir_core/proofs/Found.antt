-- What a search for a name says of the names.
use Rattle.std.proofs.Common.{◌≡◌, ◌≢◌, ℕ, ◌+◌, ◌*◌, ◌/◌, ◌%◌, ◌<◌, List, length, get_or, Option, None, Some, refl, sym, ◌∙◌, ap, subst, arith, inl, inr}
use Rattle.std.specs.Option.{option_map}
use Rattle.std.proofs.lemmas.Bool.{cases_lt}
use Rattle.std.proofs.lemmas.List.{get_or_past}
use Rattle.fs_layout.specs.declared.inode.Inode.{Inode}
use Rattle.fs_layout.specs.declared.version.Version.{Version}
use Rattle.fs_layout.specs.Version.{slot_size, block_slots}
use Rattle.fs_layout.specs.Bytes.{SectorMap}
use Rattle.fs_layout.specs.Maps.{name_cmp, get}
use Rattle.fs_layout.specs.Directories.{NamedInode, names_of_slots, slots_bytes, HaveDistinctNames}
use Rattle.fs_layout.proofs.ImageSlots.{length-slots}
use Rattle.fs_layout.proofs.ReadNames.{are_names_of}
use Rattle.dir_core.specs.declared.names.FoundSlot.{FoundSlot}
use Rattle.dir_core.specs.Slots.{HasSlots, IsBlock, IsSlotAt, IsFoundInBlock, IsFoundIn}
use Rattle.dir_core.proofs.Pieces.{slot_there}
use Rattle.dir_core.proofs.SlotPlaces.{place_within, block_of, block_again, place_again, slot_ends_within, slots_past}

-- none of the first `count` slots has the name
abbrev pub IsAbsentBelow : List NamedInode → List ℕ → ℕ → Type 0
IsAbsentBelow slots name count = (i : ℕ) (d : NamedInode) → i < count → i < length slots → (get_or slots i d).name ≢ name

-- nor has the next one
pub absent_further : (slots : List NamedInode) (name : List ℕ) (count : ℕ) → IsAbsentBelow slots name count
    → ((d : NamedInode) → count < length slots → (get_or slots count d).name ≢ name) → IsAbsentBelow slots name (count + 1)
absent_further slots name count before here i d lt fits =
    elim (cases_lt i count) [
      | inl less ↦ before i d less fits
      | inr ge ↦
          let at : count ≡ i = omega (arith, ge, lt) in
          subst (λ n. (get_or slots n d).name ≢ name) at (here d (omega (arith, fits, at)))
    ]

-- a slot by its parts
pub slot_parts : (x : NamedInode) (name : List ℕ) (n : ℕ) → x.name ≡ name → x.ino ≡ n → x ≡ record { ino = n; name = name }
slot_parts x name n e f = let whole : record x { ino = x.ino } ≡ record { ino = n; name = name } = rw (e, f) refl in whole

-- what is found is what the map of names has
pub found_is_entry : (slots : List NamedInode) (name : List ℕ) (found : Option FoundSlot) → HaveDistinctNames slots → IsFoundIn slots name found
    → option_map (λ f. f.ino) found ≡ get name_cmp (names_of_slots slots) name
found_is_entry slots name (Some f) apart is = sym (((are_names_of slots apart).each name f.ino).1 (f.slot, is.0, is.1 _))
found_is_entry slots name None apart absent = sym (nothing (get name_cmp (names_of_slots slots) name) refl)
  where
    nothing : (o : Option ℕ) → get name_cmp (names_of_slots slots) name ≡ o → o ≡ None
    nothing None e = refl
    nothing (Some n) e =
        let at = ((are_names_of slots apart).each name n).0 e in
        absurd (absent at.0 _ at.1 (ap (λ (x : NamedInode). x.name) at.2))

-- ---- block by block
module _ {version : Version} {image : SectorMap} {v : Inode} {slots : List NamedInode} (h : HasSlots version image v slots) where
  -- none of block k has the name
  pub absent_in_block : (block name : List ℕ) (k : ℕ) → length block ≡ 512 → IsBlock image v k block → IsFoundInBlock version block name None
      → IsAbsentBelow slots name (block_slots version * k) → IsAbsentBelow slots name (block_slots version * (k + 1))
  absent_in_block block name k len read none before i d lt fits =
      elim (cases_lt i (block_slots version * k)) [
        | inl less ↦ before i d less fits
        | inr ge ↦
            let here : k ≡ i / block_slots version = block_of version k i ge lt in
            none (i % block_slots version) (get_or slots i d) (place_within version i) (slot_there h block i d len (subst (λ b. IsBlock image v b block) here read) fits)
      ]

  -- a slot of block k where a name's length stands is in use
  in_use : (block name : List ℕ) (k i : ℕ) → i < block_slots version → 0 < length name → IsBlock image v k block
      → get_or block (slot_size version * i + 4) 0 ≡ length name → block_slots version * k + i < length slots
  in_use block name k i small some read is =
      elim (cases_lt (block_slots version * k + i) (length slots)) [
        | inl lt ↦ lt
        | inr ge ↦
            let long = length-slots version slots h.each in
            let past_them = slots_past version (length slots) k i small ge in
            let within = slot_ends_within version i small in
            let past = get_or_past (slots_bytes version slots) (512 * k + (slot_size version * i + 4)) 0 (omega (arith, long, past_them)) in
            let zero = read (slot_size version * i + 4) (omega (arith, within)) ∙ h.holds.byte (512 * k + (slot_size version * i + 4)) ∙ past in
            absurd (omega (arith, is, zero, some))
      ]

  -- a slot of block k has it
  pub found_in_block : (block name : List ℕ) (k : ℕ) (found : FoundSlot) → length block ≡ 512 → 0 < length name → IsBlock image v k block
      → IsFoundInBlock version block name (Some found)
      → IsFoundIn slots name (Some (record { slot = block_slots version * k + found.slot; ino = found.ino }))
  found_in_block block name k found len some read (small, is, named) =
      let slot = found.slot in
      let at : ℕ = block_slots version * k + slot in
      let lt : at < length slots = in_use block name k slot small some read is in
      let here : k ≡ at / block_slots version = block_again version k slot small in
      let place : at % block_slots version ≡ slot = place_again version k slot small in (
        lt,
        λ d.
            let there = slot_there h block at d len (subst (λ b. IsBlock image v b block) here read) lt in
            named (get_or slots at d) (subst (λ j. IsSlotAt version block (slot_size version * j) (get_or slots at d)) place there),
      )

-- The slots of a block, as bytes.
use Rattle.std.proofs.Common.{◌≡◌, ℕ, ◌+◌, ◌-◌, ◌*◌, ◌/◌, ◌%◌, ◌<◌, ◌≤◌, List, [], ◌∷◌, ◌++◌, length, get_or, take, drop, refl, sym, ap, ◌∙◌, append_assoc, arith}
use Rattle.std.specs.Prelude.{All}
use Rattle.std.proofs.lemmas.List.{ext_get_or, get_or-take, get_or-drop, get_or_append_left, length-take-le}
use Rattle.std.proofs.lemmas.List.Concat.{get_or-flat_map}
use Rattle.fs_layout.specs.declared.version.Version.{Version}
use Rattle.fs_layout.specs.Version.{max_name, slot_size, block_slots}
use Rattle.fs_layout.specs.declared.inode.Inode.{Inode}
use Rattle.fs_layout.specs.Bytes.{SectorMap, window, le32, zeros, u32_of}
use Rattle.fs_layout.specs.Directories.{NamedInode, FitsSlot, slot_bytes, slots_bytes, slot_count, names_of_slots, HasNames}
use Rattle.fs_layout.proofs.Fields.{part_len, split, read32}
use Rattle.fs_layout.proofs.ImageSlots.{length-slots}
use Rattle.fs_layout.proofs.ReadNames.{are_names_of}
use Rattle.fs_layout.proofs.SlotLaw.{length-slot_bytes}
use Rattle.fs_layout.proofs.SlotSizes.{slots_counted, slot_in_block}
use Rattle.dir_core.specs.Slots.{HasSlots, IsBlock, IsSlotAt}
use Rattle.dir_core.proofs.SlotPlaces.{slot_place, no_slots_no_bytes, no_bytes_no_slots}

-- ---- where slots stand
first_fit : {version : Version} (slots : List NamedInode) (k : ℕ) → k ≤ length slots → All (FitsSlot version) slots → All (FitsSlot version) (take k slots)
first_fit slots k few fits i d lt =
    let long = length-take-le k slots few in
    rw (get_or-take k slots i d (omega (arith, lt, long))) (fits i d (omega (arith, lt, long, few)))

-- byte j of slot k
pub slot_byte : (version : Version) (slots : List NamedInode) (k j : ℕ) (d : NamedInode) → All (FitsSlot version) slots → k < length slots → j < slot_size version
    → get_or (slots_bytes version slots) (slot_size version * k + j) 0 ≡ get_or (slot_bytes version (get_or slots k d)) j 0
slot_byte version slots k j d fits lt small =
    let before : length (slots_bytes version (take k slots)) ≡ slot_size version * k =
    length-slots version (take k slots) (first_fit slots k (omega (arith, lt)) fits)
    ∙ ap (λ n. slot_size version * n) (length-take-le k slots (omega (arith, lt))) in
    let long = length-slot_bytes version (get_or slots k d) (fits k d lt).short in
    ap (λ n. get_or (slots_bytes version slots) (n + j) 0) (sym before) ∙ get_or-flat_map (slot_bytes version) slots k j d 0 lt (omega (arith, long, small))

module _ {version : Version} {image : SectorMap} {v : Inode} {slots : List NamedInode} (h : HasSlots version image v slots) where
  -- how many slots there are
  pub slots_are : slot_count version v ≡ length slots
  slots_are = slots_counted version (length slots) v.size (h.holds.size ∙ length-slots version slots h.each)

  -- slot k, in its block
  pub slot_there : (block : List ℕ) (k : ℕ) (d : NamedInode) → length block ≡ 512 → IsBlock image v (k / block_slots version) block → k < length slots
      → IsSlotAt version block (slot_size version * (k % block_slots version)) (get_or slots k d)
  slot_there block k d len read lt =
      let at : ℕ = slot_size version * (k % block_slots version) in
      let within : at + slot_size version ≤ 512 = slot_in_block version k in
      let fits = h.each k d lt in
      let long = length-slot_bytes version (get_or slots k d) fits.short in
      let part : length (window block at (slot_size version)) ≡ slot_size version = part_len (slot_size version) at block (omega (arith, len, within)) in (
        fits,
        ext_get_or 0 (window block at (slot_size version)) (slot_bytes version (get_or slots k d)) (part ∙ sym long) (λ i small.
            let below : i < slot_size version = omega (arith, small, part) in
            get_or-take (slot_size version) (drop at block) i 0 below
            ∙ get_or-drop at block i 0
            ∙ read (at + i) (omega (arith, below, within))
            ∙ h.holds.byte (512 * (k / block_slots version) + (at + i))
            ∙ ap (λ n. get_or (slots_bytes version slots) n 0) (slot_place version k i)
            ∙ slot_byte version slots k i d h.each lt below),
      )

-- ---- the parts of a slot
length_first : (version : Version) (x : NamedInode) → get_or (slot_bytes version x) 4 0 ≡ length x.name
unfolding le32
length_first version x = refl

named_then : (version : Version) (x : NamedInode) (i : ℕ)
    → get_or (slot_bytes version x) (8 + i) 0 ≡ get_or (x.name ++ zeros (max_name version - length x.name)) i 0
unfolding le32 zeros
named_then version x i = sym (get_or-drop 8 (slot_bytes version x) i 0)

module _ {version : Version} (block : List ℕ) (at : ℕ) (x : NamedInode) (is : IsSlotAt version block at x) where
  byte_there : (i : ℕ) → i < slot_size version → get_or block (at + i) 0 ≡ get_or (slot_bytes version x) i 0
  byte_there i lt =
      sym (get_or-take (slot_size version) (drop at block) i 0 lt ∙ get_or-drop at block i 0) ∙ ap (λ (s : List ℕ). get_or s i 0) is.1

  -- the length of its name
  pub length_there : get_or block (at + 4) 0 ≡ length x.name
  length_there = byte_there 4 (omega arith) ∙ length_first version x

  -- a byte of its name
  pub name_byte : (i : ℕ) → i < length x.name → get_or block (at + 8 + i) 0 ≡ get_or x.name i 0
  name_byte i lt =
      let short = is.0.short in
      ap (λ n. get_or block n 0) (let e : at + 8 + i ≡ at + (8 + i) = omega arith in e)
      ∙ byte_there (8 + i) (omega (arith, lt, short))
      ∙ named_then version x i
      ∙ get_or_append_left x.name (zeros (max_name version - length x.name)) 0 i lt

  -- the last one, where the name is known
  pub last_byte : (name : List ℕ) → x.name ≡ name → get_or block (at + 7 + length name) 0 ≡ get_or name (length name - 1) 0
  last_byte name same =
      let some = is.0.name.not_empty in
      let long : length x.name ≡ length name = ap length same in
      let place : at + 7 + length name ≡ at + 8 + (length name - 1) = omega (arith, some, long) in
      ap (λ n. get_or block n 0) place
      ∙ name_byte (length name - 1) (omega (arith, some, long))
      ∙ ap (λ (s : List ℕ). get_or s (length name - 1) 0) same

  -- the name of a slot
  pub name_there : at + slot_size version ≤ length block → window block (at + 8) (length x.name) ≡ x.name
  name_there room =
      let short = is.0.short in
      let part : length (window block (at + 8) (length x.name)) ≡ length x.name = part_len (length x.name) (at + 8) block (omega (arith, room, short)) in
      ext_get_or 0 (window block (at + 8) (length x.name)) x.name part (λ i lt.
      let below : i < length x.name = omega (arith, lt, part) in
      get_or-take (length x.name) (drop (at + 8) block) i 0 below
      ∙ get_or-drop (at + 8) block i 0
      ∙ name_byte i below)

  -- the inode of a slot
  pub inode_there : u32_of block at ≡ x.ino
  unfolding le32
  inode_there =
      let rest : List ℕ = length x.name ∷ (zeros 3 ++ (x.name ++ zeros (max_name version - length x.name))) in
      read32 block at x.ino (rest ++ drop (at + slot_size version) block)
      (split (slot_size version) at block (slot_bytes version x) (sym is.1) ∙ append_assoc (le32 x.ino) rest (drop (at + slot_size version) block)) is.0.ino

-- ---- without a name
no_slots : (slots : List NamedInode) → length slots ≡ 0 → names_of_slots slots ≡ []
unfolding names_of_slots
no_slots [] e = refl
no_slots (x ∷ slots) e = absurd (omega (arith, e))

-- a directory without bytes has no name
pub empty_at_zero : {version : Version} {image : SectorMap} {v : Inode} {names : List (List ℕ × ℕ)} → HasNames version image v names → v.size ≡ 0 → names ≡ []
empty_at_zero {version} h zero =
    h.are ∙ no_slots h.slots (no_bytes_no_slots version (length h.slots) (sym (length-slots version h.slots h.each) ∙ sym h.holds.size ∙ zero))

-- and one without a name no bytes
pub zero_where_empty : {version : Version} {image : SectorMap} {v : Inode} {names : List (List ℕ × ℕ)} → HasNames version image v names → names ≡ [] → v.size ≡ 0
zero_where_empty {version} {names = names} h none =
    let count : length names ≡ length h.slots = ap length h.are ∙ (are_names_of h.slots h.apart).count in
    h.holds.size ∙ length-slots version h.slots h.each ∙ no_slots_no_bytes version (length h.slots) (sym count ∙ ap length none)

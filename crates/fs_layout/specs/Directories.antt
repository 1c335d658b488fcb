-- A directory: its slots, and the names in them. Our own layout.
--     IsName, name_test        what a name is
--     NamedInode, slot_bytes, slot_of        a slot: an inode under a name, its bytes, and what bytes are read as
--     slots_bytes, names_of_slots, HaveDistinctNames        slots one after the other, and their names as a map
--     slot_count, stored_slot, slot_at        the slots of an inode in an image
--     HasNames        an inode is a directory with these names
use Rattle.std.specs.Prelude.{ℕ, ◌+◌, ◌-◌, ◌<◌, ◌≤◌, ◌^◌, ◌≢◌, ◌++◌, List, ◌∷◌, length, drop, slice_index, Result, Ok, Err, Bool, nat_eq, nat_le, not, if◌then◌else◌, ◌&&◌, All, codes, ◌≡◌, ◌*◌, ◌/◌, ◌%◌, [], AllPairs}
use Rattle.std.specs.List.{list_all, flat_map}
use Rattle.std.specs.Str.{bytes_eq}
use Rattle.fs_layout.specs.declared.fault.LayoutFault.{LayoutFault}
use Rattle.fs_layout.specs.declared.fault.LayoutFault.TheVariants.{BadNumber, NotZero}
use Rattle.fs_layout.specs.declared.slot.TheConstants.{MAX_NAME}
use Rattle.fs_layout.specs.Bytes.{IsBytes, window, le32, zeros, u32_of, are_zero, SectorMap}
use Rattle.fs_layout.specs.declared.version.Version.{Version}
use Rattle.fs_layout.specs.Version.{max_name, max_names, slot_size, block_slots}
use Rattle.fs_layout.specs.declared.inode.Kind.TheVariants as kinds
use Rattle.fs_layout.specs.declared.inode.Inode.{Inode}
use Rattle.fs_layout.specs.Maps.{name_cmp, with_entry}
use Rattle.fs_layout.specs.Images.{pointer, Holds, HasNoHole}

-- ---- one slot

-- 1 to `MAX_NAME` bytes, as many as the version with the longest names allows, none of them `/` or zero, and neither `.` nor `..`
pub record IsName (name : List ℕ) : Type 0 where
  pub not_empty : 0 < length name
  pub short : length name ≤ MAX_NAME
  pub bytes : All (λ b. (b ≢ 0) × (b ≢ 47)) name
  pub not_dot : name ≢ codes "."
  pub not_dot_dot : name ≢ codes ".."

-- `IsName` as a test
unfoldable pub name_test : List ℕ → Bool
name_test name =
    ((nat_le 1 (length name) && nat_le (length name) MAX_NAME) && list_all (λ b. not (nat_eq b 0) && not (nat_eq b 47)) name)
    && (not (bytes_eq name (codes ".")) && not (bytes_eq name (codes "..")))

-- an inode's number, and a name that it has in a directory
pub record NamedInode : Type 0 where
  pub ino : ℕ
  pub name : List ℕ

-- the inode, the name's length, zeros, the name, zeros
abbrev pub slot_bytes : Version → NamedInode → List ℕ
slot_bytes version v = le32 v.ino ++ (length v.name ∷ (zeros 3 ++ (v.name ++ zeros (max_name version - length v.name))))

-- the name is one of this version, and each number fits its field
pub record FitsSlot (version : Version) (v : NamedInode) : Type 0 where
  pub ino : v.ino < 2 ^ 32
  pub name : IsName v.name
  pub short : length v.name ≤ max_name version
  pub bytes : IsBytes v.name

-- a name of this version stands in the bytes, and all that is not in use is zero
abbrev pub has_name : Version → List ℕ → Bool
has_name version s = nat_le (slice_index s 4) (max_name version) && name_test (window s 8 (slice_index s 4))

abbrev pub has_zeros : List ℕ → Bool
has_zeros s = are_zero (window s 5 3) && are_zero (drop (8 + slice_index s 4) s)

-- the slot that these bytes are, or the first fault
unfoldable pub slot_of : Version → List ℕ → Result NamedInode LayoutFault
slot_of version s =
    if has_name version s then
    (if has_zeros s then Ok (record { ino = u32_of s 0; name = window s 8 (slice_index s 4) }) else Err NotZero)
    else Err BadNumber

-- ---- slots one after the other

abbrev pub slots_bytes : Version → List NamedInode → List ℕ
slots_bytes version slots = flat_map (slot_bytes version) slots

-- the names of the slots as a map
unfoldable pub names_of_slots : List NamedInode → List (List ℕ × ℕ)
names_of_slots [] = []
names_of_slots (slot ∷ slots) = with_entry name_cmp (names_of_slots slots) slot.name slot.ino

-- no name stands twice
abbrev pub HaveDistinctNames : List NamedInode → Type 0
HaveDistinctNames slots = AllPairs (λ a b. a.name ≢ b.name) slots

-- ---- the slots of an inode

-- how many slots a directory has
abbrev pub slot_count : Version → Inode → ℕ
slot_count version v = v.size / slot_size version

-- the bytes of slot k
unfoldable pub stored_slot : Version → SectorMap → Inode → ℕ → List ℕ
stored_slot version m v k =
    window (m (pointer m v (k / block_slots version))) (slot_size version * (k % block_slots version)) (slot_size version)

abbrev pub slot_or_none : Result NamedInode LayoutFault → NamedInode
slot_or_none (Ok x) = x
slot_or_none (Err e) = record { ino = 0; name = [] }

-- slot k, one of no name where its bytes are none
unfoldable pub slot_at : Version → SectorMap → Inode → ℕ → NamedInode
slot_at version m v k = slot_or_none (slot_of version (stored_slot version m v k))

-- ---- a directory

-- The inode is a directory, and this map has its names, no more than the version allows. The slots may stand in any order.
pub record HasNames (version : Version) (image : SectorMap) (v : Inode) (names : List (List ℕ × ℕ)) : Type 0 where
  pub kind : v.kind ≡ kinds.Directory
  pub slots : List NamedInode
  pub are : names ≡ names_of_slots slots
  pub apart : HaveDistinctNames slots
  pub each : All (FitsSlot version) slots
  pub few : length slots ≤ max_names version
  pub holds : Holds image v (slots_bytes version slots)
  pub whole : HasNoHole image v

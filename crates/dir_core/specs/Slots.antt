-- A directory as its slots in their order, and what is read of them.
--     HasSlots        an inode is a directory with these slots
--     IsBlock        what a block of the inode holds
--     IsSlotAt        a slot's bytes stand at an offset
--     IsFoundInBlock        what a search of one block for a name finds
--     IsFoundIn        what a search for a name finds
--     name_entry        a slot as an entry of the map of names
use Rattle.std.specs.Prelude.{◌≡◌, ◌≢◌, ℕ, ◌+◌, ◌*◌, ◌<◌, ◌≤◌, List, length, slice_index, slice_index_or, All, Option, None, Some}
use Rattle.fs_layout.specs.declared.version.Version.{Version}
use Rattle.fs_layout.specs.Version.{max_names, slot_size, block_slots}
use Rattle.fs_layout.specs.declared.inode.Inode.{Inode}
use Rattle.fs_layout.specs.declared.inode.Kind.TheVariants as kinds
use Rattle.fs_layout.specs.Bytes.{SectorMap, window}
use Rattle.fs_layout.specs.Images.{byte_at, Holds, HasNoHole}
use Rattle.fs_layout.specs.Directories.{NamedInode, FitsSlot, HaveDistinctNames, slot_bytes, slots_bytes}
use Rattle.dir_core.specs.declared.names.FoundSlot.{FoundSlot}

-- the inode is a directory, and these are its slots
pub record HasSlots (version : Version) (image : SectorMap) (v : Inode) (slots : List NamedInode) : Type 0 where
  pub kind : v.kind ≡ kinds.Directory
  pub apart : HaveDistinctNames slots
  pub each : All (FitsSlot version) slots
  pub few : length slots ≤ max_names version
  pub holds : Holds image v (slots_bytes version slots)
  pub whole : HasNoHole image v

-- the bytes are those of block k
abbrev pub IsBlock : SectorMap → Inode → ℕ → List ℕ → Type 0
IsBlock image v k block = (i : ℕ) → i < 512 → slice_index block i ≡ byte_at image v (512 * k + i)

-- the bytes from an offset on are those of this slot
abbrev pub IsSlotAt : Version → List ℕ → ℕ → NamedInode → Type 0
IsSlotAt version block at x = FitsSlot version x × (window block at (slot_size version) ≡ slot_bytes version x)

-- the slot of a block that has the name, with its inode; the name's length stands there, as in no slot that isn't in use. None where
-- no slot has it
abbrev pub IsFoundInBlock : Version → List ℕ → List ℕ → Option FoundSlot → Type 0
IsFoundInBlock version block name None =
    (i : ℕ) (x : NamedInode) → i < block_slots version → IsSlotAt version block (slot_size version * i) x → x.name ≢ name
IsFoundInBlock version block name (Some found) =
    (found.slot < block_slots version)
    × (slice_index block (slot_size version * found.slot + 4) ≡ length name)
    × ((x : NamedInode) → IsSlotAt version block (slot_size version * found.slot) x → x ≡ record { ino = found.ino; name = name })

-- the slot that has the name, with its inode; None where no slot has it
abbrev pub IsFoundIn : List NamedInode → List ℕ → Option FoundSlot → Type 0
IsFoundIn slots name None = All (λ x. x.name ≢ name) slots
IsFoundIn slots name (Some found) =
    (found.slot < length slots) × ((d : NamedInode) → slice_index_or slots found.slot d ≡ record { ino = found.ino; name = name })

-- a slot as an entry of the map of names
abbrev pub name_entry : NamedInode → List ℕ × ℕ
name_entry x = (x.name, x.ino)

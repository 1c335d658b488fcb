-- Where the slots of each version stand in a directory and in its blocks.
use Rattle.std.proofs.Common.{◌≡◌, ℕ, suc, ◌+◌, ◌*◌, ◌/◌, ◌%◌, ◌<◌, ◌≤◌, refl, arith}
use Rattle.fs_layout.specs.declared.inode.TheConstants.{MAX_DIRECTORY_SIZE}
use Rattle.fs_layout.specs.declared.slot.TheConstants.{MAX_NAME, SLOT_SIZE}
use Rattle.fs_layout.specs.declared.version.Version.{Version}
use Rattle.fs_layout.specs.declared.version.Version.TheVariants.{One, Two, Three}
use Rattle.fs_layout.specs.Version.{max_name, max_names, slot_size, block_slots, max_directory_size}

-- ---- a slot
-- a name is no longer than in the version with the longest
pub name_most : (version : Version) → max_name version ≤ MAX_NAME
name_most One = omega arith
name_most Two = omega arith
name_most Three = omega arith

pub slot_bounds : (version : Version) → (SLOT_SIZE ≤ slot_size version) × (slot_size version ≤ 256)
slot_bounds One = (omega arith, omega arith)
slot_bounds Two = (omega arith, omega arith)
slot_bounds Three = (omega arith, omega arith)

-- ---- many
pub slots_none : (version : Version) → slot_size version * 0 ≡ 0
slots_none One = refl
slots_none Two = refl
slots_none Three = refl

pub slots_more : (version : Version) (n : ℕ) → slot_size version * suc n ≡ slot_size version + slot_size version * n
slots_more One n = omega arith
slots_more Two n = omega arith
slots_more Three n = omega arith

-- the slots of so many names are no more bytes than the largest directory has
pub slots_most : (version : Version) (n : ℕ) → n ≤ max_names version → slot_size version * n ≤ max_directory_size version
slots_most One n few = omega (arith, few)
slots_most Two n few = omega (arith, few)
slots_most Three n few = omega (arith, few)

-- so many bytes are so many slots
pub slots_counted : (version : Version) (n size : ℕ) → size ≡ slot_size version * n → size / slot_size version ≡ n
slots_counted One n size is = omega (arith, is)
slots_counted Two n size is = omega (arith, is)
slots_counted Three n size is = omega (arith, is)

-- whole slots
pub slots_whole : (version : Version) (size : ℕ) → size % slot_size version ≡ 0 → size ≡ slot_size version * (size / slot_size version)
slots_whole One size even = omega (arith, even)
slots_whole Two size even = omega (arith, even)
slots_whole Three size even = omega (arith, even)

pub directory_most : (version : Version) → max_directory_size version ≤ MAX_DIRECTORY_SIZE
directory_most One = omega arith
directory_most Two = omega arith
directory_most Three = omega arith

-- ---- a byte, and its slot
pub byte_parts : (version : Version) (i : ℕ) → i ≡ slot_size version * (i / slot_size version) + i % slot_size version
byte_parts One i = omega arith
byte_parts Two i = omega arith
byte_parts Three i = omega arith

pub byte_within : (version : Version) (i : ℕ) → i % slot_size version < slot_size version
byte_within One i = omega arith
byte_within Two i = omega arith
byte_within Three i = omega arith

pub byte_slot : (version : Version) (i size : ℕ) → size % slot_size version ≡ 0 → i < size → i / slot_size version < size / slot_size version
byte_slot One i size even lt = omega (arith, even, lt)
byte_slot Two i size even lt = omega (arith, even, lt)
byte_slot Three i size even lt = omega (arith, even, lt)

-- ---- a slot, and its block
-- a slot ends in its block
pub slot_in_block : (version : Version) (k : ℕ) → slot_size version * (k % block_slots version) + slot_size version ≤ 512
slot_in_block One k = omega arith
slot_in_block Two k = omega arith
slot_in_block Three k = omega arith

-- which block byte j of slot k is in, and where
pub slot_block : (version : Version) (k j : ℕ) → j < slot_size version → (slot_size version * k + j) / 512 ≡ k / block_slots version
slot_block One k j small = omega (arith, small)
slot_block Two k j small = omega (arith, small)
slot_block Three k j small = omega (arith, small)

pub slot_within : (version : Version) (k j : ℕ) → j < slot_size version
    → slot_size version * (k % block_slots version) + j ≡ (slot_size version * k + j) % 512
slot_within One k j small = omega (arith, small)
slot_within Two k j small = omega (arith, small)
slot_within Three k j small = omega (arith, small)

-- the block of a slot that a directory has begins in the directory
pub block_below : (version : Version) (k size : ℕ) → k < size / slot_size version → 512 * (k / block_slots version) < size
block_below One k size lt = omega (arith, lt)
block_below Two k size lt = omega (arith, lt)
block_below Three k size lt = omega (arith, lt)

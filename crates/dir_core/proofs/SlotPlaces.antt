-- Where the slots of each version stand, and how many there may be.
use Rattle.std.proofs.Common.{◌≡◌, ◌≢◌, ℕ, ◌+◌, ◌-◌, ◌*◌, ◌/◌, ◌%◌, ◌<◌, ◌≤◌, arith}
use Rattle.std.specs.Int.{div_ceil}
use Rattle.fs_layout.specs.declared.slot.TheConstants.{SLOT_SIZE}
use Rattle.fs_layout.specs.declared.version.Version.{Version}
use Rattle.fs_layout.specs.declared.version.Version.TheVariants.{One, Two, Three}
use Rattle.fs_layout.specs.Version.{max_names, slot_size, block_slots, max_directory_size}
use Rattle.block_map.specs.Steps.{blocks_to}

-- ---- a slot, and its block
-- byte i of slot k
pub slot_place : (version : Version) (k i : ℕ) → 512 * (k / block_slots version) + (slot_size version * (k % block_slots version) + i) ≡ slot_size version * k + i
slot_place One k i = omega arith
slot_place Two k i = omega arith
slot_place Three k i = omega arith

pub place_within : (version : Version) (k : ℕ) → k % block_slots version < block_slots version
place_within One k = omega arith
place_within Two k = omega arith
place_within Three k = omega arith

pub first_of_block : (version : Version) → 0 % block_slots version ≡ 0
first_of_block One = omega arith
first_of_block Two = omega arith
first_of_block Three = omega arith

-- a slot of block k
pub block_of : (version : Version) (k i : ℕ) → block_slots version * k ≤ i → i < block_slots version * (k + 1) → k ≡ i / block_slots version
block_of One k i ge lt = omega (arith, ge, lt)
block_of Two k i ge lt = omega (arith, ge, lt)
block_of Three k i ge lt = omega (arith, ge, lt)

pub block_again : (version : Version) (k i : ℕ) → i < block_slots version → k ≡ (block_slots version * k + i) / block_slots version
block_again One k i lt = omega (arith, lt)
block_again Two k i lt = omega (arith, lt)
block_again Three k i lt = omega (arith, lt)

pub place_again : (version : Version) (k i : ℕ) → i < block_slots version → (block_slots version * k + i) % block_slots version ≡ i
place_again One k i lt = omega (arith, lt)
place_again Two k i lt = omega (arith, lt)
place_again Three k i lt = omega (arith, lt)

-- so many blocks have all of so many slots
pub blocks_reach : (version : Version) (k count : ℕ) → div_ceil count (block_slots version) ≤ k → count ≤ block_slots version * k
blocks_reach One k count le = omega (arith, le)
blocks_reach Two k count le = omega (arith, le)
blocks_reach Three k count le = omega (arith, le)

-- the next slot, where it isn't the first of its block
pub same_block : (version : Version) (k : ℕ) → (k + 1) % block_slots version ≢ 0 → k / block_slots version ≡ (k + 1) / block_slots version
same_block One k inside = omega (arith, inside)
same_block Two k inside = omega (arith, inside)
same_block Three k inside = omega (arith, inside)

-- slot i of a block ends in the block
pub slot_ends_within : (version : Version) (i : ℕ) → i < block_slots version → slot_size version * i + slot_size version ≤ 512
slot_ends_within One i lt = omega (arith, lt)
slot_ends_within Two i lt = omega (arith, lt)
slot_ends_within Three i lt = omega (arith, lt)

-- slot i of block k is past n slots
pub slots_past : (version : Version) (n k i : ℕ) → i < block_slots version → n ≤ block_slots version * k + i
    → slot_size version * n ≤ 512 * k + (slot_size version * i + 4)
slots_past One n k i small ge = omega (arith, small, ge)
slots_past Two n k i small ge = omega (arith, small, ge)
slots_past Three n k i small ge = omega (arith, small, ge)

-- ---- the bytes of slots
pub slots_fewer : (version : Version) (m n : ℕ) → m ≤ n → slot_size version * m ≤ slot_size version * n
slots_fewer One m n le = omega (arith, le)
slots_fewer Two m n le = omega (arith, le)
slots_fewer Three m n le = omega (arith, le)

-- one of them ends among them
pub slot_among : (version : Version) (k n : ℕ) → k < n → slot_size version * k + slot_size version ≤ slot_size version * n
slot_among One k n lt = omega (arith, lt)
slot_among Two k n lt = omega (arith, lt)
slot_among Three k n lt = omega (arith, lt)

-- where it begins, counted the other way
pub slot_start : (version : Version) (k : ℕ) → k * slot_size version ≡ slot_size version * k
slot_start One k = omega arith
slot_start Two k = omega arith
slot_start Three k = omega arith

-- only the last one begins where the last one does
pub slot_is_last : (version : Version) (k n : ℕ) → slot_size version * k ≡ slot_size version * n - slot_size version → k ≡ n - 1
slot_is_last One k n is = omega (arith, is)
slot_is_last Two k n is = omega (arith, is)
slot_is_last Three k n is = omega (arith, is)

pub one_less : (version : Version) (n : ℕ) → slot_size version * n - slot_size version ≡ slot_size version * (n - 1)
one_less One n = omega arith
one_less Two n = omega arith
one_less Three n = omega arith

pub no_slots_no_bytes : (version : Version) (n : ℕ) → n ≡ 0 → slot_size version * n ≡ 0
no_slots_no_bytes One n none = omega (arith, none)
no_slots_no_bytes Two n none = omega (arith, none)
no_slots_no_bytes Three n none = omega (arith, none)

pub no_bytes_no_slots : (version : Version) (n : ℕ) → slot_size version * n ≡ 0 → n ≡ 0
no_bytes_no_slots One n none = omega (arith, none)
no_bytes_no_slots Two n none = omega (arith, none)
no_bytes_no_slots Three n none = omega (arith, none)

pub as_many : (version : Version) (m n : ℕ) → slot_size version * m ≡ slot_size version * n → m ≡ n
as_many One m n is = omega (arith, is)
as_many Two m n is = omega (arith, is)
as_many Three m n is = omega (arith, is)

-- ---- one more slot
-- it ends in the block where it begins
pub slot_in_one_block : (version : Version) (n size : ℕ) → size ≡ slot_size version * n → size % 512 + slot_size version ≤ 512
slot_in_one_block One n size is = omega (arith, is)
slot_in_one_block Two n size is = omega (arith, is)
slot_in_one_block Three n size is = omega (arith, is)

pub slot_reaches : (version : Version) (n size : ℕ) → size ≡ slot_size version * n → blocks_to (size + slot_size version) ≡ size / 512 + 1
slot_reaches One n size is = omega (arith, is)
slot_reaches Two n size is = omega (arith, is)
slot_reaches Three n size is = omega (arith, is)

-- the bytes of slots are pieces of 128 bytes
pub slots_even : (version : Version) (n size : ℕ) → size ≡ slot_size version * n → size % SLOT_SIZE ≡ 0
slots_even One n size is = omega (arith, is)
slots_even Two n size is = omega (arith, is)
slots_even Three n size is = omega (arith, is)

pub even_with_one : (version : Version) (n size : ℕ) → size ≡ slot_size version * n → (size + slot_size version) % SLOT_SIZE ≡ 0
even_with_one One n size is = omega (arith, is)
even_with_one Two n size is = omega (arith, is)
even_with_one Three n size is = omega (arith, is)

-- ---- the most slots
-- below the largest size there is place for one more
pub place_for_one : (version : Version) (n size : ℕ) → size ≡ slot_size version * n → size < max_directory_size version
    → (size + slot_size version ≤ max_directory_size version) × (n < max_names version)
place_for_one One n size is lt = (omega (arith, is, lt), omega (arith, is, lt))
place_for_one Two n size is lt = (omega (arith, is, lt), omega (arith, is, lt))
place_for_one Three n size is lt = (omega (arith, is, lt), omega (arith, is, lt))

-- and else none
pub no_place : (version : Version) (n size : ℕ) → size ≡ slot_size version * n → max_directory_size version ≤ size → max_names version ≤ n
no_place One n size is ge = omega (arith, is, ge)
no_place Two n size is ge = omega (arith, is, ge)
no_place Three n size is ge = omega (arith, is, ge)

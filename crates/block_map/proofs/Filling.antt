-- Sectors are filled one after the other.
use Rattle.std.proofs.Common.{◌≡◌, ℕ, ◌+◌, ◌*◌, List, get_or, arith}
use Rattle.fs_layout.specs.Bytes.{SectorMap, splice, le32}
use Rattle.fs_layout.specs.InodeChanges.{Puts}
use Rattle.bit_alloc.proofs.Chains.{chain_none, chain_one}
use Rattle.block_map.specs.Steps.{FillsSectors, block_of}

pub fills_none : {at : ℕ} {numbers x : List ℕ} {image : SectorMap} {pointers : List ℕ} → FillsSectors at 0 numbers x image image pointers pointers
fills_none = record { sectors = chain_none; pointers = chain_none }

-- one sector more
pub fills_one : {at i : ℕ} {numbers x : List ℕ} {old mid new : SectorMap} {before between after : List ℕ} → FillsSectors at i numbers x old mid before between
    → Puts (get_or numbers i 0) (block_of x i) mid new → after ≡ splice between (4 * (at + i)) (le32 (get_or numbers i 0)) → FillsSectors at (i + 1) numbers x old new before after
fills_one so_far put points = record {
  sectors = chain_one so_far.sectors (omega arith) put;
  pointers = chain_one so_far.pointers (omega arith) points;
}

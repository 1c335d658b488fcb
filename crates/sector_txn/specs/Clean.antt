-- Sectors that are kept as the device reads them.
--     pairs_of        what a cache has
--     IsPartOf        each of the contents is what a map has
use Rattle.std.specs.Prelude.{◌≡◌, ℕ, List, [], Contains, Option, Some, None, Box}
use Rattle.std.specs.Global.{Global}
use Rattle.lru.specs.LruCache.{LruCache}
use Rattle.fs_layout.specs.Bytes.{SectorMap}
use Rattle.redo_journal.specs.Meaning.{IsMapped}

-- the sectors of a cache with their contents
abbrev pub pairs_of : Option (Box (LruCache ℕ (List ℕ)) Global) → List (ℕ × List ℕ)
pairs_of None = []
pairs_of (Some cache) = cache.value.entries

-- each of the contents is what the map has there, with so many header sectors
abbrev pub IsPartOf : ℕ → SectorMap → List (ℕ × List ℕ) → Type 0
IsPartOf header sectors pairs = (pair : ℕ × List ℕ) → Contains pairs pair → IsMapped header pair.0 → pair.1 ≡ sectors pair.0

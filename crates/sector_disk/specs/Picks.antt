-- Which of the contents that a sector may have a stop picks.
--     writes_to, choices        the contents of one sector, in their order
--     written_before        of how many of the first sectors there is more than one
--     IsPicked        the next byte picks one for each of these
use Rattle.std.specs.Prelude.{◌≡◌, ℕ, zero, suc, ◌+◌, ◌<◌, ◌%◌, List, [], ◌∷◌, length, get_or, min, nat_eq, slice_index_or, if◌then◌else◌}
use Rattle.sector_disk.specs.Disk.{Image, sector}
use Rattle.sector_disk.specs.Record.{Event, Written, Synced, Held}

-- the contents that the events write to this sector, in their order
abbrev pub writes_to : List Event → ℕ → List (List ℕ)
writes_to [] n = []
writes_to (Synced ∷ events) n = writes_to events n
writes_to (Written k content ∷ events) n = if nat_eq k n then content ∷ writes_to events n else writes_to events n

-- what a stop may leave in this sector: the content of the last sync, and then those written since
abbrev pub choices : Held → ℕ → List (List ℕ)
choices held n = sector held.stable n ∷ writes_to held.pending n

-- how many of the first n sectors have been written since the last sync
abbrev pub written_before : Held → ℕ → ℕ
written_before held zero = 0
written_before held (suc n) = written_before held n + min 1 (length (writes_to held.pending n))

-- The sectors written since the last sync take one byte each, in rising order, and 0 where there are no more: modulo the number
-- of contents, it picks one. Each other sector is as at the last sync.
pub record IsPicked (held : Held) (choice : List ℕ) (image : Image) : Type 0 where
  pub size : length image ≡ length held.stable
  pub each : (n : ℕ) → n < length held.stable
      → sector image n ≡ slice_index_or (choices held n) (get_or choice (written_before held n) 0 % length (choices held n)) []

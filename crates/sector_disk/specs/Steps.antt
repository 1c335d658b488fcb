-- A record that is kept backwards: what reads give now, and what each step replaced.
use Rattle.std.specs.Prelude.{◌≡◌, ◌≢◌, ℕ, ◌<◌, ◌≤◌, ◌^◌, List, [], ◌∷◌, length, drop, replicate, slice_set, Contains, Bool, false, nat_eq, if◌then◌else◌}
use Rattle.sector_disk.specs.Disk.{Image, sector}
use Rattle.sector_disk.specs.Places.{KeptSectors, OwnsPlace}
use Rattle.sector_disk.specs.Record.{Past, Held, Event, Written, Synced, after_events, replay}
use Rattle.sector_disk.specs.declared.history.Step.{Step}
use Rattle.sector_disk.specs.declared.history.Step.TheVariants.{Replaced, Settled}

-- what was there before the steps
abbrev pub before : Image → List Step → Image
before seen [] = seen
before seen (Replaced n content ∷ steps) = slice_set (before seen steps) n content
before seen (Settled ∷ steps) = before seen steps

-- what was done in them
abbrev pub events_of : Image → List Step → List Event
events_of seen [] = []
events_of seen (Replaced n content ∷ steps) = Written n (sector (before seen steps) n) ∷ events_of seen steps
events_of seen (Settled ∷ steps) = Synced ∷ events_of seen steps

abbrev pub past_of : Image → List Step → Past
past_of seen done = record { start = before seen done; events = events_of seen done }

-- what a stop picks from: what was there before the steps, and what was done in them
abbrev pub held_before : Image → List Step → Held
held_before seen steps = record { stable = before seen steps; pending = events_of seen steps }

-- whether a step is a write of this sector
abbrev pub writes_sector : Step → ℕ → Bool
writes_sector (Replaced k content) n = nat_eq k n
writes_sector Settled n = false

-- the contents that the steps replaced in this sector, in their order
abbrev pub replaced_of : List Step → ℕ → List (List ℕ)
replaced_of [] n = []
replaced_of (Settled ∷ steps) n = replaced_of steps n
replaced_of (Replaced k content ∷ steps) n = if nat_eq k n then content ∷ replaced_of steps n else replaced_of steps n

-- the steps from one on are those since the last sync
pub record IsLog (seen : Image) (done : List Step) (synced : ℕ) : Type 0 where
  pub small : length seen < 2 ^ 32
  pub synced_fits : synced ≤ length done
  pub len : length (before seen done) ≡ length seen
  pub seen_is : seen ≡ after_events (before seen done) (events_of seen done)
  pub stable : (replay (before seen done) (events_of seen done)).stable ≡ before seen (drop synced done)
  pub pending : (replay (before seen done) (events_of seen done)).pending ≡ events_of seen (drop synced done)

-- each content that a step replaced can be put back without memory: it is zeros, or its sector has a place
pub record CanPutBack (seen : KeptSectors) (steps : List Step) : Type 0 where
  pub below : (n : ℕ) (content : List ℕ) → Contains steps (Replaced n content) → n < length seen.shown
  pub room : (n : ℕ) (content : List ℕ) → Contains steps (Replaced n content) → content ≢ replicate 512 0 → OwnsPlace seen n

-- the steps from one on are those since the last sync, and a stop can undo them without memory
pub record IsRecord (seen : KeptSectors) (done : List Step) (synced : ℕ) : Type 0 where
  pub log : IsLog seen.shown done synced
  pub back : CanPutBack seen (drop synced done)

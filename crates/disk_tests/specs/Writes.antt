-- Several writes, each of a content to a sector.
--     after_writes        what reads give after them
--     IsContentOf        what they may leave
--     events_of_writes, kept_held        the same as events, and what a file holds then
use Rattle.std.specs.Prelude.{ℕ, List, fold, map, slice_set, Contains}
use Rattle.sector_disk.specs.Disk.{Image}
use Rattle.sector_disk.specs.Record.{Event, Held, Written}

-- an image with each content in its sector, the later ones over the earlier ones
abbrev pub after_writes : Image → List (ℕ × List ℕ) → Image
after_writes image writes = fold (λ image write. slice_set image write.0 write.1) image writes

-- one of the contents, in its sector
abbrev pub IsContentOf : List (ℕ × List ℕ) → ℕ → List ℕ → Type 0
IsContentOf writes n content = Contains writes (n, content)

-- the same as events of a disk
abbrev pub events_of_writes : List (ℕ × List ℕ) → List Event
events_of_writes writes = map (λ write. Written write.0 write.1) writes

-- what a file holds that had the image at its last sync, and to which these writes came since
abbrev pub kept_held : Image → List (ℕ × List ℕ) → Held
kept_held stable writes = record { stable = stable; pending = events_of_writes writes }

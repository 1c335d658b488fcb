-- What waits, as a store keeps it, and what a read of a sector leaves.
--     with_waiting        a map with all that waits
--     Waits        it is what may wait in a store
--     EntriesHavePlaces, EntriesHaveRoom        changes fit beside what waits
--     IsRead        what a read leaves
--     AreReserved        the memory of a store, in which nothing waits yet
use Rattle.std.specs.Prelude.{◌≡◌, ◌≤◌, ℕ, ◌+◌, List, [], length, Result}
use Rattle.fs_layout.specs.Bytes.{SectorMap}
use Rattle.fs_layout.specs.Header.{max_delta, max_targets}
use Rattle.redo_journal.specs.Batch.{BatchView, Entry, added, with_batch}
use Rattle.redo_journal.specs.Meaning.{data_of}
use Rattle.sector_disk.specs.Disk.{DiskState, HasCause, IsSame, OnlyReads}
use Rattle.sector_txn.specs.declared.waiting.Waiting.{Waiting}
use Rattle.sector_txn.specs.Stores.{IsWaiting, all_waiting}

-- what waits is over the map
abbrev pub with_waiting : Waiting → SectorMap → SectorMap
with_waiting waiting sectors = with_batch (all_waiting waiting.placed.value.entries waiting.logged.value.entries) sectors

-- both batches wait
abbrev pub Waits : DiskState → Waiting → Type 0
Waits disk waiting = IsWaiting disk waiting.placed.value waiting.logged.value

-- all changes may go to their places,
abbrev pub EntriesHavePlaces : BatchView → List Entry → Type 0
EntriesHavePlaces placed delta = length placed.entries + length delta ≤ placed.most

-- or be logged
abbrev pub EntriesHaveRoom : BatchView → List Entry → Type 0
EntriesHaveRoom logged delta = length logged.entries + added logged.entries delta ≤ logged.most

-- the disk was only read, and reads the same
pub record IsRead {T E : Type 0} (old new : DiskState) (result : Result T E) : Type 0 where
  pub same : (n : ℕ) → data_of new n ≡ data_of old n
  pub unchanged : IsSame old new
  pub reads : OnlyReads old new
  pub cause : HasCause old new result

-- memory for what waits, for a transaction and for what the last commit logged, on a disk with so many header sectors: nothing is in it
pub record AreReserved (header : ℕ) (waiting : Waiting) (changes logs : BatchView) : Type 0 where
  pub placed : waiting.placed.value.entries ≡ []
  pub logged : waiting.logged.value.entries ≡ []
  pub places : max_delta header ≤ waiting.placed.value.most
  pub log : waiting.logged.value.most ≡ max_targets header
  pub delta : changes.entries ≡ []
  pub most : changes.most ≡ max_delta header
  pub last : logs.most ≡ max_targets header

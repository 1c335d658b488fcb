-- A store and a transaction, as callers see them.
--     StoreView, TxnView        their values
--     present, txn_state        the map of a store; the state of a transaction
--     disk_after        the disk in what `keep` and `flush` give
--     all_waiting        what waits, of which some goes to its place alone and the rest through the log
--     IsTxn, IsWaiting        what each transaction is, and what waits in each store
use Rattle.std.specs.Prelude.{◌≡◌, ◌-◌, ◌≤◌, ◌++◌, All, List, [], length, Result, Ok, Err}
use Rattle.fs_layout.specs.Bytes.{SectorMap}
use Rattle.redo_journal.specs.Batch.{BatchView, Entry, IsOnDisk, has_entry, targets, with_batch}
use Rattle.fs_layout.specs.Header.{max_delta, max_targets}
use Rattle.redo_journal.specs.Meaning.{IsSpare, data_of}
use Rattle.redo_journal.specs.States.{IsNoTarget, header_at}
use Rattle.sector_disk.specs.Disk.{DiskState}
use Rattle.sector_txn.specs.Sectors.{TxnState}

-- a store: its disk, and the sectors that were kept and wait for their commit
pub record StoreView (D : Type 0) : Type 0 where
  pub disk : D
  pub waiting : List Entry

-- a transaction: the same of the store that it began with, and the sectors that were put
pub record TxnView (D : Type 0) : Type 0 where
  pub disk : D
  pub waiting : List Entry
  pub delta : List Entry

-- the map of a store
unfoldable pub present : {D : Type 0} → (D → DiskState) → StoreView D → SectorMap
present state store = with_batch store.waiting (data_of (state store.disk))

-- the map of a transaction, without what was put and with it
unfoldable pub map_before : {D : Type 0} → (D → DiskState) → TxnView D → SectorMap
map_before state txn = with_batch txn.waiting (data_of (state txn.disk))

unfoldable pub map_now : {D : Type 0} → (D → DiskState) → TxnView D → SectorMap
map_now state txn = with_batch txn.delta (map_before state txn)

abbrev pub txn_state : {D : Type 0} → (D → DiskState) → TxnView D → TxnState
txn_state state txn = record {
  sectors = map_now state txn;
  before = map_before state txn;
  has_put = has_entry txn.delta;
  room = max_delta (header_at (state txn.disk).seen) - length txn.delta;
  header = header_at (state txn.disk).seen;
  disk = state txn.disk;
}

-- what waits: of a sector that both have, what is logged counts
abbrev pub all_waiting : (placed logged : List Entry) → List Entry
all_waiting placed logged = logged ++ placed

-- the disk, also after a fault
abbrev pub disk_after : {D : Type 0} → Result (StoreView D) D → D
disk_after (Ok store) = store.disk
disk_after (Err broken) = broken

-- no more sectors are put than a call may, all of them on the disk
pub record IsTxn (disk : DiskState) (delta : List Entry) : Type 0 where
  pub few : length delta ≤ max_delta (header_at disk.seen)
  pub on_disk : IsOnDisk (header_at disk.seen) disk.size delta

-- Two batches wait, all of their sectors on the disk. Those that go to their places alone are free in what the disk reads as, and none is a
-- target of the commit that stands; where the log has one area there are none. The log has room for the others, and each batch has memory for
-- what may come to it.
pub record IsWaiting (disk : DiskState) (placed logged : BatchView) : Type 0 where
  pub places : IsOnDisk (header_at disk.seen) disk.size placed.entries
  pub on_disk : IsOnDisk (header_at disk.seen) disk.size logged.entries
  pub spare : All (IsSpare (data_of disk)) (targets placed.entries)
  pub beside : All (IsNoTarget disk) (targets placed.entries)
  pub alone : header_at disk.seen ≡ 0 → placed.entries ≡ []
  pub few : length logged.entries ≤ max_targets (header_at disk.seen)
  pub log : logged.most ≡ max_targets (header_at disk.seen)
  pub room : max_delta (header_at disk.seen) ≤ placed.most

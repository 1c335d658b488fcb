-- What the end of a process does inside a transaction.
--     ended        the tables then
--     IsExited        nothing refuses it, and the map holds the tree after it
--     IsNotExited        why it is refused
--     Exits        the whole
--     LeavesAt, LeavesAll        what becomes of what one descriptor is for, and of all that the process has open
use Rattle.std.specs.Prelude.{◌≡◌, ℕ, None, Some, Result, Ok, Err, MatchResult, OnOk, OnErr}
use Rattle.sector_disk.specs.Disk.{DiskState, HasFailed}
use Rattle.fs_cred.specs.declared.errno.Errno.{Errno}
use Rattle.fs_cred.specs.declared.errno.Errno.TheVariants.{EIO}
use Rattle.fs_cred.specs.declared.refusal.Refusal.{Refusal}
use Rattle.fs_cred.specs.declared.refusal.Refusal.TheVariants.{Failed}
use Rattle.fs_layout.specs.declared.geometry.Geometry.{Geometry}
use Rattle.fs_layout.specs.Bytes.{SectorMap}
use Rattle.fs_layout.specs.Maps.{without}
use Rattle.std.specs.Ordering.{nat_cmp}
use Rattle.sector_txn.specs.Sectors.{TxnState, SameStore, IsUnchanged}
use Rattle.fs_model.specs.declared.event.Event.TheVariants.{Exit}
use Rattle.fs_model.specs.declared.reply.Reply.TheVariants.{Done}
use Rattle.fs_model.specs.TreeChanges.{Same, swept}
use Rattle.fs_model.specs.Processes.{Descriptor, is_open}
use Rattle.call_parts.specs.BothTables.{Tables, both, users_of}
use Rattle.call_parts.specs.Callers.{leaving}
use Rattle.fs_model.specs.Stands.{HoldsAll, placed}
use Rattle.fs_model.specs.States.{State}
use Rattle.fs_model.specs.Steps.{after, firm_refusal, other_refusal}
use Rattle.open_files.specs.Tables.{open_in}
use Rattle.call_parts.specs.Performing.{IsStateOf, chosen}
use Rattle.call_parts.specs.Dropping.{LeavesInode}

-- what is left once the process has ended
abbrev pub ended : Tables → ℕ → Tables
ended tables pid = both (without nat_cmp tables.processes pid) tables.openings

-- Nothing refuses the end of the process. It leaves these tables, and the map holds the tree after it.
pub record IsExited (p : Geometry) (map : SectorMap) (tables : Tables) (s : State) (pid : ℕ) : Type 0 where
  pub early : firm_refusal s (Exit pid) ≡ None
  pub late : other_refusal s (Exit pid) ≡ None
  pub effect : after s (Exit pid) (chosen 0 0 0) ≡ leaving s tables Same Done
  pub holds : HoldsAll p map (placed (swept s.tree (users_of tables)))

-- The end of a process is refused: there is no such process, or a read failed.
pub data IsNotExited (old new : DiskState) (s : State) (pid : ℕ) (r : Refusal) : Type 0 where
  absent : firm_refusal s (Exit pid) ≡ Some r → IsNotExited old new s pid r
  read_fails : firm_refusal s (Exit pid) ≡ None → HasFailed old new → r ≡ Failed EIO → IsNotExited old new s pid r

-- The end of process pid. At `Err` the tables are as they were, and of the map nothing is said: its changes are dropped.
pub record Exits (p : Geometry) (pid : ℕ) (old new : TxnState) (before now : Tables) (result : Result (Unit {0}) Refusal) : Type 0 where
  pub store : SameStore old new
  pub super : OnOk result (new.sectors 0 ≡ old.sectors 0)
  pub table : OnErr result (now ≡ before)
  pub each : (s : State) → IsStateOf p old.sectors before s
      → MatchResult result (λ done. IsExited p new.sectors now s pid) (λ r. IsNotExited old.disk new.disk s pid r)

-- Where a process has something open at the descriptor, that is as it was, or gone: no other process and no handle may have it open.
pub data LeavesAt (p : Geometry) (tables : Tables) (pid fd : ℕ) (old new : TxnState) : Type 0 where
  is_closed : (errno : Errno) → open_in tables.processes pid fd ≡ Err errno → IsUnchanged old new → LeavesAt p tables pid fd old new
  was_open : (d : Descriptor) → open_in tables.processes pid fd ≡ Ok d → LeavesInode p d.ino (is_open (users_of (ended tables pid)) d.ino) old new
      → LeavesAt p tables pid fd old new

-- Nothing is left of what the process alone has open.
pub record LeavesAll (p : Geometry) (tables : Tables) (pid : ℕ) (old new : TxnState) : Type 0 where
  pub super : new.sectors 0 ≡ old.sectors 0
  pub held : (s : State) → IsStateOf p old.sectors tables s → HoldsAll p new.sectors (placed (swept s.tree (users_of (ended tables pid))))

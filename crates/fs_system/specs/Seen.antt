-- How a file system is seen, and which state it is in.
--     base_left        what stands in the place of a store after an event
--     System, disk_in        what a contract sees of one, and its disk
--     IsOn        it goes on in a state, or is halted
--     tables_on        both of its tables
--     IsIn, IsInSomeState        the file system is in this state, or in some
use Rattle.std.specs.Prelude.{◌≡◌, ℕ, [], Result, Ok, Err, IsTrue}
use Rattle.sector_disk.specs.Disk.{DiskState}
use Rattle.fs_layout.specs.declared.geometry.Geometry.{Geometry}
use Rattle.sector_txn.specs.Stores.{StoreView, present}
use Rattle.fs_model.specs.Processes.{ProcessTable, Openings}
use Rattle.fs_model.specs.States.{State}
use Rattle.call_parts.specs.BothTables.{Tables, both}
use Rattle.fs_system.specs.declared.base.Base.{Base}
use Rattle.fs_system.specs.declared.base.Base.TheVariants.{Running, Halted, Taken}
use Rattle.fs_system.specs.Running.{IsRunning}

-- a store that is flushed or whose changes are kept goes on, and a commit that fails halts
abbrev pub base_left : {D : Type 0} → Result (StoreView D) D → Base D
base_left (Ok store) = Running store
base_left (Err broken) = Halted broken

-- what it stands on, where the parts of its disk lie, its processes, what actors have open, and the time as it was
-- told last
pub record System (D : Type 0) : Type 0 where
  pub base : Base D
  pub geometry : Geometry
  pub processes : ProcessTable
  pub openings : Openings
  pub time : ℕ

-- no sectors
abbrev no_disk : DiskState
no_disk = record {
  size = 0;
  seen = [];
  may_hold = λ n content. ⊥;
  moment = 0;
  left_since = λ t image. ⊥;
  failures = 0;
  failed_writes = 0;
}

-- the disk, where there is one
abbrev pub disk_in : {D : Type 0} → (D → DiskState) → Base D → DiskState
disk_in state (Running store) = state store.disk
disk_in state (Halted broken) = state broken
disk_in state Taken = no_disk

-- A file system goes on in this state, at this time, or is halted. Of a halted one nothing more is known.
abbrev pub IsOn : {D : Type 0} → (D → DiskState) → Geometry → ℕ → Tables → Base D → State → Type 0
IsOn state p time tables (Running store) s = IsRunning (state store.disk).size p (present state store) tables s × (s.now ≡ time)
IsOn state p time tables (Halted broken) s = IsTrue s.halted
IsOn state p time tables Taken s = ⊥

-- both of its tables
abbrev pub tables_on : {D : Type 0} → System D → Tables
tables_on fs = both fs.processes fs.openings

-- the file system is in this state
abbrev pub IsIn : {D : Type 0} → (D → DiskState) → System D → State → Type 0
IsIn state fs s = IsOn state fs.geometry fs.time (tables_on fs) fs.base s

-- the file system is in some state
abbrev pub IsInSomeState : {D : Type 0} → (D → DiskState) → System D → Type 0
IsInSomeState state fs = (s : State) × IsIn state fs s

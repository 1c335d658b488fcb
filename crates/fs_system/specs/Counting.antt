-- How much is free, as a store remembers it.
--     TellsSpace        these are the numbers of each state in which a map goes on
--     IsRemembered        they are, where they are known
--     TellsCounts        the clear bits of each sector of which they are known
--     HasCounts        they are those of what a transaction's sectors are now
--     IsKnown        both are so of a map
--     IsArmed        what arming leaves
use Rattle.std.specs.Prelude.{◌≡◌, ℕ, Option, IfSome}
use Rattle.free_counts.specs.Known.{CountList, TellsClear}
use Rattle.fs_layout.specs.declared.geometry.Geometry.{Geometry}
use Rattle.fs_layout.specs.Bytes.{SectorMap}
use Rattle.fs_layout.specs.Header.{header_of}
use Rattle.sector_disk.specs.Disk.{DiskState, Elapses, IsSame}
use Rattle.sector_txn.specs.Sectors.{TxnState}
use Rattle.fs_model.specs.States.{State}
use Rattle.fs_model.specs.Trees.{free_inodes}
use Rattle.call_parts.specs.BothTables.{Tables}
use Rattle.fs_system.specs.declared.counted.FreeSpace.{FreeSpace}
use Rattle.fs_system.specs.declared.counted.KnownSpace.{KnownSpace}
use Rattle.fs_system.specs.Running.{IsRunning}

-- On a disk of so many sectors these are the free sectors and inodes of each state in which the map goes on.
pub record TellsSpace (size : ℕ) (map : SectorMap) (free : FreeSpace) : Type 0 where
  pub sectors : (p : Geometry) (tables : Tables) (s : State) → IsRunning size p map tables s → s.free ≡ free.sectors
  pub inodes : (p : Geometry) (tables : Tables) (s : State) → IsRunning size p map tables s → free_inodes s.room s.tree ≡ free.inodes

abbrev pub IsRemembered : ℕ → SectorMap → Option FreeSpace → Type 0
IsRemembered size map free = IfSome free (TellsSpace size map)

-- The counts that are known are those of the map, whose sector 0 says where its log ends.
abbrev pub TellsCounts : SectorMap → CountList → Type 0
TellsCounts map counts = TellsClear (header_of (map 0)) map counts

-- The counts that are known are those of what the sectors of a transaction are now. Its disk says where the log ends.
pub record HasCounts (txn : TxnState) (counts : CountList) : Type 0 where
  pub told : TellsClear txn.header txn.sectors counts

-- how much is free in a map, and the counts of sectors, as far as they are known
pub record IsKnown (size : ℕ) (map : SectorMap) (known : KnownSpace) : Type 0 where
  pub space : IsRemembered size map known.free
  pub counts_are : TellsCounts map known.counts

-- A disk that is armed shows the same, has failed no more often, and time goes on.
pub record IsArmed (old new : DiskState) : Type 0 where
  pub unchanged : IsSame old new
  pub time : Elapses old new
  pub failures : new.failures ≡ old.failures
  pub failed_writes : new.failed_writes ≡ old.failed_writes

-- What a script begins with, and how it may end.
--     IsNew        the state of a new file system
--     Begins, RunsFromNew        such a file system is mounted, and then a script is run
--     Fails, RunsInMemory        what a failure says; what a run on a new disk in memory comes to
use Rattle.std.specs.Prelude.{◌≡◌, ℕ, List, [], Option, Result, Ok, Err, IsFalse, MatchResult}
use Rattle.sector_disk.specs.Disk.{DiskState, IsStable}
use Rattle.fs_layout.specs.declared.version.Version.{Version}
use Rattle.fs_layout.specs.Geometry.{laid_out}
use Rattle.fs_model.specs.Stands.{room_of}
use Rattle.fs_model.specs.States.{State}
use Rattle.fs_model.specs.NewDisk.{empty_tree}
use Rattle.fs_shell.specs.declared.answer.Count.{Count}
use Rattle.fs_shell.specs.declared.fault.RunFault.{RunFault}
use Rattle.fs_shell.specs.Runs.{Ran}
use Rattle.fs_images.specs.Making.{IsNewDisk}
use Rattle.fs_system.specs.Playing.{IsOfRestart}
use Rattle.fs_system.specs.Histories.{Config, Up}
use Rattle.fs_system.specs.Mounts.{Mounts}
use Rattle.fs_images.specs.declared.faults.MkfsFault.TheVariants.{DiskFault}
use Rattle.fs_program.specs.Streams.{Reading, Writing}
use Rattle.fs_program.specs.declared.failure.Failure.{Failure}
use Rattle.fs_program.specs.declared.failure.Failure.TheVariants.{Exists, NotCreated, NotOpened, NoScript, NoDenials, Mkfs, Mount, Check, Info, Upgrade, Run, Pack, Unpack, Access, Serve, Unmount}

-- on a disk of this version, of so many sectors, with so many inodes: an empty root, all data sectors free, and no process
pub record IsNew (version : Version) (sectors inodes : ℕ) (s : State) : Type 0 where
  pub room : s.room ≡ room_of (laid_out version sectors inodes)
  pub tree : s.tree ≡ empty_tree
  pub processes : s.processes ≡ []
  pub free : s.free ≡ s.room.sectors
  pub running : IsFalse s.halted

-- A new disk of this version, all of it stable, was mounted.
pub record Begins {D : Type 0} (state : D → DiskState) (version : Version) (sectors inodes : ℕ) (start : Config D) : Type 0 where
  pub made : D
  pub is_new_disk : IsNewDisk version inodes (state made).seen
  pub stable : IsStable (state made)
  pub now : D
  pub s : State
  pub mounts : Mounts (state made) (state now) s
  pub is_new : IsNew version sectors inodes s
  pub is_start : start ≡ Up s now

-- A run that begins so.
abbrev pub RunsFromNew : {D : Type 0} → (D → DiskState) → Version → ℕ → ℕ → Option (List ℕ) → Option (List ℕ) → Option (List ℕ) → Result Count RunFault → Type 0
RunsFromNew {D} state version sectors inodes input before after result =
    (c : Config D) × Begins state version sectors inodes c × (d : Config D) × Ran state input before after c d result

-- The run ended early, and then it was one; or it didn't begin, and then nothing was read or written.
abbrev pub Fails : (RunFault → Type 0) → Type 0 → Failure → Type 0
Fails ran untouched NotCreated = untouched
Fails ran untouched (Mkfs fault) = (fault ≡ DiskFault) × untouched
Fails ran untouched (Mount fault) = IsOfRestart fault × untouched
Fails ran untouched (Run fault) = ran fault
-- the failures of files, and of the kernel
Fails ran untouched Exists = ⊥
Fails ran untouched NotOpened = ⊥
Fails ran untouched NoScript = ⊥
Fails ran untouched NoDenials = ⊥
Fails ran untouched (Check fault) = ⊥
Fails ran untouched (Info fault) = ⊥
Fails ran untouched (Upgrade fault) = ⊥
Fails ran untouched (Pack fault) = ⊥
Fails ran untouched (Unpack fault) = ⊥
Fails ran untouched (Access fault) = ⊥
Fails ran untouched (Serve fault) = ⊥
Fails ran untouched Unmount = ⊥

-- A script is to be run on a new disk of this version, of so many sectors, with so many inodes.
abbrev pub RunsInMemory : {D : Type 0} → (D → DiskState) → Version → ℕ → ℕ → Reading → Writing → Type 0 → Result Count Failure → Type 0
RunsInMemory state version sectors inodes r w untouched result = MatchResult result
    (λ count. RunsFromNew state version sectors inodes r.input w.before w.after (Ok count))
    (Fails (λ fault. RunsFromNew state version sectors inodes r.input w.before w.after (Err fault)) untouched)

-- What an event does to a state, and to the disk at each moment.
--     Adds        the one tree that an event adds to those that a stop may leave
--     IsFound        what a stop may leave meanwhile
--     Does        the whole
--     Happens, HappensLast, FlushesFor        the same of a file system, whichever state it was in
use Rattle.std.specs.Prelude.{◌≡◌, ◌≤◌, ◌⊎◌, ℕ, None, IsTrue, IsFalse}
use Rattle.sector_disk.specs.Disk.{DiskState, Image, IsImage, IsSame, OnlyReads, LeavesOnly, HasFailed, HasFailedToWrite}
use Rattle.fs_model.specs.declared.event.Event.{Event}
use Rattle.fs_model.specs.declared.reply.Reply.{Reply}
use Rattle.fs_model.specs.Trees.{Tree}
use Rattle.fs_model.specs.States.{State}
use Rattle.fs_model.specs.Steps.{Step, Choice, after, tree_after, firm_refusal}
use Rattle.fs_model.specs.Stops.{Halts, asks_stable, makes_stable, is_io_error}
use Rattle.fs_system.specs.Seen.{System, disk_in, IsIn}
use Rattle.fs_images.specs.Standing.{StandsFor, StandsAs, EachStandsFor}

-- The tree is the one after the event, or where that halts the machine, the one that its effect would have given.
abbrev pub Adds : State → Event → State → Tree → Type 0
Adds old e new t = (t ≡ new.tree) ⊎ ((choice : Choice) × Halts old e new choice × (t ≡ tree_after old (after old e choice)))

-- The image stands for what one at the start stood for, for the tree that was present then, or for the one that is added.
abbrev pub IsFound : DiskState → State → Tree → Image → Type 0
IsFound before old added image =
    ((from : Image) × IsImage before from × StandsAs from image)
    ⊎ (IsFalse old.halted × ((free : ℕ) × StandsFor old.room image old.tree free))
    ⊎ ((free : ℕ) × StandsFor old.room image added free)

-- From one moment to another an event happens, with this reply, on a disk and in a state.
pub record Does (before now : DiskState) (old : State) (e : Event) (reply : Reply) (new : State) : Type 0 where
  pub serves : Step old e reply new
  pub added : Tree
  pub is_added : Adds old e new added
  -- at any moment
  pub images : LeavesOnly before now (IsFound before old added)
  -- once fsync or sync answers ok, each image that a stop may leave stands for the tree that is present then
  pub synced : IsTrue (makes_stable e reply) → EachStandsFor new.room now new.tree
  -- EIO is answered only where the device failed, or where the machine is halted
  pub cause : IsTrue (is_io_error reply) → IsFalse old.halted → HasFailed before now
  -- the machine halts only where a write or a sync failed
  pub halts : IsFalse old.halted → IsTrue new.halted → HasFailedToWrite before now
  -- where it isn't halted then, no write and no sync has failed
  pub unhalted : IsFalse new.halted → now.failed_writes ≡ before.failed_writes
  -- EIO without halting is that of a read: the disk was only read
  pub unread : IsTrue (is_io_error reply) → IsFalse new.halted → OnlyReads before now
  pub later : before.failures ≤ now.failures
  -- a halted one leaves the disk as it is
  pub still : IsTrue old.halted → IsSame before now

-- In each state that the file system was in the event happened, with this reply, and it is in the state after it.
abbrev pub Happens : {D : Type 0} → (D → DiskState) → System D → System D → Event → Reply → Type 0
Happens state old new e reply =
    (s : State) → IsIn state old s → (t : State) × IsIn state new t × Does (disk_in state old.base) (disk_in state new.base) s e reply t

-- the last event of a file system happened so, after which there is the disk alone
abbrev pub HappensLast : {D : Type 0} → (D → DiskState) → System D → D → Event → Reply → Type 0
HappensLast state old now e reply = (s : State) → IsIn state old s → (t : State) × Does (disk_in state old.base) (state now) s e reply t

-- An event that makes all stable happened in each state in which nothing that is asked first refuses it.
abbrev pub FlushesFor : {D : Type 0} → (D → DiskState) → System D → System D → Event → Reply → Type 0
FlushesFor state old new e reply =
    IsTrue (asks_stable e) → (s : State) → IsIn state old s → firm_refusal s e ≡ None
    → (t : State) × IsIn state new t × Does (disk_in state old.base) (disk_in state new.base) s e reply t

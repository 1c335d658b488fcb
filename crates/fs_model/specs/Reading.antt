-- Events that only look at a tree, and what stays then.
--     IsReadingCall, IsReading        a call that only looks, and an event that does
--     IsPruned        no file is nameless
--     StaysAs        a state with the same tree
--     ReadingKeeps, SyncKeeps        the laws
use Rattle.std.specs.Prelude.{◌≡◌, None, IsFalse}
use Rattle.fs_model.specs.declared.call.Call.{Call}
use Rattle.fs_model.specs.declared.call.Call.TheVariants.{Open, Read, Close, Lstat, GetAcl, Readdir, Readlink}
use Rattle.fs_model.specs.declared.event.Event.{Event}
use Rattle.fs_model.specs.declared.event.Event.TheVariants.{Spawn, Exit, Call as Calls, Stamp, Sync}
use Rattle.fs_model.specs.declared.reply.Reply.{Reply}
use Rattle.fs_model.specs.Trees.{Tree, IsTree}
use Rattle.fs_model.specs.TreeChanges.{pruned}
use Rattle.fs_model.specs.States.{State}
use Rattle.fs_model.specs.Steps.{Step}

-- A status, an access list, a link's target, the names of a directory or bytes are asked for. What is opened is neither made nor
-- cut off, and isn't opened for writing.
abbrev pub IsReadingCall : Call → Type 0
IsReadingCall (Lstat path) = Unit {0}
IsReadingCall (GetAcl path which) = Unit {0}
IsReadingCall (Readlink path) = Unit {0}
IsReadingCall (Open path flags mode) = IsFalse flags.create × IsFalse flags.trunc × IsFalse flags.write
IsReadingCall (Readdir fd) = Unit {0}
IsReadingCall (Read fd len) = Unit {0}
IsReadingCall (Close fd) = Unit {0}
IsReadingCall call = ⊥

-- Processes begin and end, and look; and times are asked for, none of which is set.
abbrev pub IsReading : Event → Type 0
IsReading (Spawn cred) = Unit {0}
IsReading (Exit pid) = Unit {0}
IsReading (Calls pid call) = IsReadingCall call
IsReading (Stamp ino atime mtime ctime) = (atime ≡ None) × (mtime ≡ None) × (ctime ≡ None)
IsReading event = ⊥

-- No file is nameless: to prune the tree drops nothing.
abbrev pub IsPruned : Tree → Type 0
IsPruned t = pruned t ≡ t

-- the same tree, on a disk of the same room
pub record StaysAs (old new : State) : Type 0 where
  pub room : new.room ≡ old.room
  pub tree : new.tree ≡ old.tree

-- An event that only looks leaves a tree as it is, where no file of it is nameless.
abbrev pub ReadingKeeps : Type 0
ReadingKeeps =
    (old new : State) (e : Event) (reply : Reply) → IsTree old.room old.tree → IsPruned old.tree → IsReading e → Step old e reply new
    → StaysAs old new

-- So does a sync.
abbrev pub SyncKeeps : Type 0
SyncKeeps = (old new : State) (reply : Reply) → IsPruned old.tree → Step old Sync reply new → StaysAs old new

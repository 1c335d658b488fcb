-- What is asked of a file system while a tree is copied to it or from it.
--     IsMakingCall, IsMaking        a call, and an event, that makes a copy; what reads one is IsReading of fs_model
--     is_so_long, is_done        the reply says that all was done that was asked for
--     Asked, ServesAll        an event with its reply, and what several lead to
--     AsksOne        one event was asked
--     Asks        events of one kind were asked, one after another, and whether anything is lacking since
--     OnlyTells        nothing was asked, and what is lacking may be told
--     AsksTelling        both
--     AreCopying, ArePacking, AreUnpacking        what is asked for a copy, and how that ends
--     Copies        the same, from one state of the file system to another
--     is_copied_whole        a copy came to its end, and all is there
use Rattle.std.specs.Prelude.{◌≡◌, ◌==◌, ℕ, Bool, true, false, ◌&&◌, List, [], ◌∷◌, ◌++◌, length, IsTrue, IsFalse, All, Result, Ok, Err}
use Rattle.fs_model.specs.declared.call.Call.{Call}
use Rattle.fs_model.specs.declared.call.Call.TheVariants.{Open, Write, Close, Fstat, Lstat, Chmod, Chown, Mkdir, Link, Symlink, Umask}
use Rattle.fs_model.specs.declared.event.Event.{Event}
use Rattle.fs_model.specs.declared.event.Event.TheVariants.{Spawn, Exit, Call as Calls, Stamp, Sync}
use Rattle.fs_model.specs.declared.reply.Reply.{Reply}
use Rattle.fs_model.specs.declared.reply.Reply.TheVariants.{Done, Wrote, Refused}
use Rattle.fs_model.specs.Reading.{IsReading}
use Rattle.host_trees.specs.declared.fault.Copied.{Copied}
use Rattle.host_trees.specs.declared.fault.Copied.TheVariants.{Whole, InPart}
use Rattle.host_trees.specs.declared.fault.CopyFault.{CopyFault}

-- Something is made that wasn't there, or bytes, an owner or a mode are given to what is; and a status is asked for. Nothing is
-- removed, renamed or cut off, and a file that is there isn't opened.
abbrev pub IsMakingCall : Call → Type 0
IsMakingCall (Mkdir path mode) = Unit {0}
IsMakingCall (Symlink target path) = Unit {0}
IsMakingCall (Link old new) = Unit {0}
IsMakingCall (Open path flags mode) = IsTrue flags.create × IsTrue flags.excl × IsFalse flags.trunc
IsMakingCall (Write fd bytes) = Unit {0}
IsMakingCall (Close fd) = Unit {0}
IsMakingCall (Lstat path) = Unit {0}
IsMakingCall (Fstat fd) = Unit {0}
IsMakingCall (Chown path owner group) = Unit {0}
IsMakingCall (Chmod path mode) = Unit {0}
IsMakingCall (Umask mask) = Unit {0}
IsMakingCall call = ⊥

-- Processes begin and end, and make such calls; times are set; and all is made stable.
abbrev pub IsMaking : Event → Type 0
IsMaking (Spawn cred) = Unit {0}
IsMaking (Exit pid) = Unit {0}
IsMaking (Calls pid call) = IsMakingCall call
IsMaking (Stamp ino atime mtime ctime) = Unit {0}
IsMaking Sync = Unit {0}
IsMaking event = ⊥

-- a write of so many bytes
abbrev pub is_so_long : Event → ℕ → Bool
is_so_long (Calls pid (Write fd bytes)) size = length bytes == size
is_so_long event size = false

-- nothing was refused, and of a write all bytes were written
abbrev pub is_done : Event → Reply → Bool
is_done event (Refused refusal) = false
is_done event (Wrote size) = is_so_long event size
is_done event reply = true

-- an event, and its reply
pub record Asked : Type 0 where
  pub event : Event
  pub reply : Reply

-- from one state to another by these events with these replies, one after another
pub data ServesAll {M : Type 0} (Serves : M → Event → Reply → M → Type 0) : M → List Asked → M → Type 0 where
  stays : (m : M) → ServesAll Serves m [] m
  goes : (old mid new : M) (asked : Asked) (rest : List Asked) → Serves old asked.event asked.reply mid → ServesAll Serves mid rest new
      → ServesAll Serves old (asked ∷ rest) new

-- One event was asked. Nothing is lacking now where nothing was before, and all of it was done.
pub record AsksOne {M : Type 0} (Serves : M → Event → Reply → M → Type 0) (event : Event) (old new : M) (was_whole is_whole : Bool) : Type 0 where
  pub reply : Reply
  pub serves : Serves old event reply new
  pub whole : is_whole ≡ (was_whole && is_done event reply)

-- Events of one kind were asked, one after another. Where nothing is lacking now, nothing was before, and all was done.
pub record Asks {M : Type 0} (Serves : M → Event → Reply → M → Type 0) (Own : Event → Type 0) (old new : M) (was_whole is_whole : Bool) : Type 0 where
  pub asked : List Asked
  pub goes : ServesAll Serves old asked new
  pub own : All (λ a. Own a.event) asked
  pub before : IsTrue is_whole → IsTrue was_whole
  pub done : IsTrue is_whole → All (λ a. IsTrue (is_done a.event a.reply)) asked

-- Nothing was asked, between two states of who is told what is lacking. Where nothing is lacking now, nothing was before, and nothing
-- was told.
pub record OnlyTells {M E : Type 0} (old new : M) (was_whole is_whole : Bool) (unaware aware : E) : Type 0 where
  pub same : new ≡ old
  pub before : IsTrue is_whole → IsTrue was_whole
  pub silent : IsTrue is_whole → aware ≡ unaware

-- Events of one kind were asked, and between two states of who is told what is lacking. Where nothing is lacking, nothing was told.
pub record AsksTelling {M E : Type 0} (Serves : M → Event → Reply → M → Type 0) (Own : Event → Type 0) (old new : M) (was_whole is_whole : Bool)
    (unaware aware : E) : Type 0 where
  pub asks : Asks Serves Own old new was_whole is_whole
  pub silent : IsTrue is_whole → aware ≡ unaware

-- ---- how a copy ends

abbrev pub is_whole : Copied → Bool
is_whole Whole = true
is_whole InPart = false

-- a copy came to its end, and nothing is lacking in it
abbrev pub is_copied_whole : Result Copied CopyFault → Bool
is_copied_whole (Ok copied) = is_whole copied
is_copied_whole (Err fault) = false

-- Events of one kind, with these replies, copy a tree: all of them is done where it is copied whole.
pub record AreCopying (Own : Event → Type 0) (asked : List Asked) (whole : Bool) : Type 0 where
  pub own : All (λ a. Own a.event) asked
  pub done : IsTrue whole → All (λ a. IsTrue (is_done a.event a.reply)) asked

-- a sync, after which all is stable
abbrev pub synced : Asked
synced = record { event = Sync; reply = Done }

-- A tree was copied to a file system, by events that make it, and last all was made stable; or it wasn't copied to the end.
abbrev pub ArePacking : List Asked → Result Copied CopyFault → Type 0
ArePacking asked (Ok copied) = (before : List Asked) × (asked ≡ before ++ synced ∷ []) × AreCopying IsMaking before (is_whole copied)
ArePacking asked (Err fault) = AreCopying IsMaking asked false

-- A tree was copied from a file system, by events that only look; or it wasn't copied to the end.
abbrev pub AreUnpacking : List Asked → Result Copied CopyFault → Type 0
AreUnpacking asked (Ok copied) = AreCopying IsReading asked (is_whole copied)
AreUnpacking asked (Err fault) = AreCopying IsReading asked false

-- From one state to another by events that copy a tree so.
pub record Copies {M : Type 0} (Serves : M → Event → Reply → M → Type 0) (old new : M) (Are : List Asked → Type 0) : Type 0 where
  pub asked : List Asked
  pub goes : ServesAll Serves old asked new
  pub are : Are asked

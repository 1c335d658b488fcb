-- What a call, or what is done by a handle, does inside a transaction, in one form for all.
--     IsStateOf        the state of a map and both tables
--     MayPerform        a transaction in which a call may be performed
--     IsDone        nothing refuses it, and the map holds the tree after it
--     IsRefused        why it is refused
--     Performs        the whole
--     IsReadyFor, PerformsBy, PerformsFor        the same of a caller, and of a call that leaves both tables as they are
--     is_on_names        whether a call is on names, or else on files, descriptors and processes
use Rattle.std.specs.Prelude.{◌≡◌, ℕ, Bool, true, false, None, Some, IsTrue, IsFalse, Result, MatchResult, OnOk, OnErr}
use Rattle.sector_disk.specs.Disk.{DiskState, HasFailed}
use Rattle.fs_cred.specs.declared.errno.Errno.TheVariants.{ENOMEM, EIO}
use Rattle.fs_cred.specs.declared.refusal.Refusal.{Refusal}
use Rattle.fs_cred.specs.declared.refusal.Refusal.TheVariants.{Failed}
use Rattle.fs_layout.specs.declared.geometry.Geometry.{Geometry}
use Rattle.fs_layout.specs.Bytes.{SectorMap}
use Rattle.fs_layout.specs.Images.{free_sectors}
use Rattle.sector_txn.specs.Sectors.{TxnState, SameStore}
use Rattle.fs_model.specs.declared.call.Call.{Call}
use Rattle.fs_model.specs.declared.call.Call.TheVariants.{Mkdir, Rmdir, Link, Symlink, Readlink, Unlink, Rename, Chdir}
use Rattle.fs_model.specs.declared.reply.Reply.{Reply}
use Rattle.fs_model.specs.TreeChanges.{Change, changed, touches, touched, swept}
use Rattle.fs_model.specs.States.{State, IsState}
use Rattle.fs_model.specs.Stands.{HoldsAll, placed, room_of}
use Rattle.fs_model.specs.Steps.{Choice, HasNewNumber, HasNewHandle, after, firm_refusal, other_refusal}
use Rattle.bit_alloc.specs.Inodes.{IsSound}
use Rattle.bit_alloc.specs.Room.{HasSpare}
use Rattle.call_parts.specs.declared.reaching.Caller.{Caller}
use Rattle.call_parts.specs.BothTables.{Tables, tables_in, users_of, tables_of}
use Rattle.call_parts.specs.Callers.{Who, AnyCall, ByCaller, event_of, asks_of, who_of, leaving}

-- a state that runs: its tree is what the map holds, and its tables are these
pub record IsStateOf (p : Geometry) (map : SectorMap) (tables : Tables) (s : State) : Type 0 where
  pub is_state : IsState s
  pub up : IsFalse s.halted
  pub same_tables : tables_in s ≡ tables
  pub same_room : s.room ≡ room_of p
  pub holds : HoldsAll p map (placed s.tree)
  pub free_is : s.free ≡ free_sectors p map

-- The transaction has put nothing, or little enough: all bitmaps can be put, and as many sectors more as there are at its start.
-- Its map and the tables are those of a state.
pub record MayPerform (p : Geometry) (txn : TxnState) (tables : Tables) : Type 0 where
  pub sound : IsSound p txn
  pub spare : HasSpare p 47 txn
  pub state : State
  pub is_state : IsStateOf p txn.sectors tables state

-- a call reads no more of a choice than the numbers of a new node and of a new handle
abbrev pub chosen : ℕ → ℕ → ℕ → Choice
chosen number handle free = record { ino = number; pid = 0; handle = handle; free = free }

-- Nothing refuses the request. It is answered so and leaves these tables, and the map holds the tree after it, in which times
-- have moved to this one.
pub record IsDone (p : Geometry) (time : ℕ) (map : SectorMap) (tables : Tables) (s : State) (r : AnyCall) (reply : Reply) : Type 0 where
  pub early : firm_refusal s (event_of r) ≡ None
  pub late : other_refusal s (event_of r) ≡ None
  pub number : ℕ
  pub handle : ℕ
  pub change : Change
  pub effect : after s (event_of r) (chosen number handle 0) ≡ leaving s tables change reply
  pub new_number : HasNewNumber s change
  pub new_handle : HasNewHandle s (event_of r) handle
  pub holds : HoldsAll p map (placed (touched time (touches s.room s.tree change) (swept (changed s.tree change) (users_of tables))))

-- The request is refused: by what is asked first, by what is asked then, for want of memory, or for a read that failed.
pub data IsRefused (old new : DiskState) (s : State) (r : AnyCall) (e : Refusal) : Type 0 where
  early : firm_refusal s (event_of r) ≡ Some e → IsRefused old new s r e
  late : firm_refusal s (event_of r) ≡ None → other_refusal s (event_of r) ≡ Some e → IsRefused old new s r e
  lacks_memory : firm_refusal s (event_of r) ≡ None → IsTrue (asks_of r) → e ≡ Failed ENOMEM → IsRefused old new s r e
  read_fails : firm_refusal s (event_of r) ≡ None → HasFailed old new → e ≡ Failed EIO → IsRefused old new s r e

-- A request, at this time. At `Err` the tables are as they were, and of the map nothing is said: its changes are dropped.
pub record Performs (p : Geometry) (time : ℕ) (r : AnyCall) (old new : TxnState) (before now : Tables) (result : Result Reply Refusal) : Type 0 where
  pub store : SameStore old new
  pub super : OnOk result (new.sectors 0 ≡ old.sectors 0)
  pub table : OnErr result (now ≡ before)
  pub each : (s : State) → IsStateOf p old.sectors before s
      → MatchResult result (λ reply. IsDone p time new.sectors now s r reply) (λ e. IsRefused old.disk new.disk s r e)

-- A caller's call may be performed.
abbrev pub IsReadyFor : Caller → TxnState → Type 0
IsReadyFor c txn = MayPerform c.geometry txn (tables_of c)

-- A call of someone on this caller's image, which leaves both tables as they are.
abbrev pub PerformsBy : Caller → Who → Call → TxnState → TxnState → Result Reply Refusal → Type 0
PerformsBy c who call old new result = Performs c.geometry c.time (ByCaller who call) old new (tables_of c) (tables_of c) result

-- A caller's call, which leaves both tables as they are, whatever it answers.
abbrev pub PerformsFor : Caller → Call → TxnState → TxnState → Result Reply Refusal → Type 0
PerformsFor c call old new result = PerformsBy c (who_of c.by) call old new result

-- whether the call is on directories and what they name
abbrev pub is_on_names : Call → Bool
is_on_names (Mkdir path mode) = true
is_on_names (Rmdir path) = true
is_on_names (Link old new) = true
is_on_names (Symlink target path) = true
is_on_names (Readlink path) = true
is_on_names (Unlink path) = true
is_on_names (Rename old new) = true
is_on_names (Chdir path) = true
is_on_names _ = false

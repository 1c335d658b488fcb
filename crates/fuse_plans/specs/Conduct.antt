-- How plans behave, whatever is replied: who makes each call, and on what.
--     Rights        for whom it is done, and on what
--     MayCall        who may call
--     is_close, releases, MayCallBy        by which handle, and when that is closed
--     MayAsk, conduct        what may be asked
use Rattle.std.specs.Prelude.{◌≡◌, ℕ, Bool, true, false, not, ◌&&◌, ◌||◌, [], ◌∷◌, Option, None, Some, is_some, IsTrue}
use Rattle.std.specs.List.{Contains}
use Rattle.posix_acl.specs.Entries.{perms_of}
use Rattle.fs_cred.specs.Credentials.{Credential}
use Rattle.fs_model.specs.declared.call.Call.{Call}
use Rattle.fs_model.specs.declared.call.Call.TheVariants.{Open as OpenCall, Lstat, Access, GetAcl, Readlink}
use Rattle.fs_model.specs.declared.event.Actor.{Actor}
use Rattle.fs_model.specs.declared.event.Event.{Event}
use Rattle.fs_model.specs.declared.event.Event.TheVariants.{CallAt, CallBy, Stamp, Clock, Sync, Statfs}
use Rattle.fs_model.specs.declared.event.HandleCall.{HandleCall}
use Rattle.fs_model.specs.declared.event.HandleCall.TheVariants as by_handle
use Rattle.fs_model.specs.declared.reply.Reply.{Reply}
use Rattle.fs_model.specs.declared.reply.Reply.TheVariants.{Opened}
use Rattle.fuse_protocol.specs.declared.operation.AttrChanges.{AttrChanges}
use Rattle.fuse_protocol.specs.declared.operation.Operation.{Operation}
use Rattle.fuse_protocol.specs.declared.operation.Operation.TheVariants.{SetAttr, Release}
use Rattle.fuse_plans.specs.declared.mode.Mode.TheVariants.{Reads}
use Rattle.fuse_plans.specs.Plans.{Restraint}
use Rattle.fuse_plans.specs.Works.{refusal_in}
use Rattle.fuse_plans.specs.Callers.{server_credential}
use Rattle.fuse_plans.specs.Flags.{opening}
use Rattle.fuse_plans.specs.Acts.{Subject, AskedBefore, IsObject, Concerns}

-- the credential of who asks, where it is known; the handle that is given; and what the request is about
pub record Rights : Type 0 where
  pub cred : Option Credential
  pub handle : Option ℕ
  pub subject : Subject

-- ---- who calls

-- a call shows what is there, and changes nothing; of what is opened so the names alone are told
abbrev pub only_looks : Call → Bool
only_looks (Lstat path) = true
only_looks (Readlink path) = true
only_looks (GetAcl path which) = true
only_looks (OpenCall path flags mode) = not flags.write && (not flags.create && not flags.trunc) && flags.directory
only_looks _ = false

-- who asks was granted before to run the object
pub record MayRun (cred : Option Credential) (past : AskedBefore) (n : ℕ) : Type 0 where
  pub asker : Actor
  pub is_who_asks : cred ≡ Some asker.cred
  pub starts : asker.start ≡ n
  pub reply : Reply
  pub was_asked : Contains past (CallAt asker (Access [] (perms_of 1)), reply)
  pub granted : refusal_in reply ≡ None

-- Who asks may make each call, and the server may look. And it opens for reading what who asks may run.
pub data MayCall (rights : Rights) (past : AskedBefore) (actor : Actor) (call : Call) : Type 0 where
  as_who_asks : rights.cred ≡ Some actor.cred → MayCall rights past actor call
  as_server : actor.cred ≡ server_credential → IsTrue (only_looks call) → MayCall rights past actor call
  to_run : actor.cred ≡ server_credential → MayRun rights.cred past actor.start → call ≡ OpenCall [] (opening Reads false) 0
      → MayCall rights past actor call

-- what was opened for the request is listed at most, and closed
abbrev pub lists_or_closes : HandleCall → Bool
lists_or_closes by_handle.List = true
lists_or_closes by_handle.Close = true
lists_or_closes _ = false

abbrev pub is_close : HandleCall → Bool
is_close by_handle.Close = true
is_close _ = false

-- the request says that its handle is given up
abbrev pub releases_in : Operation → Bool
releases_in (Release handle) = true
releases_in _ = false

abbrev pub releases : Option Operation → Bool
releases None = false
releases (Some operation) = releases_in operation

-- The handle that is given, which only a RELEASE closes, and does nothing else with; or one that was opened for a request that gives none.
pub data MayCallBy (rights : Rights) (past : AskedBefore) (handle : ℕ) (call : HandleCall) : Type 0 where
  given : rights.handle ≡ Some handle → is_close call ≡ releases rights.subject.operation → MayCallBy rights past handle call
  opened_here : rights.handle ≡ None → (e : Event) (n : ℕ) → Contains past (e, Opened handle n) → IsTrue (lists_or_closes call)
      → MayCallBy rights past handle call

-- ---- what may be asked

-- Times are asked for, or set where the request sets times: those of its object.
pub data MayStamp (r : Subject) (n : ℕ) : (atime mtime ctime : Option ℕ) → Type 0 where
  asks : MayStamp r n None None None
  sets : (changes : AttrChanges) (atime mtime ctime : Option ℕ) → r.operation ≡ Some (SetAttr changes)
      → IsTrue (is_some changes.atime || is_some changes.mtime) → IsObject r n → MayStamp r n atime mtime ctime

-- Nothing is asked of the disk nor of a process. Each call concerns what the request is about. The time may always be told.
abbrev pub MayAsk : Rights → AskedBefore → Event → Type 0
MayAsk rights past (CallAt actor call) = MayCall rights past actor call × Concerns rights.subject past actor call
MayAsk rights past (CallBy handle call) = MayCallBy rights past handle call
MayAsk rights past (Stamp n atime mtime ctime) = MayStamp rights.subject n atime mtime ctime
MayAsk rights past (Clock now) = Unit {0}
MayAsk rights past Sync = Unit {0}
MayAsk rights past Statfs = Unit {0}
MayAsk rights past _ = ⊥

abbrev pub conduct : Rights → Restraint AskedBefore
conduct rights = record { after = λ past e reply. (e, reply) ∷ past; may_ask = MayAsk rights }

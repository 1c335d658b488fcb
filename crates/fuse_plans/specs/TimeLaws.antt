-- The law of times that are set, whatever is replied.
--     IsPresent        a time that is set is the present
--     MaySet, MaySetTimes        why times may be set
--     TimesAreSetByRight
use Rattle.std.specs.Prelude.{◌≡◌, ℕ, List, [], ◌∷◌, ◌++◌, length, Option, None, Some, IsTrue}
use Rattle.posix_acl.specs.Entries.{perms_of}
use Rattle.fs_cred.specs.Credentials.{Credential}
use Rattle.fs_cred.specs.Ownership.{counts_as_owner}
use Rattle.fs_model.specs.declared.call.Call.TheVariants.{Access, Lstat}
use Rattle.fs_model.specs.declared.event.Event.{Event}
use Rattle.fs_model.specs.declared.event.Event.TheVariants.{CallAt, Stamp}
use Rattle.fs_model.specs.declared.reply.Reply.{Reply}
use Rattle.fs_model.specs.declared.reply.Reply.TheVariants.{Shown}
use Rattle.fs_model.specs.declared.reply.Status.{Status}
use Rattle.fuse_protocol.specs.declared.reply.Time.{Time}
use Rattle.fuse_state.specs.Servers.{Server}
use Rattle.fuse_state.specs.Stamps.{stamp_of}
use Rattle.fuse_plans.specs.declared.reply.Response.{Response}
use Rattle.fuse_plans.specs.Plans.{IsRunOf, IsAsked}
use Rattle.fuse_plans.specs.Requests.{Request}
use Rattle.fuse_plans.specs.Works.{refusal_in}
use Rattle.fuse_plans.specs.Callers.{server_credential, actor_in}
use Rattle.fuse_plans.specs.Alterations.{sets_some}
use Rattle.fuse_plans.specs.Serving.{request_plan}

-- where it is set
abbrev pub IsPresent : Time → Option ℕ → Type 0
IsPresent now None = Unit {0}
IsPresent now (Some stamp) = stamp ≡ stamp_of now

-- Who asks counts as the owner that was shown; or both are set to the present, and access(2) hasn't refused who asks to write the object.
pub data MaySet (r : Request) (n : ℕ) (cred : Credential) (status : Status) (atime mtime : Option ℕ) (es : List Event) (replies : List Reply) : Type 0 where
  owns : IsTrue (counts_as_owner cred status.owner) → MaySet r n cred status atime mtime es replies
  may_write : (reply : Reply) (after : List Event) → atime ≡ Some (stamp_of r.now) → mtime ≡ Some (stamp_of r.now)
      → IsAsked (CallAt (actor_in cred n) (Access [] (perms_of 2))) reply after es replies → refusal_in reply ≡ None
      → MaySet r n cred status atime mtime es replies

-- With what was asked before, and its replies: the object was shown, and its ctime becomes the present.
pub record MaySetTimes (r : Request) (n : ℕ) (atime mtime ctime : Option ℕ) (es : List Event) (replies : List Reply) : Type 0 where
  pub cred : Credential
  pub is_who_asks : r.cred ≡ Some cred
  pub status : Status
  pub after : List Event
  pub shown : IsAsked (CallAt (actor_in server_credential n) (Lstat [])) (Shown status) after es replies
  pub may : MaySet r n cred status atime mtime es replies
  pub is_changed : IsPresent r.now ctime

-- Whatever was replied: no time of an object is set but by right, which was seen before.
abbrev pub TimesAreSetByRight : Type 0
TimesAreSetByRight =
    (r : Request) (s t : Server) (response : Response) (n : ℕ) (atime mtime ctime : Option ℕ) (reply : Reply) (before after : List Event) (replied rest : List Reply)
    → length replied ≡ length before → IsTrue (sets_some atime mtime ctime)
    → IsRunOf (request_plan r s) (before ++ Stamp n atime mtime ctime ∷ after) (replied ++ reply ∷ rest) (response, t)
    → MaySetTimes r n atime mtime ctime before replied

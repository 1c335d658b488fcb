-- Who calls, and on what.
--     server_credential        the server looks as user 0
--     actor_at        who makes a call with names of one directory, or of two
--     inside, look_inside        a call with names of one directory; what stat(2) shows of a name
--     on, look        a call on an object; what stat(2) shows of it
--     who_asks        the credential of who asks, where it is known
--     the_number        the inode of a node
use Rattle.std.specs.Prelude.{ℕ, List, [], Option, None, Some, if◌then◌else◌}
use Rattle.fs_cred.specs.declared.errno.Errno.TheVariants.{EACCES, ENOENT, ELOOP}
use Rattle.fs_cred.specs.declared.refusal.Refusal.{Refusal}
use Rattle.fs_cred.specs.Credentials.{Credential, usual_credential}
use Rattle.fs_model.specs.declared.call.Call.{Call}
use Rattle.fs_model.specs.declared.call.Call.TheVariants.{Lstat}
use Rattle.fs_model.specs.declared.event.Actor.{Actor}
use Rattle.fs_model.specs.declared.event.Event.TheVariants.{CallAt}
use Rattle.fs_model.specs.declared.reply.Reply.{Reply}
use Rattle.fs_model.specs.declared.reply.Status.{Status}
use Rattle.fuse_plans.specs.declared.request_error.RequestError.{RequestError}
use Rattle.fuse_plans.specs.declared.request_error.RequestError.TheVariants.{Refuses, Lacks}
use Rattle.fuse_plans.specs.RequestErrors.{failed, is_for}
use Rattle.fuse_plans.specs.declared.request_error.OtherErrno.TheVariants.{EOPNOTSUPP, ESTALE}
use Rattle.fuse_state.specs.Servers.{number_of_node}
use Rattle.fuse_plans.specs.Works.{Work, give, fail, kept, ◌>>=◌, ask, needed, obtain, refusal_in, replied_status}

-- ---- who calls

abbrev pub server_credential : Credential
server_credential = usual_credential 0 0 []

-- what it makes has this mask, and its first and second path start at these objects
abbrev pub actor_at : Credential → ℕ → ℕ → ℕ → Actor
actor_at cred umask start second_start = record { cred = cred; umask = umask; start = start; second_start = second_start }

-- who makes nothing, with names of one directory
abbrev pub actor_in : Credential → ℕ → Actor
actor_in cred d = actor_at cred 0 d d

-- where not all groups of who asks are known, an entry for a group may deny
abbrev pub who_asks : Option Credential → Work Credential
who_asks cred = needed (failed EACCES) cred

-- ---- names

unfoldable pub inside : Credential → ℕ → Call → Work Reply
inside cred d call = obtain (CallAt (actor_in cred d) call)

unfoldable pub look_inside : Credential → ℕ → List ℕ → Work Status
look_inside cred d name = do
  reply ← inside cred d (Lstat name)
  replied_status reply

-- ---- objects

-- The path of a call on an object is empty. Where the object is gone the node is stale; and what isn't done to a link isn't supported.
abbrev pub object_error : Refusal → RequestError
object_error r =
    if is_for ENOENT (Refuses r) then Lacks ESTALE else if is_for ELOOP (Refuses r) then Lacks EOPNOTSUPP else Refuses r

abbrev pub of_object : Reply → Option Refusal → Work Reply
of_object reply None = give reply
of_object reply (Some r) = fail (object_error r)

unfoldable pub on : Credential → ℕ → Call → Work Reply
on cred n call = do
  reply ← ask (CallAt (actor_in cred n) call)
  of_object reply (refusal_in reply)

-- No permission is asked: the kernel holds the object.
unfoldable pub look : ℕ → Work Status
look n = do
  reply ← on server_credential n (Lstat [])
  replied_status reply

-- ---- nodes

unfoldable pub the_number : ℕ → Work ℕ
the_number node = do
  n ← kept (λ s. number_of_node s node)
  needed (Lacks ESTALE) n

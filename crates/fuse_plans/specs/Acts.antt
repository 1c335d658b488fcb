-- On what a request acts: on names that it gives, and on objects.
--     Subject        the request, and what the server knew when it began
--     AskedBefore        what was asked for it so far
--     IsObject, IsToldOf        an object that it is about, and one that it was told of
--     IsGivenName, IsNewName        names that are given
--     StartsAt, path_of        where paths of a call start, and the one path of a call that has just one
--     Concerns        on what a call may be made
use Rattle.std.specs.Prelude.{◌≡◌, ℕ, List, [], Option, None, Some, is_some, ◌||◌, if◌then◌else◌}
use Rattle.std.specs.List.{Contains}
use Rattle.fs_model.specs.declared.call.Call.{Call}
use Rattle.fs_model.specs.declared.call.Call.TheVariants.{Open as OpenCall, Stat, Lstat, Access, Truncate, Chmod, Chown, GetAcl, SetAcl, Mkdir, Rmdir, Link as LinkCall, Symlink, Readlink, Unlink as UnlinkCall, Rename as RenameCall}
use Rattle.fs_model.specs.declared.event.Actor.{Actor}
use Rattle.fs_model.specs.declared.event.Event.{Event}
use Rattle.fs_model.specs.declared.reply.Reply.{Reply}
use Rattle.fs_model.specs.declared.reply.Reply.TheVariants.{Made, Opened}
use Rattle.fuse_protocol.specs.declared.operation.Extent.{Extent}
use Rattle.fuse_protocol.specs.declared.operation.Operation.{Operation}
use Rattle.fuse_protocol.specs.declared.operation.Operation.TheVariants.{Lookup, SymLink, MkNod, MkDir, Unlink, RmDir, Rename, Link, ReadDirPlus, Create}
use Rattle.fuse_state.specs.Servers.{Server, number_of_node}

-- the node that a request is asked of, what it asks, and what the server knew when it began
pub record Subject : Type 0 where
  pub node : ℕ
  pub operation : Option Operation
  pub start : Server

-- what was asked for the request so far, with its replies, the last first
abbrev pub AskedBefore : Type 0
AskedBefore = List (Event × Reply)

-- ---- objects

-- that of its node; and of LINK that of the old one
pub data IsObject (r : Subject) (n : ℕ) : Type 0 where
  of_node : number_of_node r.start r.node ≡ Some n → IsObject r n
  of_old_node : (old_node : ℕ) (name : List ℕ) → r.operation ≡ Some (Link old_node name) → number_of_node r.start old_node ≡ Some n → IsObject r n

-- the number of an object that a reply tells as opened or made
abbrev pub object_told : Reply → Option ℕ
object_told (Made n) = Some n
object_told (Opened handle n) = Some n
object_told _ = None

-- what was opened or made for the request
pub record IsToldOf (past : AskedBefore) (n : ℕ) : Type 0 where
  pub event : Event
  pub reply : Reply
  pub was_asked : Contains past (event, reply)
  pub tells : object_told reply ≡ Some n

-- ---- names

abbrev pub name_of_operation : Operation → Option (List ℕ)
name_of_operation (Lookup name) = Some name
name_of_operation (SymLink name target) = Some name
name_of_operation (MkNod name mode umask) = Some name
name_of_operation (MkDir name mode umask) = Some name
name_of_operation (Unlink name) = Some name
name_of_operation (RmDir name) = Some name
name_of_operation (Rename name new_directory new_name flags) = Some name
name_of_operation (Link old_node name) = Some name
name_of_operation (Create name flags mode umask) = Some name
name_of_operation _ = None

-- the name that is given
abbrev pub given_name : Option Operation → Option (List ℕ)
given_name None = None
given_name (Some operation) = name_of_operation operation

-- in the directory of the node
pub record IsGivenName (r : Subject) (d : ℕ) (name : List ℕ) : Type 0 where
  pub is_name : given_name r.operation ≡ Some name
  pub directory : number_of_node r.start r.node ≡ Some d

-- the new name of a rename, in the directory of its other node
pub data IsNewName (r : Subject) (d : ℕ) (name : List ℕ) : Type 0 where
  is_new : (old_name : List ℕ) (new_node flags : ℕ) → r.operation ≡ Some (Rename old_name new_node name flags)
      → number_of_node r.start new_node ≡ Some d → IsNewName r d name

-- ---- what is acted on

-- both paths of a call by an actor start at this object
pub record StartsAt (actor : Actor) (n : ℕ) : Type 0 where
  pub first : actor.start ≡ n
  pub second : actor.second_start ≡ n

-- of a link that is made, its own path; of a change of owners one only where some is given
abbrev pub path_of : Call → Option (List ℕ)
path_of (OpenCall path flags mode) = Some path
path_of (Stat path) = Some path
path_of (Lstat path) = Some path
path_of (Access path perms) = Some path
path_of (Truncate path size) = Some path
path_of (Chmod path mode) = Some path
path_of (Chown path owner group) = if is_some owner || is_some group then Some path else None
path_of (GetAcl path which) = Some path
path_of (SetAcl path which acl) = Some path
path_of (Mkdir path mode) = Some path
path_of (Rmdir path) = Some path
path_of (Symlink target path) = Some path
path_of (Readlink path) = Some path
path_of (UnlinkCall path) = Some path
path_of call = None

-- A call is on an object that the request is about, or was told of, and its path is empty; on a name that is given, in its directory; it
-- renames what has the given name to the new one; it gives the object the name that is given too; or it is on a name of a directory
-- that is listed with what stat(2) shows of each name, or on the new name.
pub data Concerns (r : Subject) (past : AskedBefore) (actor : Actor) (call : Call) : Type 0 where
  on_object : (n : ℕ) → StartsAt actor n → IsObject r n → path_of call ≡ Some [] → Concerns r past actor call
  on_told : (n : ℕ) → StartsAt actor n → IsToldOf past n → path_of call ≡ Some [] → Concerns r past actor call
  on_name : (d : ℕ) (name : List ℕ) → StartsAt actor d → IsGivenName r d name → path_of call ≡ Some name → Concerns r past actor call
  on_new_name : (d : ℕ) (name : List ℕ) → StartsAt actor d → IsNewName r d name → call ≡ Lstat name → Concerns r past actor call
  moves : (old new : List ℕ) → call ≡ RenameCall old new → IsGivenName r actor.start old → IsNewName r actor.second_start new → Concerns r past actor call
  links : (new : List ℕ) → call ≡ LinkCall [] new → IsObject r actor.start → IsGivenName r actor.second_start new → Concerns r past actor call
  lists : (d : ℕ) (name : List ℕ) (extent : Extent) → StartsAt actor d → number_of_node r.start r.node ≡ Some d
      → r.operation ≡ Some (ReadDirPlus extent) → call ≡ Lstat name → Concerns r past actor call

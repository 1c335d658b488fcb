-- Which requests change what the kernel was told of names and attributes.
--     Alteration, alterations_by        what a call may change of them
--     IsToldBy, IsToldIn, AreTold        a request says that it changes so much
--     says_change, says_change_in        a request says some change
--     changes_at_once        and either changes all of it or fails
--     alterations_in, MayBeAsked        what an event may change; what may be asked for a request
--     AsksOnly        whatever is replied, a plan asks only such events
use Rattle.std.specs.Prelude.{◌≡◌, ℕ, Bool, true, false, List, [], ◌∷◌, ◌++◌, Option, None, Some, is_some, ◌||◌, IsTrue}
use Rattle.fs_model.specs.declared.call.AclType.{AclType}
use Rattle.fs_model.specs.declared.call.Call.{Call}
use Rattle.fs_model.specs.declared.call.Call.TheVariants.{Open as OpenCall, Write as WriteCall, Truncate, Ftruncate, Chmod, Chown, SetAcl, Mkdir, Rmdir, Link as LinkCall, Symlink, Unlink as UnlinkCall, Rename as RenameCall}
use Rattle.fs_model.specs.declared.event.Event.{Event}
use Rattle.fs_model.specs.declared.event.Event.TheVariants.{Call as Calls, CallAt, CallBy, Stamp, Arm, Restart}
use Rattle.fs_model.specs.declared.event.HandleCall.{HandleCall}
use Rattle.fs_model.specs.declared.event.HandleCall.TheVariants as by_handle
use Rattle.fs_model.specs.declared.reply.Reply.{Reply}
use Rattle.fuse_protocol.specs.declared.operation.Operation.{Operation}
use Rattle.fuse_protocol.specs.declared.operation.Operation.TheVariants.{SetAttr, SymLink, MkNod, MkDir, Unlink, RmDir, Rename, Link, Open, Write, SetXAttr, RemoveXAttr, Create}
use Rattle.fuse_plans.specs.Plans.{Plan, Finish, Ask}
use Rattle.fuse_plans.specs.AclPlans.{acl_named}
use Rattle.fuse_plans.specs.Flags.{is_trunc}
use Rattle.fuse_plans.specs.Nobody.{changes_by_caller}

-- ---- what a call may change

-- A change of what the kernel may have been told: of the attributes and lists of an object, or of the names in a directory. Where
-- names change, so do the attributes of the directory, and how many names the object has.
pub data Alteration : Type 0 where
  -- what is found under a path has so many bytes from now on
  resizes : ℕ → Alteration
  -- what is open by a handle has
  resizes_open : (handle size : ℕ) → Alteration
  -- what is open by it has other bytes, and may have more
  writes_open : ℕ → Alteration
  -- what a process has open has
  writes_some : Alteration
  sets_mode : Alteration
  sets_owner : Alteration
  sets_group : Alteration
  sets_times : Alteration
  -- the list that decides on access says the mode too
  sets_list : AclType → Alteration
  -- of a new object
  adds_name : List ℕ → Alteration
  -- one more of an object that has one
  links_name : List ℕ → Alteration
  takes_name : List ℕ → Alteration
  -- the second may have led to another object
  moves_name : List ℕ → List ℕ → Alteration

abbrev pub where_so : Bool → Alteration → List Alteration
where_so true a = a ∷ []
where_so false a = []

-- some of the times
abbrev pub sets_some : Option ℕ → Option ℕ → Option ℕ → Bool
sets_some atime mtime ctime = is_some atime || (is_some mtime || is_some ctime)

-- What a call may change. All others only show what is there, or change what is the caller's own.
abbrev pub alterations_by : Call → List Alteration
alterations_by (OpenCall path flags mode) = where_so flags.create (adds_name path) ++ where_so flags.trunc (resizes 0)
alterations_by (WriteCall fd bytes) = writes_some ∷ []
alterations_by (Truncate path size) = resizes size ∷ []
alterations_by (Ftruncate fd size) = writes_some ∷ []
alterations_by (Chmod path mode) = sets_mode ∷ []
alterations_by (Chown path owner group) = where_so (is_some owner) sets_owner ++ where_so (is_some group) sets_group
alterations_by (SetAcl path which acl) = sets_list which ∷ []
alterations_by (Mkdir path mode) = adds_name path ∷ []
alterations_by (Rmdir path) = takes_name path ∷ []
alterations_by (LinkCall old new) = links_name new ∷ []
alterations_by (Symlink target path) = adds_name path ∷ []
alterations_by (UnlinkCall path) = takes_name path ∷ []
alterations_by (RenameCall old new) = moves_name old new ∷ []
alterations_by call = []

-- and a call by a handle
abbrev pub alterations_by_handle : ℕ → HandleCall → List Alteration
alterations_by_handle handle (by_handle.Write offset bytes) = writes_open handle ∷ []
alterations_by_handle handle (by_handle.Resize size) = resizes_open handle size ∷ []
alterations_by_handle handle call = []

-- ---- what a request says

-- By such a request the kernel knows of the change. All others change nothing that it was told.
abbrev pub IsToldBy : Operation → Alteration → Type 0
IsToldBy (SetAttr changes) (resizes size) = changes.size ≡ Some size
IsToldBy (SetAttr changes) (resizes_open handle size) = (changes.size ≡ Some size) × (changes.handle ≡ Some handle)
IsToldBy (SetAttr changes) sets_mode = IsTrue (is_some changes.mode)
IsToldBy (SetAttr changes) sets_owner = IsTrue (is_some changes.uid)
IsToldBy (SetAttr changes) sets_group = IsTrue (is_some changes.gid)
IsToldBy (SetAttr changes) sets_times = IsTrue (is_some changes.atime || is_some changes.mtime)
IsToldBy (SetXAttr name value) (sets_list which) = acl_named name ≡ Some which
IsToldBy (RemoveXAttr name) (sets_list which) = acl_named name ≡ Some which
IsToldBy (Open flags) (resizes size) = IsTrue (is_trunc flags.0) × (size ≡ 0)
IsToldBy (Write handle offset bytes) (writes_open open_handle) = open_handle ≡ handle
IsToldBy (Create name flags mode umask) (adds_name path) = path ≡ name
IsToldBy (Create name flags mode umask) (resizes size) = IsTrue (is_trunc flags.0) × (size ≡ 0)
IsToldBy (MkNod name mode umask) (adds_name path) = path ≡ name
IsToldBy (MkDir name mode umask) (adds_name path) = path ≡ name
IsToldBy (SymLink name target) (adds_name path) = path ≡ name
IsToldBy (Link node name) (links_name path) = path ≡ name
IsToldBy (Unlink name) (takes_name path) = path ≡ name
IsToldBy (RmDir name) (takes_name path) = path ≡ name
IsToldBy (Rename name new_directory new_name flags) (moves_name old new) = (old ≡ name) × (new ≡ new_name)
IsToldBy operation alteration = ⊥

-- a request whose body isn't of its form says nothing
abbrev pub IsToldIn : Option Operation → Alteration → Type 0
IsToldIn None alteration = ⊥
IsToldIn (Some operation) alteration = IsToldBy operation alteration

-- all of them
abbrev pub AreTold : Option Operation → List Alteration → Type 0
AreTold operation [] = Unit {0}
AreTold operation (alteration ∷ others) = IsToldIn operation alteration × AreTold operation others

-- requests that say a change, as who asks or by what is open
abbrev pub says_change : Operation → Bool
says_change (Open flags) = is_trunc flags.0
says_change (Write handle offset bytes) = true
says_change operation = changes_by_caller operation

abbrev pub says_change_in : Option Operation → Bool
says_change_in None = false
says_change_in (Some operation) = says_change operation

-- what changes is one call, after which nothing can fail
abbrev pub changes_at_once : Operation → Bool
changes_at_once (Unlink name) = true
changes_at_once (RmDir name) = true
changes_at_once (Rename name new_directory new_name flags) = true
changes_at_once (Open flags) = true
changes_at_once (SetXAttr name value) = true
changes_at_once (RemoveXAttr name) = true
changes_at_once operation = false

-- ---- what is asked

-- all that an event may change
abbrev pub alterations_in : Event → List Alteration
alterations_in (Calls pid call) = alterations_by call
alterations_in (CallAt actor call) = alterations_by call
alterations_in (CallBy handle call) = alterations_by_handle handle call
alterations_in (Stamp n atime mtime ctime) = where_so (sets_some atime mtime ctime) sets_times
alterations_in event = []

-- No event changes more than the request says. No process calls, and no disk stops, which may change what the kernel was told.
abbrev pub MayBeAsked : Option Operation → Event → Type 0
MayBeAsked operation (Calls pid call) = ⊥
MayBeAsked operation (Arm after) = ⊥
MayBeAsked operation (Restart choice arm) = ⊥
MayBeAsked operation event = AreTold operation (alterations_in event)

-- Whatever is replied, the plan asks only such events.
abbrev pub AsksOnly : {X : Type 0} → (Event → Type 0) → Plan X → Type 0
AsksOnly May (Finish x) = Unit {0}
AsksOnly May (Ask e next) = May e × ((reply : Reply) → AsksOnly May (next reply))

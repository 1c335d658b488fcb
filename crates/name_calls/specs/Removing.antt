-- What removing a name asks.
--     FindsName        what a process has found, for a call on a name
--     IsNamedThere, removal_asked        what was found and its directory are there, and what is asked of both
--     last_asked, directory_asked, kind_asked, target_asked        asked of the last component, of a directory, of what goes
--     removal_demands, removal_call        the demands of a call that removes a name, and that call
--     MayGo, MayGoAt        a name that may go; that which was found
use Rattle.std.specs.Prelude.{false}
use Rattle.call_parts.specs.Callers.{Who}
use Rattle.std.specs.Prelude.{◌≡◌, ℕ, ◌-◌, Bool, not, ◌&&◌, List, [], ◌∷◌, ◌++◌, Some, IsTrue, IsFalse}
use Rattle.fs_cred.specs.declared.errno.Errno.TheVariants.{EBUSY, EINVAL, EISDIR, ENOTDIR, ENOTEMPTY}
use Rattle.fs_cred.specs.declared.refusal.Need.TheVariants.{Remove}
use Rattle.fs_cred.specs.Credentials.{Credential}
use Rattle.fs_cred.specs.Ownership.{sticky_allows}
use Rattle.fs_layout.specs.declared.geometry.Geometry.{Geometry}
use Rattle.fs_layout.specs.Bytes.{SectorMap, IsBytes}
use Rattle.fs_layout.specs.Maps.{name_cmp, get}
use Rattle.fs_model.specs.declared.call.Call.{Call}
use Rattle.fs_model.specs.declared.call.Call.TheVariants.{Unlink, Rmdir}
use Rattle.fs_model.specs.declared.walk.Form.TheVariants.{Parent}
use Rattle.fs_model.specs.declared.walk.Found.{Found}
use Rattle.fs_model.specs.Births.{the_node, the_directory}
use Rattle.fs_model.specs.Demands.{Demand, refuse, permission_on, allowed_by, write_and_search}
use Rattle.fs_model.specs.Nodes.{Node, Body, is_directory, names_of_body}
use Rattle.fs_model.specs.Parts.{is_empty}
use Rattle.fs_model.specs.Processes.{Process, users, is_in_use}
use Rattle.fs_model.specs.Scenes.{Scene, is_found, is_special, is_directory_found, is_nondirectory_found, has_names, found_ino, ends_top, ends_dot, ends_dot_dot, must_be_there}
use Rattle.fs_model.specs.States.{State}
use Rattle.fs_model.specs.Trees.{Tree, node_at, IsDirectoryAt}
use Rattle.call_parts.specs.BothTables.{Tables}
use Rattle.call_parts.specs.Paths.{HasFound}
use Rattle.call_parts.specs.Performing.{IsStateOf}
use Rattle.call_parts.specs.Telling.{FoundThere}
use Rattle.name_calls.specs.declared.removal.Target.{Target}
use Rattle.name_calls.specs.declared.removal.Target.TheVariants.{NoDirectory, Directory}

-- in a state of this map and these tables the process has found this, by a path that ends in a name
pub record FindsName (p : Geometry) (map : SectorMap) (tables : Tables) (q : Process) (f : Found) (s : State) : Type 0 where
  pub who : Who
  pub path : List ℕ
  pub bytes : IsBytes path
  pub is_state : IsStateOf p map tables s
  pub found : HasFound s who q false Parent path f

-- the directory that names what was found is there, and so is what was found
pub record IsNamedThere (t : Tree) (f : Found) : Type 0 where
  pub directory : IsDirectoryAt t f.dir_ino
  pub found : FoundThere f t

-- asked of what was found and of its directory, whatever it is
abbrev pub removal_asked : Credential → Tree → Found → List Demand
removal_asked cred t f =
    must_be_there f
    ∷ refuse ENOTDIR (f.slash && (is_found f && not (is_directory (the_node t (found_ino f)).body)))
    ∷ permission_on cred t f.dir_ino write_and_search 1 (f.step - 1)
    ∷ allowed_by 1 (f.step - 1) Remove
    (sticky_allows cred (the_directory (the_node t f.dir_ino)).sticky (the_node t f.dir_ino).owner (the_node t (found_ino f)).owner)
    ∷ []

-- asked of the last component
abbrev pub last_asked : Target → Found → List Demand
last_asked NoDirectory f = refuse EISDIR (is_special f) ∷ []
last_asked Directory f = refuse EBUSY (ends_top f) ∷ refuse EINVAL (ends_dot f) ∷ refuse ENOTEMPTY (ends_dot_dot f) ∷ []

-- asked of the body of what is to go as a directory
abbrev pub directory_asked : Body → Bool → List Demand
directory_asked b used = refuse ENOTDIR (not (is_directory b)) ∷ refuse EBUSY used ∷ refuse ENOTEMPTY (not (is_empty (names_of_body b))) ∷ []

-- asked of the body of what is to go
abbrev pub kind_asked : Target → Body → Bool → List Demand
kind_asked NoDirectory b used = refuse EISDIR (is_directory b) ∷ []
kind_asked Directory b used = directory_asked b used

-- asked of what was found, if something was
abbrev pub target_asked : Target → Scene → List Demand
target_asked NoDirectory s = refuse EISDIR (is_directory_found s s.first) ∷ []
target_asked Directory s =
    refuse ENOTDIR (is_nondirectory_found s s.first)
    ∷ refuse EBUSY (is_in_use (users s.state.processes s.state.openings) (found_ino s.first))
    ∷ refuse ENOTEMPTY (has_names s s.first)
    ∷ []

abbrev pub removal_demands : Target → Scene → List Demand
removal_demands what s = last_asked what s.first ++ (removal_asked s.process.cred s.state.tree s.first ++ target_asked what s)

abbrev pub removal_call : Target → List ℕ → Call
removal_call NoDirectory path = Unlink path
removal_call Directory path = Rmdir path

-- the name leads from directory dir to n, which is no directory, or an empty one that isn't in use
pub record MayGo (s : State) (dir_ino : ℕ) (name : List ℕ) (n : ℕ) : Type 0 where
  pub directory : IsDirectoryAt s.tree dir_ino
  pub leads : get name_cmp (names_of_body directory.node.body) name ≡ Some n
  pub target : Node
  pub there : node_at s.tree n ≡ Some target
  pub empty : IsTrue (is_directory target.body) → names_of_body target.body ≡ []
  pub unused : IsTrue (is_directory target.body) → IsFalse (is_in_use (users s.processes s.openings) n)

-- the name that was found may go
abbrev pub MayGoAt : Found → ℕ → State → Type 0
MayGoAt f n s = MayGo s f.dir_ino f.name n

-- What rename asks of directories, and of what it replaces.
--     IsToRename, Renames        both names, with what they lead to, as a caller's walks have found them
--     AreRenamed        whatever they lead to
--     same_number        the new name leads to what is renamed
--     sticky_there        what S_ISVTX asks, where something is replaced
--     below_asked, replaced_asked        asked of a directory that goes to another, and of what is replaced
--     move_asked        all that is asked where the names aren't of one object
use Rattle.std.specs.Prelude.{◌≡◌, ℕ, ◌==◌, Bool, false, not, ◌&&◌, List, [], ◌∷◌, ◌++◌, length, Option, None, Some}
use Rattle.fs_cred.specs.declared.errno.Errno.TheVariants.{EBUSY, EINVAL, ENOTEMPTY}
use Rattle.fs_cred.specs.Credentials.{Credential}
use Rattle.fs_layout.specs.declared.inode.Inode.{Inode}
use Rattle.fs_layout.specs.declared.inode.Kind.{Kind}
use Rattle.fs_layout.specs.declared.geometry.Geometry.{Geometry}
use Rattle.fs_layout.specs.Bytes.{SectorMap}
use Rattle.fs_layout.specs.Images.{inode_at}
use Rattle.fs_model.specs.declared.walk.Found.{Found}
use Rattle.fs_model.specs.Births.{the_node}
use Rattle.fs_model.specs.Demands.{Demand, refuse}
use Rattle.fs_model.specs.Nodes.{is_directory, names_of_body}
use Rattle.fs_model.specs.Parts.{is_empty}
use Rattle.fs_model.specs.Processes.{ProcessTable, is_in_use}
use Rattle.fs_model.specs.RenameCall.{rename_permissions, rename_kinds, rename_directories, rename_moved, rename_space}
use Rattle.fs_model.specs.Rules.{is_directory_kind}
use Rattle.fs_model.specs.Scenes.{Scene, is_found, found_ino}
use Rattle.fs_model.specs.States.{State}
use Rattle.fs_model.specs.Trees.{Tree, is_within}
use Rattle.call_parts.specs.BothTables.{Tables, tables_of}
use Rattle.call_parts.specs.declared.reaching.Caller.{Caller}
use Rattle.call_parts.specs.declared.reaching.WalkedBoth.{WalkedBoth}
use Rattle.call_parts.specs.Performing.{IsStateOf}
use Rattle.name_calls.specs.Removing.{IsNamedThere}
use Rattle.call_parts.specs.Asked.{sticky_asked}
use Rattle.name_calls.specs.Renaming.{inode_there}

-- in a state of this map and these tables both names are in directories: the old one leads to n, with inode v, the new one to what is replaced
pub record IsToRename (p : Geometry) (map : SectorMap) (tables : Tables) (f g : Found) (n : ℕ) (v : Inode) (replaced : Option (ℕ × Inode)) (s : State) : Type 0 where
  pub is_state : IsStateOf p map tables s
  pub first : IsNamedThere s.tree f
  pub second : IsNamedThere s.tree g
  pub leads : f.ino ≡ Some n
  pub inode : v ≡ inode_at p map n
  pub replaced_is : replaced ≡ inode_there p map g.ino

abbrev pub Renames : Caller → SectorMap → WalkedBoth → ℕ → Inode → Option (ℕ × Inode) → State → Type 0
Renames c map w n v replaced s = IsToRename c.geometry map (tables_of c) w.first w.second n v replaced s

abbrev pub AreRenamed : Caller → SectorMap → WalkedBoth → State → Type 0
AreRenamed c map w s = (n : ℕ) × (v : Inode) × (there : Option (ℕ × Inode)) × Renames c map w n v there s

-- what is replaced is n itself
abbrev pub same_number : ℕ → Option (ℕ × Inode) → Bool
same_number n None = false
same_number n (Some x) = n == x.0

-- asked of the second directory's inode d, and of what is replaced
abbrev pub sticky_there : Credential → Inode → Option (ℕ × Inode) → ℕ → List Demand
sticky_there cred d None step = []
sticky_there cred d (Some x) step = sticky_asked cred d x.1 2 step ∷ []

-- a directory doesn't go below itself
abbrev pub below_asked : Tree → Kind → ℕ → ℕ → Demand
below_asked t kind n dir_ino = refuse EINVAL (is_directory_kind kind && is_within (length t) t n dir_ino)

-- a directory that is replaced is empty and not in use
abbrev pub replaced_asked : Tree → ProcessTable → Found → List Demand
replaced_asked t processes g =
    refuse EBUSY ((is_found g && is_directory (the_node t (found_ino g)).body) && is_in_use processes (found_ino g))
    ∷ refuse ENOTEMPTY (is_found g && not (is_empty (names_of_body (the_node t (found_ino g)).body)))
    ∷ []

abbrev pub move_asked : Scene → List Demand
move_asked s = rename_permissions s ++ rename_kinds s ++ rename_directories s ++ rename_moved s ++ rename_space s

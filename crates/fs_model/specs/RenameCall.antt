-- rename: POSIX.1-2017, rename(). Where a call could be refused for several reasons the order is our own.
--     is_same        both paths name one node: then nothing is asked of it, and nothing is changed
--     rename_demands, rename_effect, rename_row        what it asks and does; before that the checks of both paths are asked, and
--             then both walks, as of each call by paths (Steps.antt)
use Rattle.std.specs.Prelude.{ℕ, ◌==◌, Bool, true, false, not, ◌&&◌, ◌||◌, List, [], ◌∷◌, ◌++◌, length, if◌then◌else◌}
use Rattle.fs_cred.specs.declared.errno.Errno.TheVariants.{EBUSY, ENOTDIR, EISDIR, EINVAL, ENOTEMPTY}
use Rattle.fs_model.specs.Trees.{is_within}
use Rattle.fs_model.specs.Processes.{users, is_in_use}
use Rattle.fs_model.specs.TreeChanges.{Same, MoveName}
use Rattle.fs_model.specs.Demands.{Demand, refuse, only_if, perms}
use Rattle.fs_model.specs.Scenes.{Scene, Effect, Row, is_found, found_ino, is_directory_found, is_nondirectory_found, has_names, ends_top, ends_dot, ends_dot_dot, permission_at_end, permission_at_dir, sticky_at_dir, no_blocks, no_names, must_be_there, changes, by_two_paths}

abbrev pub is_same : Scene → Bool
is_same s = is_found s.first && is_found s.second && found_ino s.first == found_ino s.second

-- the name goes to another directory
abbrev pub moves : Scene → Bool
moves s = not (s.first.dir_ino == s.second.dir_ino)

-- the names: `.`, `..` and the root can't be renamed, and a slash at the end asks for a directory
abbrev pub rename_name_demands : Scene → List Demand
rename_name_demands s =
    refuse EINVAL (ends_dot s.first || ends_dot_dot s.first || ends_dot s.second || ends_dot_dot s.second)
    ∷ refuse EBUSY (ends_top s.first || ends_top s.second)
    ∷ must_be_there s.first
    ∷ refuse ENOTDIR ((is_nondirectory_found s s.first && (s.first.slash || s.second.slash)) || (is_nondirectory_found s s.second && s.second.slash))
    ∷ []

-- both directories, and S_ISVTX on either
abbrev pub rename_permissions : Scene → List Demand
rename_permissions s =
    permission_at_dir s s.first 1
    ∷ permission_at_dir s s.second 2
    ∷ sticky_at_dir s s.first 1
    ∷ only_if (is_found s.second) (sticky_at_dir s s.second 2 ∷ [])

-- a directory replaces a directory, and nothing else does
abbrev pub rename_kinds : Scene → List Demand
rename_kinds s =
    refuse EISDIR (is_nondirectory_found s s.first && is_directory_found s s.second)
    ∷ refuse ENOTDIR (is_directory_found s s.first && is_nondirectory_found s s.second)
    ∷ []

-- a directory doesn't go below itself, and one that is replaced is empty and not in use
abbrev pub rename_directories : Scene → List Demand
rename_directories s =
    refuse EINVAL (is_directory_found s s.first && is_within (length s.state.tree) s.state.tree (found_ino s.first) s.second.dir_ino)
    ∷ refuse EBUSY (is_directory_found s s.second && is_in_use (users s.state.processes s.state.openings) (found_ino s.second))
    ∷ refuse ENOTEMPTY (is_found s.second && has_names s s.second)
    ∷ []

-- a directory whose `..` changes is written
abbrev pub rename_moved : Scene → List Demand
rename_moved s = only_if (is_directory_found s s.first && moves s) (permission_at_end s s.first 1 (perms false true false) ∷ [])

-- a name that is new in another directory takes space
abbrev pub rename_space : Scene → List Demand
rename_space s = only_if (not (is_found s.second) && moves s) (no_blocks s ∷ no_names s s.second ∷ [])

abbrev pub rename_demands : Scene → List Demand
rename_demands s =
    rename_name_demands s
    ++ only_if (not (is_same s)) (rename_permissions s ++ rename_kinds s ++ rename_directories s ++ rename_moved s ++ rename_space s)

-- what the new name led to loses it
abbrev pub rename_effect : Scene → Effect
rename_effect s =
    changes s (if is_same s then Same else MoveName s.first.dir_ino s.first.name s.second.dir_ino s.second.name)

abbrev pub rename_row : List ℕ → List ℕ → Row
rename_row old new = by_two_paths old new rename_demands rename_effect

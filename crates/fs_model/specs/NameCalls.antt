-- Calls that make, add and remove names: POSIX.1-2017, mkdir(), rmdir(), link(), symlink(), readlink() and unlink().
-- Where a call could be refused for several reasons the order is our own.
--     mkdir_row, rmdir_row, link_row, symlink_row, readlink_row, unlink_row        each call
--     link_count_demand        asked of what has so many names, and is to get one more
use Rattle.std.specs.Prelude.{ℕ, ◌==◌, nat_lt, nat_le, not, ◌&&◌, List, [], ◌∷◌, length}
use Rattle.std.specs.List.{list_any}
use Rattle.fs_cred.specs.declared.errno.Errno.TheVariants.{EPERM, ENOENT, EBUSY, ENOTDIR, EISDIR, EINVAL, EMLINK, ENAMETOOLONG, ENOTEMPTY}
use Rattle.fs_model.specs.declared.reply.Reply.TheVariants.{Target}
use Rattle.fs_model.specs.Limits.{target_limit}
use Rattle.fs_model.specs.Nodes.{is_link, target_in}
use Rattle.fs_model.specs.Trees.{names_of}
use Rattle.fs_model.specs.Processes.{users, is_in_use}
use Rattle.fs_model.specs.Births.{born_directory, born_link}
use Rattle.fs_model.specs.TreeChanges.{Make, AddName, TakeName}
use Rattle.fs_model.specs.Demands.{Demand, refuse, or_else}
use Rattle.fs_model.specs.Parts.{is_empty}
use Rattle.fs_model.specs.declared.walk.Form.TheVariants.{NoFollow, Parent}
use Rattle.fs_model.specs.Scenes.{Scene, Effect, Row, found_ino, body_found, dir_node, is_directory_found, is_nondirectory_found, has_names, is_special, ends_top, ends_dot, ends_dot_dot, permission_at_dir, sticky_at_dir, no_blocks, no_names, space_to_make, must_be_there, must_be_new, check_of_mode, answers, changes, by_path, by_two_paths}

-- ---- mkdir

abbrev pub mkdir_demands : Scene → List Demand
mkdir_demands s = must_be_new s.first ∷ permission_at_dir s s.first 1 ∷ space_to_make s

abbrev pub mkdir_effect : ℕ → Scene → ℕ → Effect
mkdir_effect mode s new =
    changes s (Make s.first.dir_ino s.first.name new (born_directory s.process.cred s.process.umask mode (dir_node s s.first)))

abbrev pub mkdir_row : List ℕ → ℕ → Row
mkdir_row path mode = by_path (check_of_mode mode ∷ []) Parent path mkdir_demands (mkdir_effect mode)

-- ---- rmdir

abbrev pub rmdir_demands : Scene → List Demand
rmdir_demands s =
    refuse EBUSY (ends_top s.first)
    ∷ refuse EINVAL (ends_dot s.first)
    ∷ refuse ENOTEMPTY (ends_dot_dot s.first)
    ∷ must_be_there s.first
    ∷ refuse ENOTDIR (s.first.slash && is_nondirectory_found s s.first)
    ∷ permission_at_dir s s.first 1
    ∷ sticky_at_dir s s.first 1
    ∷ refuse ENOTDIR (is_nondirectory_found s s.first)
    ∷ refuse EBUSY (is_in_use (users s.state.processes s.state.openings) (found_ino s.first))
    ∷ refuse ENOTEMPTY (has_names s s.first)
    ∷ []

-- the name goes
abbrev pub takes_name : Scene → ℕ → Effect
takes_name s new = changes s (TakeName s.first.dir_ino s.first.name)

abbrev pub rmdir_row : List ℕ → Row
rmdir_row path = by_path [] Parent path rmdir_demands takes_name

-- ---- unlink

abbrev pub unlink_demands : Scene → List Demand
unlink_demands s =
    refuse EISDIR (is_special s.first)
    ∷ must_be_there s.first
    ∷ refuse ENOTDIR (s.first.slash && is_nondirectory_found s s.first)
    ∷ permission_at_dir s s.first 1
    ∷ sticky_at_dir s s.first 1
    ∷ refuse EISDIR (is_directory_found s s.first)
    ∷ []

abbrev pub unlink_row : List ℕ → Row
unlink_row path = by_path [] Parent path unlink_demands takes_name

-- ---- link: a link itself gets the name, not what it leads to

-- A file without names gets none any more, as linkat(2) has it: one is reached from an object alone. Others get no more than the most.
abbrev pub link_count_demand : ℕ → ℕ → Demand
link_count_demand most names = or_else (refuse ENOENT (names == 0)) (refuse EMLINK (nat_le most names))

abbrev pub link_demands : Scene → List Demand
link_demands s =
    must_be_there s.first
    ∷ refuse ENOTDIR (s.first.slash && is_nondirectory_found s s.first)
    ∷ refuse EPERM (is_directory_found s s.first)
    ∷ must_be_new s.second
    ∷ refuse ENOENT s.second.slash
    ∷ permission_at_dir s s.second 2
    ∷ link_count_demand s.state.room.names_limit (names_of s.state.tree (found_ino s.first))
    ∷ no_blocks s
    ∷ no_names s s.second
    ∷ []

abbrev pub link_effect : Scene → Effect
link_effect s = changes s (AddName s.second.dir_ino s.second.name (found_ino s.first))

abbrev pub link_row : List ℕ → List ℕ → Row
link_row old new = by_two_paths old new link_demands link_effect

-- ---- symlink: the target has at least one byte, none of them zero

abbrev pub symlink_arguments : List ℕ → List Demand
symlink_arguments target =
    refuse ENOENT (is_empty target)
    ∷ refuse EINVAL (list_any (λ b. b == 0) target)
    ∷ refuse ENAMETOOLONG (nat_lt target_limit (length target))
    ∷ []

abbrev pub symlink_demands : Scene → List Demand
symlink_demands s =
    must_be_new s.first
    ∷ refuse ENOENT s.first.slash
    ∷ permission_at_dir s s.first 1
    ∷ space_to_make s

abbrev pub symlink_effect : List ℕ → Scene → ℕ → Effect
symlink_effect target s new =
    changes s (Make s.first.dir_ino s.first.name new (born_link s.process.cred target (dir_node s s.first)))

abbrev pub symlink_row : List ℕ → List ℕ → Row
symlink_row target path = by_path (symlink_arguments target) Parent path symlink_demands (symlink_effect target)

-- ---- readlink

abbrev pub readlink_demands : Scene → List Demand
readlink_demands s = must_be_there s.first ∷ refuse EINVAL (not (is_link (body_found s s.first))) ∷ []

abbrev pub readlink_effect : Scene → ℕ → Effect
readlink_effect s new = answers s (Target (target_in (body_found s s.first)))

abbrev pub readlink_row : List ℕ → Row
readlink_row path = by_path [] NoFollow path readlink_demands readlink_effect

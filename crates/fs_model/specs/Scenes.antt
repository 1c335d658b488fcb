-- What a call finds, asks and leaves: the words in which calls are written.
--     Scene, Effect, Row        what a call finds; what it leaves; a call's demands and effect
--     is_found, number, node_found, ..        what a walk has found
--     permission_at_end, permission_at_dir, sticky_at_dir, own_at_end        denials
--     no_blocks, no_inodes, no_names        no space
--     answers, changes, with_process        effects
--     by_descriptor, by_path, by_two_paths        rows
use Rattle.std.specs.Prelude.{ℕ, ◌-◌, ◌==◌, nat_lt, nat_le, Bool, true, false, not, ◌&&◌, ◌||◌, List, [], ◌∷◌, length, is_some, unwrap_or}
use Rattle.posix_acl.specs.declared.entry.Perms.{Perms}
use Rattle.fs_cred.specs.declared.errno.Errno.TheVariants.{ENOENT, EBADF, EEXIST, EINVAL, ENOSPC}
use Rattle.fs_cred.specs.declared.refusal.Need.TheVariants.{Own, Remove}
use Rattle.fs_cred.specs.Ownership.{may_own, sticky_allows}
use Rattle.fs_model.specs.declared.reply.Reply.{Reply}
use Rattle.fs_model.specs.declared.reply.Reply.TheVariants.{Done}
use Rattle.fs_model.specs.Limits.{least_free}
use Rattle.fs_model.specs.Nodes.{Node, Body, is_directory, names_of_body}
use Rattle.fs_model.specs.Trees.{free_inodes}
use Rattle.fs_model.specs.Processes.{Process, descriptor, the_descriptor}
use Rattle.fs_model.specs.Births.{the_node, the_directory}
use Rattle.fs_model.specs.declared.touch.Touch.{Touch}
use Rattle.fs_model.specs.TreeChanges.{Change, Same, Rewrite}
use Rattle.fs_model.specs.States.{State}
use Rattle.fs_model.specs.Demands.{Demand, refuse, permission_on, allowed_by, write_and_search}
use Rattle.fs_model.specs.Parts.{is_empty}
use Rattle.fs_model.specs.declared.walk.Form.{Form}
use Rattle.fs_model.specs.declared.walk.Form.TheVariants.{Parent}
use Rattle.fs_model.specs.declared.walk.Found.{Found}
use Rattle.fs_model.specs.declared.walk.Last.{Last}
use Rattle.fs_model.specs.declared.walk.Last.TheVariants.{Top, Dot, DotDot}

-- The state, the caller, and where the call's paths lead. Where a call has no path its find isn't read.
pub record Scene : Type 0 where
  pub state : State
  pub process : Process
  pub first : Found
  pub second : Found

-- a change of the tree, the caller as it is now, and the answer
pub record Effect : Type 0 where
  pub change : Change
  pub process : Process
  pub reply : Reply

-- A call's demands stand in order; the first that fails refuses.
pub record Row : Type 0 where
  -- asked of the call alone
  pub arguments : List Demand
  -- the call's paths, and how each is followed
  pub walks : List (Form × List ℕ)
  -- asked of the process, after the path checks and before the walks
  pub early : Process → List Demand
  -- asked of what the walks have found
  pub demands : Scene → List Demand
  -- where nothing refuses, with the number that a new node gets
  pub effect : Scene → ℕ → Effect

-- ---- what a walk has found

abbrev pub is_found : Found → Bool
is_found f = is_some f.ino

abbrev pub found_ino : Found → ℕ
found_ino f = unwrap_or f.ino 0

abbrev pub is_top : Last → Bool
is_top Top = true
is_top _ = false

abbrev pub is_last_dot : Last → Bool
is_last_dot Dot = true
is_last_dot _ = false

abbrev pub is_last_dot_dot : Last → Bool
is_last_dot_dot DotDot = true
is_last_dot_dot _ = false

abbrev pub ends_top : Found → Bool
ends_top f = is_top f.last

abbrev pub ends_dot : Found → Bool
ends_dot f = is_last_dot f.last

abbrev pub ends_dot_dot : Found → Bool
ends_dot_dot f = is_last_dot_dot f.last

-- the last component is none at all, `.` or `..`
abbrev pub is_special : Found → Bool
is_special f = ends_top f || ends_dot f || ends_dot_dot f

abbrev pub node_found : Scene → Found → Node
node_found s f = the_node s.state.tree (found_ino f)

abbrev pub body_found : Scene → Found → Body
body_found s f = (node_found s f).body

-- the directory in which the last name was looked up
abbrev pub dir_node : Scene → Found → Node
dir_node s f = the_node s.state.tree f.dir_ino

abbrev pub is_directory_found : Scene → Found → Bool
is_directory_found s f = is_found f && is_directory (body_found s f)

abbrev pub is_nondirectory_found : Scene → Found → Bool
is_nondirectory_found s f = is_found f && not (is_directory (body_found s f))

abbrev pub has_names : Scene → Found → Bool
has_names s f = not (is_empty (names_of_body (body_found s f)))

-- what a descriptor is for
abbrev pub node_open : Scene → ℕ → Node
node_open s fd = the_node s.state.tree (the_descriptor s.process fd).ino

-- ---- demands

-- on what was found: as many lookups were done as the trail has
abbrev pub permission_at_end : Scene → Found → ℕ → Perms → Demand
permission_at_end s f walk want = permission_on s.process.cred s.state.tree (found_ino f) want walk f.step

-- to add, remove or rename a name in the directory of the last lookup: one lookup less was done
abbrev pub permission_at_dir : Scene → Found → ℕ → Demand
permission_at_dir s f walk = permission_on s.process.cred s.state.tree f.dir_ino write_and_search walk (f.step - 1)

-- in a directory with S_ISVTX the caller owns the directory or the object: unlink(), rmdir(), rename()
abbrev pub sticky_at_dir : Scene → Found → ℕ → Demand
sticky_at_dir s f walk =
    let directory = dir_node s f in
    allowed_by walk (f.step - 1) Remove
    (sticky_allows s.process.cred (the_directory directory).sticky directory.owner (node_found s f).owner)

-- the caller owns what the first path leads to: chmod(), acl_set_file(3)
abbrev pub own_at_end : Scene → Demand
own_at_end s = allowed_by 1 s.first.step Own (may_own s.process.cred (node_found s s.first).owner)

-- ENOSPC: few data sectors are free; no inode is; a directory is full
abbrev pub no_blocks : Scene → Demand
no_blocks s = refuse ENOSPC (nat_lt s.state.free least_free)

abbrev pub no_inodes : Scene → Demand
no_inodes s = refuse ENOSPC (free_inodes s.state.room s.state.tree == 0)

abbrev pub no_names : Scene → Found → Demand
no_names s f = refuse ENOSPC (nat_le s.state.room.entries_limit (length (names_of_body (dir_node s f).body)))

-- space for a new node under the first path
abbrev pub space_to_make : Scene → List Demand
space_to_make s = no_blocks s ∷ no_inodes s ∷ no_names s s.first ∷ []

abbrev pub must_be_there : Found → Demand
must_be_there f = refuse ENOENT (not (is_found f))

abbrev pub must_be_new : Found → Demand
must_be_new f = refuse EEXIST (is_found f || is_special f)

-- a mode has the bits 07777
abbrev pub check_of_mode : ℕ → Demand
check_of_mode mode = refuse EINVAL (nat_lt 4095 mode)

-- EBADF: not open, not open for reading, not open for writing
abbrev pub is_bad : ℕ → Process → Demand
is_bad fd p = refuse EBADF (not (is_some (descriptor p fd)))

abbrev pub is_bad_to_read : ℕ → Process → Demand
is_bad_to_read fd p = refuse EBADF (not (the_descriptor p fd).read)

abbrev pub is_bad_to_write : ℕ → Process → Demand
is_bad_to_write fd p = refuse EBADF (not (the_descriptor p fd).write)

abbrev pub nothing_asked : Scene → List Demand
nothing_asked s = []

-- ---- effects

abbrev pub answers : Scene → Reply → Effect
answers s reply = record { change = Same; process = s.process; reply = reply }

abbrev pub changes : Scene → Change → Effect
changes s change = record { change = change; process = s.process; reply = Done }

abbrev pub with_process : Process → Reply → Effect
with_process p reply = record { change = Same; process = p; reply = reply }

-- node n is made another by f, and these times of it move
abbrev pub rewrites : Scene → Touch → ℕ → (Node → Node) → Effect
rewrites s touch n f = changes s (Rewrite touch n (f (the_node s.state.tree n)))

-- ---- rows

abbrev pub none_early : Process → List Demand
none_early p = []

abbrev pub by_descriptor : (Process → Demand) → (Scene → List Demand) → (Scene → Effect) → Row
by_descriptor bad demands effect =
    record { arguments = []; walks = []; early = λ p. bad p ∷ []; demands = demands; effect = λ s new. effect s }

abbrev pub by_path : List Demand → Form → List ℕ → (Scene → List Demand) → (Scene → ℕ → Effect) → Row
by_path arguments form path demands effect =
    record { arguments = arguments; walks = (form, path) ∷ []; early = none_early; demands = demands; effect = effect }

abbrev pub by_two_paths : List ℕ → List ℕ → (Scene → List Demand) → (Scene → Effect) → Row
by_two_paths old new demands effect = record {
  arguments = [];
  walks = (Parent, old) ∷ (Parent, new) ∷ [];
  early = none_early;
  demands = demands;
  effect = λ s n. effect s;
}

-- What calls change in a tree: POSIX.1-2017, unlink(), and our own rule on what is dropped.
--     touch_at        which times of a node move, and how
--     Change, changed        one change, and the tree after it
--     touches        whose times a change moves, and which
--     restamped, touched        a tree with other times; the tree in which times have moved, one node's after another's
--     swept, pruned        what nobody can reach any more leaves the tree; what a stop leaves of it
use Rattle.std.specs.Prelude.{ℕ, ◌==◌, Bool, not, ◌||◌, List, [], ◌∷◌, ◌++◌, Option, None, Some, unwrap_or, map, if◌then◌else◌}
use Rattle.std.specs.List.{filter}
use Rattle.fs_model.specs.Limits.{root}
use Rattle.fs_layout.specs.Maps.{name_cmp, with_entry, without}
use Rattle.fs_model.specs.declared.reply.Stamps.{Stamps}
use Rattle.fs_model.specs.declared.touch.Touch.{Touch}
use Rattle.fs_model.specs.declared.touch.Touch.TheVariants.{Untouched, Changed, Modified, Born}
use Rattle.fs_model.specs.Nodes.{Node, Body, File, names_of_body, with_names}
use Rattle.fs_model.specs.Trees.{Tree, Room, node_at, with_node, names_of, lookup}
use Rattle.fs_model.specs.Processes.{ProcessTable, is_open}

-- what becomes of a node's times
abbrev pub touch_at : ℕ → Touch → Stamps → Stamps
touch_at now Untouched x = x
touch_at now Changed x = record { atime = x.atime; mtime = x.mtime; ctime = now }
touch_at now Modified x = record { atime = x.atime; mtime = now; ctime = now }
touch_at now Born x = record { atime = now; mtime = now; ctime = now }

-- What a call does to the tree. A number that it speaks of is one of a node that is there, but for the new one of Make.
pub data Change : Type 0 where
  -- nothing
  Same : Change
  -- a node is rewritten, its kind and names staying, and these times of it move
  Rewrite : Touch → ℕ → Node → Change
  -- in a directory, under a name, at a number, a node is made
  Make : ℕ → List ℕ → ℕ → Node → Change
  -- in a directory a name is given to a node
  AddName : ℕ → List ℕ → ℕ → Change
  -- from a directory a name is taken
  TakeName : ℕ → List ℕ → Change
  -- from a directory a name goes to another directory, or to another name
  MoveName : ℕ → List ℕ → ℕ → List ℕ → Change

-- the tree in which the names of a directory are changed so
abbrev pub with_names_at : Tree → ℕ → (List (List ℕ × ℕ) → List (List ℕ × ℕ)) → Option Node → Tree
with_names_at t dir_ino f None = t
with_names_at t dir_ino f (Some node) = with_node t dir_ino (record node { body = with_names (f (names_of_body node.body)) node.body })

abbrev pub named : Tree → ℕ → List ℕ → ℕ → Tree
named t dir_ino name n = with_names_at t dir_ino (λ names. with_entry name_cmp names name n) (node_at t dir_ino)

abbrev pub unnamed : Tree → ℕ → List ℕ → Tree
unnamed t dir_ino name = with_names_at t dir_ino (λ names. without name_cmp names name) (node_at t dir_ino)

-- the tree after a change, before anything is dropped
abbrev pub changed : Tree → Change → Tree
changed t Same = t
changed t (Rewrite touch n node) = with_node t n node
changed t (Make dir_ino name n node) = named (with_node t n node) dir_ino name n
changed t (AddName dir_ino name n) = named t dir_ino name n
changed t (TakeName dir_ino name) = unnamed t dir_ino name
changed t (MoveName dir_ino name to_dir_ino to_name) =
    named (unnamed t dir_ino name) to_dir_ino to_name (unwrap_or (lookup t dir_ino name) 0)

-- ---- times

-- what a name leads to, if it leads to anything
abbrev pub changed_at : Option ℕ → List (ℕ × Touch)
changed_at None = []
changed_at (Some n) = (n, Changed) ∷ []

-- Whose times a change moves: those of directories whose names change, and of what is made, named, moved, replaced or loses a name.
abbrev pub touches_of : Tree → Change → List (ℕ × Touch)
touches_of t Same = []
touches_of t (Rewrite touch n node) = (n, touch) ∷ []
touches_of t (Make dir_ino name n node) = (dir_ino, Modified) ∷ (n, Born) ∷ []
touches_of t (AddName dir_ino name n) = (dir_ino, Modified) ∷ (n, Changed) ∷ []
touches_of t (TakeName dir_ino name) = (dir_ino, Modified) ∷ changed_at (lookup t dir_ino name)
touches_of t (MoveName dir_ino name to_dir_ino to_name) =
    (dir_ino, Modified) ∷ (to_dir_ino, Modified) ∷ (changed_at (lookup t dir_ino name) ++ changed_at (lookup t to_dir_ino to_name))

-- the times that a change moves, on a disk that keeps times
abbrev pub touches : Room → Tree → Change → List (ℕ × Touch)
touches room t Same = []
touches room t change = if room.keeps_times then touches_of t change else []

-- the tree with other times
abbrev pub restamp : (ℕ → Stamps → Stamps) → ℕ → Node → Node
restamp f n node = record node { stamps = f n node.stamps }

abbrev pub restamped : (ℕ → Stamps → Stamps) → Tree → Tree
restamped f t = map (λ e. (e.0, restamp f e.0 e.1)) t

-- the times of one node move, and those of several, one after another
abbrev pub touch_one : ℕ → ℕ × Touch → ℕ → Stamps → Stamps
touch_one now e n x = if n == e.0 then touch_at now e.1 x else x

abbrev pub touched : ℕ → List (ℕ × Touch) → Tree → Tree
touched now [] t = t
touched now (e ∷ es) t = touched now es (restamped (touch_one now e) t)

-- ---- what is dropped, where these use nodes

-- a file lives as long as it is open; nothing else but the root lives without a name
abbrev pub lives_nameless : ProcessTable → ℕ → Body → Bool
lives_nameless processes n (File _ _) = is_open processes n
lives_nameless processes n _ = n == root

-- what has no name and doesn't live without one leaves the tree
abbrev pub swept : Tree → ProcessTable → Tree
swept t processes = filter (λ e. not (names_of t e.0 == 0) || lives_nameless processes e.0 e.1.body) t

-- without its nameless files: what is left where nobody has anything open
abbrev pub pruned : Tree → Tree
pruned t = swept t []

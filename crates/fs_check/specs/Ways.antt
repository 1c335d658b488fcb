-- The parents of inodes, and the ways up from them.
--     the_parent        the parent field that an inode has to have
--     Climbs        going up by the parent fields of a list of inodes reaches the root
--     AllClimb        so it does from each inode that has a mark
use Rattle.std.specs.Prelude.{◌≢◌, ℕ, ◌<◌, ◌==◌, List, length, get_or, if◌then◌else◌}
use Rattle.fs_layout.specs.declared.inode.Kind.{Kind}
use Rattle.fs_layout.specs.declared.inode.Inode.{Inode}
use Rattle.fs_layout.specs.Inode.{free_inode}
use Rattle.fs_model.specs.Limits.{root}
use Rattle.fs_model.specs.Rules.{is_directory_kind}

-- the parent field that inode n has to have, where this directory names it, or none does
abbrev pub the_parent : ℕ → Kind → ℕ → ℕ
the_parent n kind directory = if n == root then root else (if is_directory_kind kind then directory else 0)

-- Going up by the parent fields, inside the list, reaches the root.
pub data Climbs (inodes : List Inode) : ℕ → Type 0 where
  at_top : Climbs inodes root
  up : (d : ℕ) → d < length inodes → Climbs inodes (get_or inodes d free_inode).parent → Climbs inodes d

-- so it does from each inode that has a mark
abbrev pub AllClimb : List Inode → List ℕ → Type 0
AllClimb inodes marks = (n : ℕ) → get_or marks n 0 ≢ 0 → Climbs inodes n

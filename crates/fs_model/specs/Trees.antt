-- The tree that nodes make: POSIX.1-2017, Base Definitions (Directory) and 4.13 (Pathname Resolution), with our
-- own limits.
--     Tree, node_at, with_node        a finite map from inode numbers to nodes
--     names_of, parent, lookup, is_within        how many names lead to a node; where it is named; what a name leads to
--     Room        what a disk has room for
--     AreStamps, IsTree        what is true of a node's times, and of every tree
--     sectors_needed, free_inodes        what a tree takes of a disk, and what it leaves
use Rattle.std.specs.Prelude.{◌≡◌, ◌≢◌, ℕ, zero, suc, ◌-◌, ◌^◌, ◌<◌, ◌≤◌, ◌==◌, nat_lt, Bool, not, ◌&&◌, ◌||◌, List, [], ◌∷◌, length, if◌then◌else◌, Option, None, Some, IsTrue, IsFalse, is_some, count_by, sum_by, All}
use Rattle.std.specs.Ordering.{nat_cmp}
use Rattle.posix_acl.specs.AccessList.{IsAcl, IsSomeAcl}
use Rattle.fs_layout.specs.Bytes.{IsBytes}
use Rattle.fs_layout.specs.Directories.{IsName}
use Rattle.fs_model.specs.Limits.{root, target_limit}
use Rattle.fs_layout.specs.Maps.{name_cmp, get, with_entry, IsMap}
use Rattle.fs_model.specs.declared.reply.Stamps.{Stamps}
use Rattle.fs_model.specs.Nodes.{no_stamps, Node, Body, File, Dir, Link, Directory, is_directory, names_of_body, sectors_of}

abbrev pub Tree : Type 0
Tree = List (ℕ × Node)

abbrev pub node_at : Tree → ℕ → Option Node
node_at t n = get nat_cmp t n

abbrev pub with_node : Tree → ℕ → Node → Tree
with_node t n node = with_entry nat_cmp t n node

-- the names in one directory, and in the whole tree, that lead to n
abbrev pub names_for : ℕ → Body → ℕ
names_for n b = count_by (λ e. e.1 == n) (names_of_body b)

abbrev pub names_of : Tree → ℕ → ℕ
names_of t n = sum_by (λ e. names_for n e.1.body) t

-- the directory that names d; the root is its own parent
abbrev pub parent : Tree → ℕ → ℕ
parent [] d = root
parent (e ∷ t) d = if nat_lt 0 (names_for d e.1.body) then e.0 else parent t d

-- what a name in a directory leads to
abbrev pub lookup_in : Option Node → List ℕ → Option ℕ
lookup_in None name = None
lookup_in (Some node) name = get name_cmp (names_of_body node.body) name

abbrev pub lookup : Tree → ℕ → List ℕ → Option ℕ
lookup t dir_ino name = lookup_in (node_at t dir_ino) name

-- d is the directory m or lies below it; `far` bounds how far up it is looked
abbrev pub is_within : ℕ → Tree → ℕ → ℕ → Bool
is_within zero t m d = d == m
is_within (suc far) t m d = d == m || (not (d == root) && is_within far t m (parent t d))

-- what a disk has room for: inode numbers below `inodes`, `sectors` of data, files of at most `file_limit` bytes, names of at
-- most `name_limit`, at most `entries_limit` of them in one directory and `names_limit` of one file or link; each takes
-- `slot_size` bytes of its directory; and, if it keeps them, times
pub record Room : Type 0 where
  pub inodes : ℕ
  pub sectors : ℕ
  pub file_limit : ℕ
  pub name_limit : ℕ
  pub entries_limit : ℕ
  pub names_limit : ℕ
  pub slot_size : ℕ
  pub keeps_times : Bool

-- something stands at the number, and it isn't the root
abbrev pub MayHaveName : Tree → ℕ → Type 0
MayHaveName t n = (n ≢ root) × IsTrue (is_some (node_at t n))

-- a name, and what it leads to
pub record IsEntry (room : Room) (t : Tree) (name : List ℕ) (n : ℕ) : Type 0 where
  pub is_name : IsName name
  pub short : length name ≤ room.name_limit
  pub bytes : IsBytes name
  pub leads : MayHaveName t n

pub record IsDirectory (room : Room) (t : Tree) (d : Directory) : Type 0 where
  pub names : IsMap name_cmp d.names
  pub few : length d.names ≤ room.entries_limit
  pub each : (name : List ℕ) (n : ℕ) → get name_cmp d.names name ≡ Some n → IsEntry room t name n

-- a link's target: at least one byte, none of them zero
pub record IsTarget (target : List ℕ) : Type 0 where
  pub some : 1 ≤ length target
  pub short : length target ≤ target_limit
  pub bytes : IsBytes target
  pub no_zero : All (λ b. b ≢ 0) target

-- what is true of each kind of object in a tree
abbrev pub IsBody : Room → Tree → Body → Type 0
IsBody room t (File a bytes) = IsAcl a × (length bytes ≤ room.file_limit) × IsBytes bytes
IsBody room t (Dir a d) = IsAcl a × IsSomeAcl d.default × IsDirectory room t d
IsBody room t (Link target) = IsTarget target

-- the names that an object may have: the root none, another directory one, a link some, a file any number
abbrev pub NamesFit : Room → ℕ → Body → ℕ → Type 0
NamesFit room n (Dir _ _) names = names ≡ (if n == root then 0 else 1)
NamesFit room n (Link _) names = (1 ≤ names) × (names ≤ room.names_limit)
NamesFit room n (File _ _) names = names ≤ room.names_limit

-- going up from d leads to the root
pub data IsUnderRoot (t : Tree) : ℕ → Type 0 where
  is_root : IsUnderRoot t root
  is_in : (d : ℕ) → IsUnderRoot t (parent t d) → IsUnderRoot t d

-- three numbers of 64 bits; zeros where the disk keeps no times
pub record AreStamps (keeps : Bool) (x : Stamps) : Type 0 where
  pub atime : x.atime < 2 ^ 64
  pub mtime : x.mtime < 2 ^ 64
  pub ctime : x.ctime < 2 ^ 64
  pub none : IsFalse keeps → x ≡ no_stamps

pub record IsNode (room : Room) (t : Tree) (n : ℕ) (node : Node) : Type 0 where
  pub positive : 1 ≤ n
  pub below : n < room.inodes
  pub owner : node.owner < 2 ^ 32
  pub group : node.group < 2 ^ 32
  pub body : IsBody room t node.body
  pub stamps : AreStamps room.keeps_times node.stamps
  pub names : NamesFit room n node.body (names_of t n)
  pub under_root : IsTrue (is_directory node.body) → IsUnderRoot t n

-- a directory stands at n
pub record IsDirectoryAt (t : Tree) (n : ℕ) : Type 0 where
  pub node : Node
  pub is_there : node_at t n ≡ Some node
  pub directory : IsTrue (is_directory node.body)

-- what is true of every tree
pub record IsTree (room : Room) (t : Tree) : Type 0 where
  pub numbers : IsMap nat_cmp t
  pub root_is_there : IsDirectoryAt t root
  pub each : (n : ℕ) (node : Node) → node_at t n ≡ Some node → IsNode room t n node

abbrev pub sectors_needed : Room → Tree → ℕ
sectors_needed room t = sum_by (λ e. sectors_of room.slot_size e.1.body) t

-- inode 0 isn't used
abbrev pub free_inodes : Room → Tree → ℕ
free_inodes room t = room.inodes - 1 - length t

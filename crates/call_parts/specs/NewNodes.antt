-- What making something in a directory asks and leaves.
--     IsNewIn        a directory in which a name is new
--     HasName        a directory that has this name
--     MayBeNamed        a directory in which something may be named so
--     NamesInode        a directory has been given a name for an inode
--     TakesInode        an inode was free, and holds something now
--     MakesNode        both: something was made
--     file_made, directory_made, link_made        what is made
--     link_name_asked        asked of the name of a link that is made
--     IsMade        it was made, or why not
use Rattle.std.specs.Prelude.{◌≡◌, ◌≢◌, ℕ, ◌-◌, ◌/◌, ◌%◌, ◌<◌, ◌≤◌, ◌==◌, if◌then◌else◌, List, [], ◌∷◌, length, Option, None, IsTrue, Result, MatchResult, Ok, Err}
use Rattle.posix_acl.specs.AccessList.{AccessList}
use Rattle.fs_cred.specs.Credentials.{Credential}
use Rattle.fs_cred.specs.declared.errno.Errno.TheVariants.{ENOENT}
use Rattle.fs_cred.specs.declared.refusal.Refusal.{Refusal}
use Rattle.fs_layout.specs.declared.inode.TheConstants.{S_ISGID, S_ISVTX}
use Rattle.fs_layout.specs.declared.inode.Inode.{Inode}
use Rattle.fs_layout.specs.declared.geometry.Geometry.{Geometry}
use Rattle.fs_layout.specs.Bytes.{SectorMap}
use Rattle.fs_layout.specs.InodeChanges.{ChangesInode}
use Rattle.fs_layout.specs.Directories.{IsName, HasNames}
use Rattle.fs_layout.specs.Images.{bit, inode_at, free_sectors}
use Rattle.fs_layout.specs.Maps.{name_cmp, get, with_entry}
use Rattle.fs_layout.specs.Version.{max_name, max_names}
use Rattle.sector_txn.specs.Sectors.{TxnState}
use Rattle.bit_alloc.specs.declared.bitmap.Bitmap.TheVariants.{Inodes}
use Rattle.bit_alloc.specs.Bitmaps.{IsFreeNumber}
use Rattle.fs_model.specs.declared.walk.Found.{Found}
use Rattle.fs_model.specs.Demands.{Demand, refuse, first_of}
use Rattle.fs_model.specs.Nodes.{no_stamps, Node, File, Dir, Link, names_of_body}
use Rattle.fs_model.specs.Scenes.{must_be_new}
use Rattle.fs_model.specs.StoredNodes.{Placed, HoldsNode}
use Rattle.fs_model.specs.Trees.{Tree, IsDirectoryAt}
use Rattle.path_walk.specs.Answers.{refused_or, IsAnswered}
use Rattle.call_parts.specs.Given.{ChangesNames}
use Rattle.call_parts.specs.Makings.{make_asked}

pub record IsNewIn (p : Geometry) (t : Tree) (dir_ino : ℕ) (name : List ℕ) : Type 0 where
  pub directory : IsDirectoryAt t dir_ino
  pub is_name : IsName name
  pub short : length name ≤ max_name p.version
  pub is_new : get name_cmp (names_of_body directory.node.body) name ≡ None

-- directory dir has this name
abbrev pub HasName : Geometry → SectorMap → ℕ → List ℕ → Type 0
HasName p map dir_ino name = (names : List (List ℕ × ℕ)) × HasNames p.version map (inode_at p map dir_ino) names × (get name_cmp names name ≢ None)

-- Of the names of directory dir this is none, and it has room for one more, as the disk has for that.
pub record MayBeNamed (p : Geometry) (map : SectorMap) (dir_ino : ℕ) (name : List ℕ) : Type 0 where
  pub below : dir_ino < p.inodes
  pub is_name : IsName name
  pub short : length name ≤ max_name p.version
  pub names : List (List ℕ × ℕ)
  pub are : HasNames p.version map (inode_at p map dir_ino) names
  pub is_new : get name_cmp names name ≡ None
  pub few : length names < max_names p.version
  pub enough : 3 ≤ free_sectors p map

-- directory dir names inode n, and is else as it was
abbrev pub NamesInode : Geometry → ℕ → List ℕ → ℕ → SectorMap → SectorMap → Type 0
NamesInode p dir_ino name n old new = ChangesNames p dir_ino (λ names. with_entry name_cmp names name n) old new

-- inode n was free, and holds this
pub record TakesInode (p : Geometry) (n : ℕ) (x : Placed) (old new : SectorMap) : Type 0 where
  pub super : new 0 ≡ old 0
  pub free : IsFreeNumber p Inodes old n
  pub change : ChangesInode p n old new
  pub taken : IsTrue (bit new p.inode_bitmap n)
  pub holds : HoldsNode p.version new (inode_at p new n) x

-- Inode n was free and holds this node, and then directory dir names it.
pub record MakesNode (p : Geometry) (dir_ino : ℕ) (name : List ℕ) (n : ℕ) (node : Node) (old new : SectorMap) : Type 0 where
  pub mid : SectorMap
  pub takes : TakesInode p n (record { node = node; names = 1; parent = dir_ino }) old mid
  pub names : NamesInode p dir_ino name n mid new

-- ---- what is made

-- an empty file
abbrev pub file_made : ℕ → ℕ → AccessList → Node
file_made uid gid access = record { owner = uid; group = gid; body = File access []; stamps = no_stamps }

-- a directory with these bits of its mode above the permission bits
abbrev pub directory_made : ℕ → ℕ → ℕ → AccessList → Option AccessList → Node
directory_made uid gid bits access default = record {
  owner = uid;
  group = gid;
  body = Dir access (record { names = []; default = default; set_group_id = bits / S_ISGID % 2 == 1; sticky = bits / S_ISVTX % 2 == 1 });
  stamps = no_stamps;
}

-- a link of this caller in this directory, whose group it gets where that has S_ISGID
abbrev pub link_made : Inode → Credential → List ℕ → Node
link_made directory cred target = record {
  owner = cred.uid;
  group = if directory.mode / S_ISGID % 2 == 1 then directory.gid else cred.gid;
  body = Link target;
  stamps = no_stamps;
}

-- nothing is there, and no slash is behind the name
abbrev pub link_name_asked : Found → List Demand
link_name_asked f = must_be_new f ∷ refuse ENOENT f.slash ∷ []

-- ---- the whole

-- All that is asked of the directory of the last lookup is met, and it has this node, at this number; or one of that is not, or
-- memory or the disk fails.
abbrev pub IsMade : Geometry → TxnState → TxnState → Credential → Tree → Found → Node → Result ℕ Refusal → Type 0
IsMade p old new cred t f node result =
    MatchResult result
    (λ n. (first_of (make_asked p old.sectors cred t f.dir_ino (f.step - 1)) ≡ None) × MakesNode p f.dir_ino f.name n node old.sectors new.sectors)
    (λ e. IsAnswered old.disk new.disk (refused_or {A = Unit {0}} (first_of (make_asked p old.sectors cred t f.dir_ino (f.step - 1))) (Ok tt)) (Err e))

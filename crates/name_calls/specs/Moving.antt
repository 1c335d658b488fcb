-- What a name that goes to another place asks, and what it leaves.
--     MayMove        a name that may go to another place
--     MayMoveTo        one name that was found may go to the other
--     MayLead        a name that may lead to another inode
--     MovesEntry        the names of one directory, or of two, are changed
--     MovesEntryTo        of the names that were found
--     GetsParent, ParentFollows        what was moved gets its parent
--     renamed_touches        whose times a name that moves takes along
use Rattle.std.specs.Prelude.{◌≡◌, ◌≢◌, ◌⊎◌, ℕ, ◌<◌, ◌≤◌, false, List, [], ◌∷◌, length, Option, None, Some, IsFalse}
use Rattle.fs_layout.specs.declared.inode.Kind.TheVariants as kinds
use Rattle.fs_layout.specs.declared.geometry.Geometry.{Geometry}
use Rattle.fs_layout.specs.Bytes.{SectorMap, IsBytes}
use Rattle.fs_layout.specs.InodeChanges.{ChangesInode}
use Rattle.fs_layout.specs.Directories.{IsName}
use Rattle.fs_layout.specs.Images.{bit, free_sectors, inode_at}
use Rattle.fs_layout.specs.Maps.{name_cmp, get, with_entry, without}
use Rattle.fs_layout.specs.Version.{max_name, max_names}
use Rattle.bit_alloc.specs.Inodes.{KeepsBytes, KeepsAcls}
use Rattle.fs_model.specs.declared.touch.Touch.{Touch}
use Rattle.fs_model.specs.declared.touch.Touch.TheVariants.{Changed, Modified}
use Rattle.fs_model.specs.declared.walk.Found.{Found}
use Rattle.fs_model.specs.Limits.{least_free}
use Rattle.fs_model.specs.Nodes.{names_of_body}
use Rattle.fs_model.specs.Processes.{users, is_in_use}
use Rattle.fs_model.specs.States.{State}
use Rattle.fs_model.specs.TreeChanges.{changed_at}
use Rattle.fs_model.specs.Trees.{is_within, IsDirectoryAt}
use Rattle.call_parts.specs.Given.{ChangesNames}
use Rattle.call_parts.specs.NewNodes.{HasName, MayBeNamed}

-- The name leads from directory dir to n, and n may get to_name in directory to_dir, which leads to what is replaced, or to
-- nothing.
pub record MayMove (p : Geometry) (map : SectorMap) (s : State) (dir_ino : ℕ) (name : List ℕ) (n to_dir_ino : ℕ) (to_name : List ℕ)
    (replaced : Option ℕ) : Type 0 where
  pub directory : IsDirectoryAt s.tree dir_ino
  pub leads : get name_cmp (names_of_body directory.node.body) name ≡ Some n
  pub to_directory : IsDirectoryAt s.tree to_dir_ino
  pub to_leads : get name_cmp (names_of_body to_directory.node.body) to_name ≡ replaced
  pub is_name : IsName to_name
  pub short : length to_name ≤ max_name p.version
  pub bytes : IsBytes to_name
  pub other : (m : ℕ) → replaced ≡ Some m → m ≢ n
  pub has_room : replaced ≡ None → dir_ino ≢ to_dir_ino
      → (length (names_of_body to_directory.node.body) < max_names p.version) × (least_free ≤ free_sectors p map)
  pub empty : (m : ℕ) → replaced ≡ Some m → (d : IsDirectoryAt s.tree m) → names_of_body d.node.body ≡ []
  pub unused : (m : ℕ) → replaced ≡ Some m → IsDirectoryAt s.tree m → IsFalse (is_in_use (users s.processes s.openings) m)
  pub outside : IsDirectoryAt s.tree n → is_within (length s.tree) s.tree n to_dir_ino ≡ false

-- what the first name leads to, n, may get the second
abbrev pub MayMoveTo : Geometry → SectorMap → Found → Found → ℕ → State → Type 0
MayMoveTo p map f g n s = MayMove p map s f.dir_ino f.name n g.dir_ino g.name g.ino

-- In directory dir the name may lead to another inode: it leads to one, or there is room for it.
abbrev pub MayLead : Geometry → SectorMap → ℕ → List ℕ → Option ℕ → Type 0
MayLead p map dir_ino name None = MayBeNamed p map dir_ino name
MayLead p map dir_ino name (Some m) = (dir_ino < p.inodes) × HasName p map dir_ino name

-- A directory leads to_name to n, and the name no longer; or it has lost the name, and then another one, or itself, leads
-- to_name to n.
pub data MovesEntry (p : Geometry) (dir_ino : ℕ) (name : List ℕ) (n to_dir_ino : ℕ) (to_name : List ℕ)
    (replaced : Option ℕ) (old new : SectorMap) : Type 0 where
  within : dir_ino ≡ to_dir_ino → replaced ≡ None → ChangesNames p dir_ino (λ names. with_entry name_cmp (without name_cmp names name) to_name n) old new
      → MovesEntry p dir_ino name n to_dir_ino to_name replaced old new
  across : (mid : SectorMap) → ChangesNames p dir_ino (λ names. without name_cmp names name) old mid
      → ChangesNames p to_dir_ino (λ names. with_entry name_cmp names to_name n) mid new → MovesEntry p dir_ino name n to_dir_ino to_name replaced old new

-- the second name leads to n, in place of the first
abbrev pub MovesEntryTo : Geometry → Found → Found → ℕ → SectorMap → SectorMap → Type 0
MovesEntryTo p f g n old new = MovesEntry p f.dir_ino f.name n g.dir_ino g.name g.ino old new

-- inode n has this parent, and all else that it had
pub record GetsParent (p : Geometry) (n parent : ℕ) (old new : SectorMap) : Type 0 where
  pub super : new 0 ≡ old 0
  pub change : ChangesInode p n old new
  pub saved : inode_at p new n ≡ record (inode_at p old n) { parent = parent }
  pub bytes : KeepsBytes old new (inode_at p old n) (inode_at p new n)
  pub acls : KeepsAcls old new (inode_at p old n) (inode_at p new n)
  pub used : bit new p.inode_bitmap n ≡ bit old p.inode_bitmap n

-- what goes from directory dir to to_dir: a directory gets another one as its parent, and nothing else changes
pub data ParentFollows (p : Geometry) (n dir_ino to_dir_ino : ℕ) (old new : SectorMap) : Type 0 where
  goes : dir_ino ≢ to_dir_ino → (inode_at p old n).kind ≡ kinds.Directory → GetsParent p n to_dir_ino old new → ParentFollows p n dir_ino to_dir_ino old new
  stays : ((inode_at p old n).kind ≢ kinds.Directory) ⊎ (dir_ino ≡ to_dir_ino) → new ≡ old → ParentFollows p n dir_ino to_dir_ino old new

-- both directories, what has the name, and what was replaced, if anything was
abbrev pub renamed_touches : ℕ → ℕ → ℕ → Option ℕ → List (ℕ × Touch)
renamed_touches dir_ino to_dir_ino n replaced = (dir_ino, Modified) ∷ (to_dir_ino, Modified) ∷ (n, Changed) ∷ changed_at replaced

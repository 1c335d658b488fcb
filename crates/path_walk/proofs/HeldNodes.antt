-- What the inodes of a disk that holds a tree say of its nodes.
use Rattle.std.specs.Prelude.{◌≡◌, ℕ, ◌+◌, ◌%◌, ◌<◌, Bool, true, false, cond, List, Option, None, Some, IsTrue, is_some}
use Rattle.std.proofs.Common.{refl, sym, ap, subst, arith, ◌∙◌}
use Rattle.std.specs.Option.{option_map, option_and_then}
use Rattle.posix_acl.specs.AccessList.{mode_bits}
use Rattle.fs_cred.specs.declared.node.Node.{Node as AccessNode}
use Rattle.fs_cred.specs.declared.node.NodeKind.TheVariants as nodes
use Rattle.fs_layout.specs.declared.inode.TheConstants.{S_ISGID, S_ISVTX}
use Rattle.fs_layout.specs.declared.inode.Inode.{Inode}
use Rattle.fs_layout.specs.declared.inode.Kind.TheVariants as kinds
use Rattle.fs_layout.specs.declared.geometry.Geometry.{Geometry}
use Rattle.fs_layout.specs.declared.version.Version.{Version}
use Rattle.fs_layout.specs.Bytes.{SectorMap}
use Rattle.fs_layout.specs.Images.{inode_at, Holds}
use Rattle.fs_layout.specs.Directories.{HasNames}
use Rattle.fs_layout.proofs.OneAcl.{mode_small}
use Rattle.fs_model.specs.Demands.{accessed_at}
use Rattle.fs_model.specs.Nodes.{Node, Body, File, Dir, Link, is_directory, default_in, names_of_body, bytes_in, accessed, accessed_body, shown_mode}
use Rattle.fs_model.specs.Rules.{is_directory_kind}
use Rattle.fs_model.specs.Stands.{HoldsPlaced, room_of}
use Rattle.fs_model.specs.StoredNodes.{HoldsBody, HoldsNode, parent_field}
use Rattle.fs_model.specs.Trees.{Tree, node_at, names_of, parent, IsDirectoryAt}
use Rattle.fs_model.specs.Parts.{parts_of, start_of}
use Rattle.fs_model.specs.Trails.{named_inode}
use Rattle.fs_model.proofs.Finds.{number_there, start_there}
use Rattle.inode_table.specs.Acls.{HasDefaultAcl}
use Rattle.path_walk.specs.HeldTrees.{HoldsTree, IsThere, HasAccess}

-- what stands at a number
pub record Stands (t : Tree) (n : ℕ) : Type 0 where
  pub node : Node
  pub at : node_at t n ≡ Some node

pub stands : (t : Tree) (n : ℕ) → IsThere t n → Stands t n
stands t n there = go (node_at t n) refl there
  where
    go : (o : Option Node) → node_at t n ≡ o → IsTrue (is_some o) → Stands t n
    go None at there = absurd (cc)
    go (Some node) at there = record { node = node; at = at }

pub is_there : (t : Tree) (n : ℕ) (node : Node) → node_at t n ≡ Some node → IsThere t n
is_there t n node at = ap is_some at

-- the bits of a mode without those of a directory
low_bits : (n : ℕ) (s g : Bool) → n < 512 → (n + cond s S_ISVTX 0 + cond g S_ISGID 0) % 512 ≡ n
low_bits n true true lt = omega (arith, lt)
low_bits n true false lt = omega (arith, lt)
low_bits n false true lt = omega (arith, lt)
low_bits n false false lt = omega (arith, lt)

-- an inode of a directory has the kind of one, and no other has
kind_says : (version : Version) (image : SectorMap) (v : Inode) (b : Body) → HoldsBody version image v b → is_directory_kind v.kind ≡ is_directory b
kind_says version image v (File a bytes) h = ap is_directory_kind h.kind
kind_says version image v (Dir a d) h = ap is_directory_kind h.names.kind
kind_says version image v (Link target) h = ap is_directory_kind h.kind

-- what access is decided on
pub access_says : (version : Version) (image : SectorMap) (v : Inode) (owner group : ℕ) (b : Body) (x : AccessNode) → v.uid ≡ owner → v.gid ≡ group → v.mode ≡ shown_mode b
    → HoldsBody version image v b → accessed_body owner group b ≡ Some x → HasAccess image v x
access_says version image v owner group (File a bytes) x o g m h e =
    let is : record { kind = nodes.File; owner = owner; group = group; acl = a } ≡ x = cc in
    subst (HasAccess image v) is (record {
      kind = h.kind;
      owner = o;
      group = g;
      acl = record { valid = h.acl; stored = h.has_acl; bits = (let small = mode_small a in omega (arith, m, small)) };
    })
access_says version image v owner group (Dir a d) x o g m h e =
    let is : record { kind = nodes.Directory; owner = owner; group = group; acl = a } ≡ x = cc in
    subst (HasAccess image v) is (record {
      kind = h.names.kind;
      owner = o;
      group = g;
      acl = record { valid = h.acl; stored = h.has_acl; bits = ap (λ (n : ℕ). n % 512) m ∙ low_bits (mode_bits a) d.sticky d.set_group_id (mode_small a) };
    })
access_says version image v owner group (Link target) x o g m h e = absurd (cc)

-- a directory's names, and its default ACL
pub names_say : (version : Version) (image : SectorMap) (v : Inode) (b : Body) → IsTrue (is_directory b) → HoldsBody version image v b → HasNames version image v (names_of_body b)
names_say version image v (File a bytes) is h = absurd (cc)
names_say version image v (Dir a d) is h = h.names
names_say version image v (Link target) is h = absurd (cc)

pub default_says : (version : Version) (image : SectorMap) (v : Inode) (b : Body) → IsTrue (is_directory b) → HoldsBody version image v b → HasDefaultAcl image v (default_in b)
default_says version image v (File a bytes) is h = absurd (cc)
default_says version image v (Dir a d) is h = record { valid = h.default; stored = h.has_default }
default_says version image v (Link target) is h = absurd (cc)

-- a file's bytes
pub bytes_say : (version : Version) (image : SectorMap) (v : Inode) (b : Body) → v.kind ≡ kinds.File → HoldsBody version image v b → Holds image v (bytes_in b)
bytes_say version image v (File a bytes) is h = h.holds
bytes_say version image v (Dir a d) is h = absurd (let c : kinds.Directory ≡ kinds.File = sym h.names.kind ∙ is in cc)
bytes_say version image v (Link target) is h = absurd (let c : kinds.Link ≡ kinds.File = sym h.kind ∙ is in cc)

-- what is stored of where a directory is named
pub parent_says : (b : Body) (parent : ℕ) → IsTrue (is_directory b) → parent_field b parent ≡ parent
parent_says (File a bytes) parent is = absurd (cc)
parent_says (Dir a d) parent is = refl
parent_says (Link target) parent is = absurd (cc)

module _ {p : Geometry} {image : SectorMap} {t : Tree} (h : HoldsTree p image t) where
  -- the number of a node is one of the disk
  pub number_below : (n : ℕ) → IsThere t n → n < p.inodes
  number_below n there = let s = stands t n there in (h.tree.each n s.node s.at).below

  -- the inode of a node holds it
  pub held_node : (n : ℕ) (node : Node) → node_at t n ≡ Some node
      → HoldsNode p.version image (inode_at p image n) (record { node = node; names = names_of t n; parent = parent t n })
  held_node n node at =
      subst (λ (o : Option Node). HoldsPlaced p image n (option_map (λ m. record { node = m; names = names_of t n; parent = parent t n }) o)) at
      (h.holds.nodes n (number_below n (is_there t n node at)))

  pub held_kind : (n : ℕ) (node : Node) → node_at t n ≡ Some node → is_directory_kind (inode_at p image n).kind ≡ is_directory node.body
  held_kind n node at = kind_says p.version image (inode_at p image n) node.body (held_node n node at).body

  -- of a directory: its names, and its parent
  pub held_names : (n : ℕ) → (d : IsDirectoryAt t n) → HasNames p.version image (inode_at p image n) (names_of_body d.node.body)
  held_names n d = names_say p.version image (inode_at p image n) d.node.body d.directory (held_node n d.node d.is_there).body

  pub held_parent : (n : ℕ) → IsDirectoryAt t n → (inode_at p image n).parent ≡ parent t n
  held_parent n d = (held_node n d.node d.is_there).parent ∙ parent_says d.node.body (parent t n) d.directory

  -- of a file or a directory: what access is decided on
  pub held_access : (n : ℕ) (x : AccessNode) → accessed_at t n ≡ Some x → HasAccess image (inode_at p image n) x
  held_access n x e = go (node_at t n) refl e
    where
      go : (o : Option Node) → node_at t n ≡ o → option_and_then accessed o ≡ Some x → HasAccess image (inode_at p image n) x
      go None at e = absurd (cc)
      go (Some node) at e =
          let held = held_node n node at in
          access_says p.version image (inode_at p image n) node.owner node.group node.body x held.owner held.group held.mode held.body e

  -- of a symbolic link: its target
  pub held_target : (n : ℕ) (node : Node) (target : List ℕ) → node_at t n ≡ Some node → node.body ≡ Link target → Holds image (inode_at p image n) target
  held_target n node target at is = (subst (HoldsBody p.version image (inode_at p image n)) is (held_node n node at).body).holds

  -- what a name in a directory leads to is there
  pub named_there : (n : ℕ) (d : IsDirectoryAt t n) (name : List ℕ) (m : ℕ) → named_inode t n (names_of_body d.node.body) name ≡ Some m → IsThere t m
  named_there n d name m e = number_there (room_of p) t h.tree n d.node name m d.is_there e

  -- and so is where a path starts
  pub starts_there : (path : List ℕ) (cwd : ℕ) → IsThere t cwd → IsThere t (start_of (parts_of path) cwd)
  starts_there path cwd there = start_there (room_of p) t h.tree (parts_of path) cwd there

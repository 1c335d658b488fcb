-- The inodes of a disk that holds a tree are as a walk asks.
use Rattle.std.specs.Prelude.{◌≡◌, ℕ, ◌<◌, true, ◌∷◌, [], Option, None, Some}
use Rattle.std.proofs.Common.{refl, sym, ap, subst, ◌∙◌, inl, inr}
use Rattle.std.specs.Option.{option_map}
use Rattle.fs_cred.specs.declared.node.Node.{Node as AccessNode}
use Rattle.fs_cred.specs.declared.node.NodeKind.TheVariants as nodes
use Rattle.fs_layout.specs.declared.inode.Inode.{Inode}
use Rattle.fs_layout.specs.declared.inode.Kind.{Kind}
use Rattle.fs_layout.specs.declared.inode.Kind.TheVariants as kinds
use Rattle.fs_layout.specs.declared.geometry.Geometry.{Geometry}
use Rattle.fs_layout.specs.Bytes.{SectorMap}
use Rattle.fs_layout.specs.Inode.{free_inode}
use Rattle.fs_layout.specs.Images.{inode_at}
use Rattle.fs_model.specs.Nodes.{Node, Body, File, Dir, Link, is_directory, accessed_body, shown_mode}
use Rattle.fs_model.specs.Rules.{is_directory_kind}
use Rattle.fs_model.specs.Stands.{HoldsPlaced, room_of}
use Rattle.fs_model.specs.StoredNodes.{HoldsBody}
use Rattle.fs_model.specs.Trees.{Tree, node_at, names_of, parent, IsBody, IsDirectoryAt}
use Rattle.inode_table.specs.Acls.{HasAcl}
use Rattle.path_walk.specs.HeldTrees.{HoldsTree}
use Rattle.path_walk.specs.SoundInodes.{IsSoundInode, HasSoundInodes}
use Rattle.path_walk.proofs.HeldNodes.{access_says, number_below, held_node, held_parent, named_there}

-- the kind of a directory
pub directory_kind : (k : Kind) → is_directory_kind k ≡ true → k ≡ kinds.Directory
directory_kind kinds.Free e = absurd (cc)
directory_kind kinds.File e = absurd (cc)
directory_kind kinds.Directory e = refl
directory_kind kinds.Link e = absurd (cc)

-- a free inode has nothing to show
pub free_is_sound : (p : Geometry) (image : SectorMap) (v : Inode) → v ≡ free_inode → IsSoundInode p image v
free_is_sound p image v free = record {
  directory = λ e. absurd (let same : kinds.Free ≡ kinds.Directory = sym (ap (λ (u : Inode). u.kind) free) ∙ e in cc);
  acl = λ e. elim e [
    | inl file ↦ absurd (let same : kinds.Free ≡ kinds.File = sym (ap (λ (u : Inode). u.kind) free) ∙ file in cc)
    | inr dir_ino ↦ absurd (let same : kinds.Free ≡ kinds.Directory = sym (ap (λ (u : Inode). u.kind) free) ∙ dir_ino in cc)
  ];
}

-- no inode is of two kinds
no_directory_file : (v : Inode) → v.kind ≡ kinds.File → v.kind ≡ kinds.Directory → ⊥
no_directory_file v is e = let same : kinds.File ≡ kinds.Directory = sym is ∙ e in cc

no_link_directory : (v : Inode) → v.kind ≡ kinds.Link → v.kind ≡ kinds.Directory → ⊥
no_link_directory v is e = let same : kinds.Link ≡ kinds.Directory = sym is ∙ e in cc

no_link_file : (v : Inode) → v.kind ≡ kinds.Link → v.kind ≡ kinds.File → ⊥
no_link_file v is e = let same : kinds.Link ≡ kinds.File = sym is ∙ e in cc

module _ {p : Geometry} {image : SectorMap} {t : Tree} (h : HoldsTree p image t) (n : ℕ) (node : Node) (at : node_at t n ≡ Some node) where
  abbrev pub v : Inode
  v = inode_at p image n

  acl_says : (b : Body) (x : AccessNode) → node.body ≡ b → HoldsBody p.version image v b → accessed_body v.uid v.gid b ≡ Some x → HasAcl image v x.acl
  acl_says b x is held e = (access_says p.version image v v.uid v.gid b x refl refl ((held_node h n node at).mode ∙ ap shown_mode is) held e).acl

  body_says : (b : Body) → node.body ≡ b → HoldsBody p.version image v b → IsBody (room_of p) t b → IsSoundInode p image v
  body_says (File a bytes) is held fits = record {
    directory = λ e. absurd (no_directory_file v held.kind e);
    acl = λ e. (a, acl_says (File a bytes) (record { kind = nodes.File; owner = v.uid; group = v.gid; acl = a }) is held refl);
  }
  body_says (Dir a d) is held fits =
      let dir_ino : IsDirectoryAt t n = record { node = node; is_there = at; directory = ap is_directory is } in record {
        directory = λ e. record {
          names = d.names;
          has = held.names;
          inside = λ name m found. number_below h m ((fits.2.each name m found).leads.1);
          parent = subst (λ (m : ℕ). m < p.inodes) (sym (held_parent h n dir_ino))
              (number_below h (parent t n) (named_there h n dir_ino (46 ∷ 46 ∷ []) (parent t n) refl));
        };
        acl = λ e. (a, acl_says (Dir a d) (record { kind = nodes.Directory; owner = v.uid; group = v.gid; acl = a }) is held refl);
      }
  body_says (Link target) is held fits = record {
    directory = λ e. absurd (no_link_directory v held.kind e);
    acl = λ e. elim e [ inl file ↦ absurd (no_link_file v held.kind file) | inr dir_ino ↦ absurd (no_link_directory v held.kind dir_ino) ];
  }

  pub node_is_sound : IsSoundInode p image v
  node_is_sound =
      body_says node.body refl (held_node h n node at).body (h.tree.each n node at).body

pub held_inodes : {p : Geometry} {image : SectorMap} {t : Tree} → HoldsTree p image t → HasSoundInodes p image
held_inodes {p} {image} {t} h n low = go (node_at t n) refl (h.holds.nodes n low)
  where
    go : (o : Option Node) → node_at t n ≡ o
        → HoldsPlaced p image n (option_map (λ m. record { node = m; names = names_of t n; parent = parent t n }) o) → IsSoundInode p image (inode_at p image n)
    go None at free = free_is_sound p image (inode_at p image n) free
    go (Some node) at held = node_is_sound h n node at

-- What the inode of an open file says of it.
--     IsFile, open_file        it isn't a directory, and the inode holds its bytes
--     open_directory, open_names, has_names, open_parent        it is a directory, with its names and its parent
--     no_directory, a_directory        what was checked of its kind
use Rattle.call_parts.specs.BothTables.{Tables}
use Rattle.call_parts.specs.declared.reaching.OpenAt.{OpenAt}
use Rattle.std.specs.Prelude.{◌≡◌, ◌≢◌, ℕ, List, true, not, IsFalse, Ok}
use Rattle.std.proofs.Common.{refl, sym, ap, subst, ◌∙◌}
use Rattle.fs_layout.specs.declared.inode.Inode.{Inode}
use Rattle.fs_cred.specs.declared.errno.Errno.TheVariants.{EISDIR, ENOTDIR}
use Rattle.fs_layout.specs.declared.inode.Kind.{Kind}
use Rattle.fs_layout.specs.declared.inode.Kind.TheVariants as kinds
use Rattle.fs_layout.specs.declared.geometry.Geometry.{Geometry}
use Rattle.fs_layout.specs.declared.version.Version.{Version}
use Rattle.fs_layout.specs.Bytes.{SectorMap}
use Rattle.fs_layout.specs.Images.{inode_at, Holds}
use Rattle.fs_model.specs.Demands.{refuse}
use Rattle.fs_model.specs.Nodes.{Node, Body, File, Dir, Link, is_directory, is_link, names_of_body, bytes_in}
use Rattle.fs_model.specs.Processes.{Descriptor}
use Rattle.fs_model.specs.Rules.{is_directory_kind}
use Rattle.fs_model.specs.Scenes.{node_open}
use Rattle.fs_model.specs.States.{State}
use Rattle.fs_model.specs.Trees.{parent, IsDirectoryAt}
use Rattle.fs_layout.specs.Directories.{HasNames}
use Rattle.fs_model.specs.StoredNodes.{HoldsBody}
use Rattle.call_parts.specs.Performing.{IsStateOf}
use Rattle.call_parts.proofs.Calling.{state_tree}
use Rattle.path_walk.proofs.HeldNodes.{held_node, held_kind, held_names, held_parent}
use Rattle.call_parts.specs.Reaching.{fd_of, IsOpened}
use Rattle.call_parts.specs.Telling.{checked}
use Rattle.call_parts.proofs.ByDescriptor.{open_scene, open_fits, open_node}

pub no_directory : (k : Kind) → Ok tt ≡ checked (refuse EISDIR (is_directory_kind k)) → k ≢ kinds.Directory
no_directory kinds.Directory e = absurd (cc)
no_directory kinds.Free e = λ is. absurd (cc)
no_directory kinds.File e = λ is. absurd (cc)
no_directory kinds.Link e = λ is. absurd (cc)

pub a_directory : (k : Kind) → Ok tt ≡ checked (refuse ENOTDIR (not (is_directory_kind k))) → k ≡ kinds.Directory
a_directory kinds.Directory e = refl
a_directory kinds.Free e = absurd (cc)
a_directory kinds.File e = absurd (cc)
a_directory kinds.Link e = absurd (cc)

pub record IsFile (map : SectorMap) (v : Inode) (b : Body) : Type 0 where
  pub no_directory : IsFalse (is_directory b)
  pub holds : Holds map v (bytes_in b)

file_held : (version : Version) (map : SectorMap) (v : Inode) (b : Body) → HoldsBody version map v b → IsFalse (is_link b) → v.kind ≢ kinds.Directory → IsFile map v b
file_held version map v (File a bytes) h no_link no_directory = record { no_directory = refl; holds = h.holds }
file_held version map v (Dir a d) h no_link no_directory = absurd (no_directory h.names.kind)
file_held version map v (Link target) h no_link no_directory = absurd (cc)

module _ {p : Geometry} {map : SectorMap} {tables : Tables} {place : OpenAt} {d : Descriptor} (o : IsOpened tables place d) (s : State) (at : IsStateOf p map tables s) where
  pub open_file : (v : Inode) → v ≡ inode_at p map d.ino → v.kind ≢ kinds.Directory → IsFile map v (node_open (open_scene s o.process) (fd_of place)).body
  open_file v is no_directory =
      let x = open_fits o s at in
      let held = subst (λ (w : Inode). HoldsBody p.version map w x.node.body) (sym is) (held_node (state_tree at) d.ino x.node x.is_there).body in
      subst (λ (n : Node). IsFile map v n.body) (sym (open_node o s at)) (file_held p.version map v x.node.body held x.no_link no_directory)

  pub open_directory : (inode_at p map d.ino).kind ≡ kinds.Directory → is_directory (node_open (open_scene s o.process) (fd_of place)).body ≡ true
  open_directory is =
      let x = open_fits o s at in
      ap (λ (n : Node). is_directory n.body) (open_node o s at) ∙ sym (held_kind (state_tree at) d.ino x.node x.is_there) ∙ ap is_directory_kind is

  abbrev the_directory : (inode_at p map d.ino).kind ≡ kinds.Directory → IsDirectoryAt s.tree d.ino
  the_directory is =
      let x = open_fits o s at in
      record {
        node = x.node;
        is_there = x.is_there;
        directory = sym (held_kind (state_tree at) d.ino x.node x.is_there) ∙ ap is_directory_kind is;
      }

  -- the names and the parent of a directory that is open
  pub open_names : (v : Inode) → v ≡ inode_at p map d.ino → v.kind ≡ kinds.Directory → HasNames p.version map v (names_of_body (node_open (open_scene s o.process) (fd_of place)).body)
  open_names v is directory =
      let here = held_names (state_tree at) d.ino (the_directory (sym (ap (λ (w : Inode). w.kind) is) ∙ directory)) in
      subst (λ (n : Node). HasNames p.version map v (names_of_body n.body)) (sym (open_node o s at))
      (subst (λ (w : Inode). HasNames p.version map w (names_of_body (open_fits o s at).node.body)) (sym is) here)

  pub open_parent : (v : Inode) → v ≡ inode_at p map d.ino → v.kind ≡ kinds.Directory → v.parent ≡ parent s.tree d.ino
  open_parent v is directory =
      ap (λ (w : Inode). w.parent) is
      ∙ held_parent (state_tree at) d.ino (the_directory (sym (ap (λ (w : Inode). w.kind) is) ∙ directory))

  pub has_names : (v : Inode) → v ≡ inode_at p map d.ino → v.kind ≡ kinds.Directory → (names : List (List ℕ × ℕ)) × HasNames p.version map v names
  has_names v is directory = (names_of_body (node_open (open_scene s o.process) (fd_of place)).body, open_names v is directory)

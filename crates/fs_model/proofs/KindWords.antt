-- An object has one kind, in whichever words.
use Rattle.std.specs.Prelude.{◌≡◌, Some, option_map}
use Rattle.std.proofs.Common.{refl}
use Rattle.fs_layout.specs.declared.inode.Inode.{Inode}
use Rattle.fs_layout.specs.declared.version.Version.{Version}
use Rattle.fs_layout.specs.Bytes.{SectorMap}
use Rattle.fs_model.specs.declared.reply.FileType.{FileType}
use Rattle.fs_model.specs.declared.reply.FileType.TheVariants as types
use Rattle.fs_model.specs.Nodes.{Node, Body, File, Dir, Link, type_of, accessed, accessed_body}
use Rattle.fs_model.specs.StoredNodes.{Placed, HoldsBody, HoldsNode}
use Rattle.fs_model.specs.Kinds.{kind_of_type, type_of_kind, access_kind}

pub types_come_back : (t : FileType) → type_of_kind (kind_of_type t) ≡ Some t
types_come_back types.File = refl
types_come_back types.Directory = refl
types_come_back types.Link = refl

pub stored_kinds_agree : (version : Version) (image : SectorMap) (v : Inode) (x : Placed) → HoldsNode version image v x
    → v.kind ≡ kind_of_type (type_of x.node.body)
stored_kinds_agree version image v x holds = go x.node.body holds.body
  where
    go : (b : Body) → HoldsBody version image v b → v.kind ≡ kind_of_type (type_of b)
    go (File a bytes) h = h.kind
    go (Dir a d) h = h.names.kind
    go (Link target) h = h.kind

pub access_kinds_agree : (node : Node) → option_map (λ n. n.kind) (accessed node) ≡ access_kind (type_of node.body)
access_kinds_agree node = go node.body
  where
    go : (b : Body) → option_map (λ n. n.kind) (accessed_body node.owner node.group b) ≡ access_kind (type_of b)
    go (File a bytes) = refl
    go (Dir a d) = refl
    go (Link target) = refl

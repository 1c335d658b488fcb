-- An inode that holds a node.
use Rattle.fs_model.specs.StoredStamps.{stamps_in}
use Rattle.std.specs.Prelude.{◌≡◌}
use Rattle.fs_layout.specs.declared.inode.Inode.{Inode}
use Rattle.fs_layout.specs.declared.version.Version.{Version}
use Rattle.fs_layout.specs.Bytes.{SectorMap}
use Rattle.fs_model.specs.Nodes.{shown_mode}
use Rattle.fs_model.specs.StoredNodes.{Placed, HoldsBody, HoldsNode, names_field, parent_field}

pub node_held : (version : Version) (image : SectorMap) (v : Inode) (x : Placed) → v.uid ≡ x.node.owner → v.gid ≡ x.node.group → v.mode ≡ shown_mode x.node.body
    → v.names ≡ names_field x.node.body x.names → v.parent ≡ parent_field x.node.body x.parent → stamps_in v ≡ x.node.stamps
    → HoldsBody version image v x.node.body → HoldsNode version image v x
node_held version image v x owner group mode names parent stamps body =
    record { owner = owner; group = group; mode = mode; names = names; parent = parent; stamps = stamps; body = body }

-- The type of what stands at a number, as its inode says it.
--     type_held, type_past        of the table, and past it
use Rattle.std.specs.Prelude.{◌≡◌, ℕ, ◌<◌, ◌≤◌, Option, None, Some}
use Rattle.std.proofs.Common.{refl, ap, subst, ◌∙◌, arith}
use Rattle.std.specs.Option.{option_map}
use Rattle.fs_layout.specs.declared.inode.Inode.{Inode}
use Rattle.fs_layout.specs.declared.geometry.Geometry.{Geometry}
use Rattle.fs_layout.specs.Bytes.{SectorMap}
use Rattle.fs_layout.specs.Images.{inode_at}
use Rattle.fs_model.specs.Kinds.{type_of_kind}
use Rattle.fs_model.specs.Nodes.{Node, type_of}
use Rattle.fs_model.specs.Stands.{HoldsPlaced}
use Rattle.fs_model.specs.Trees.{Tree, node_at, names_of, parent}
use Rattle.fs_model.proofs.KindWords.{types_come_back, stored_kinds_agree}
use Rattle.path_walk.specs.HeldTrees.{HoldsTree}
use Rattle.path_walk.proofs.HeldNodes.{number_below, is_there, held_node}
use Rattle.call_parts.specs.Types.{type_in}

module _ {p : Geometry} {map : SectorMap} {t : Tree} (h : HoldsTree p map t) (n : ℕ) where
  -- of the table
  pub type_held : n < p.inodes → type_of_kind (inode_at p map n).kind ≡ type_in t n
  type_held below = go (node_at t n) refl
    where
      go : (o : Option Node) → node_at t n ≡ o → type_of_kind (inode_at p map n).kind ≡ option_map (λ (node : Node). type_of node.body) o
      go None at =
          let free = subst (λ (o : Option Node). HoldsPlaced p map n (option_map (λ m. record { node = m; names = names_of t n; parent = parent t n }) o)) at (h.holds.nodes n below) in
          ap (λ (v : Inode). type_of_kind v.kind) free
      go (Some node) at =
          ap type_of_kind (stored_kinds_agree p.version map (inode_at p map n) (record { node = node; names = names_of t n; parent = parent t n }) (held_node h n node at))
          ∙ types_come_back (type_of node.body)

  -- past it nothing stands
  pub type_past : p.inodes ≤ n → None ≡ type_in t n
  type_past past = go (node_at t n) refl
    where
      go : (o : Option Node) → node_at t n ≡ o → None ≡ option_map (λ (node : Node). type_of node.body) o
      go None at = refl
      go (Some node) at = absurd (let below = number_below h n (is_there t n node at) in omega (arith, below, past))

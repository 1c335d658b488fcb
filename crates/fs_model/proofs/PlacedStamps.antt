-- What an image holds after the times of one inode have moved.
use Rattle.std.specs.Prelude.{◌≡◌, ◌≢◌, ℕ, ◌<◌, cond, Option, None, Some}
use Rattle.std.proofs.Common.{refl, sym, ap, ◌∙◌}
use Rattle.std.proofs.lemmas.Bool.{eq-eqb, ne_eqb}
use Rattle.std.specs.Option.{option_map}
use Rattle.fs_layout.specs.declared.geometry.Geometry.{Geometry}
use Rattle.fs_layout.specs.Bytes.{SectorMap}
use Rattle.fs_layout.specs.Images.{bit, inode_at}
use Rattle.fs_layout.specs.InodeChanges.{ChangesInode}
use Rattle.fs_model.specs.declared.touch.Touch.{Touch}
use Rattle.fs_model.specs.Nodes.{Node}
use Rattle.fs_model.specs.Trees.{Tree, node_at, names_of, parent}
use Rattle.fs_model.specs.TreeChanges.{touch_at, touch_one, restamp, restamped}
use Rattle.fs_model.specs.StoredNodes.{Placed, HoldsNode}
use Rattle.fs_model.specs.Stands.{HoldsAll, placed}
use Rattle.fs_model.proofs.PlacedNodes.{same_placed, placing, placed_once, one_replaced, placed_from}
use Rattle.fs_model.proofs.Restamps.{node_at-restamped, names_of-restamped, parent-restamped, stands}

-- the node that stands at the number that is touched, with the times that it has then
module _ (now n : ℕ) (touch : Touch) (u : Tree) (node : Node) (at : node_at u n ≡ Some node) where
  abbrev pub node_touched : Node
  node_touched = record node { stamps = touch_at now touch node.stamps }

  abbrev moves : ℕ → Node → Node
  moves = restamp (touch_one now (n, touch))

  abbrev next : Tree
  next = restamped (touch_one now (n, touch)) u

  there : placed next n ≡ Some (record { node = node_touched; names = names_of u n; parent = parent u n })
  there =
      placed_from next n (Some (moves n node)) _ _ (stands (touch_one now (n, touch)) u n node at)
      (names_of-restamped (touch_one now (n, touch)) u n) (parent-restamped (touch_one now (n, touch)) u n)
      ∙ ap (λ b. Some (record { node = record node { stamps = cond b (touch_at now touch node.stamps) node.stamps }; names = names_of u n; parent = parent u n })) (eq-eqb n n refl)

  others : (m : ℕ) → m ≢ n → placed next m ≡ placed u m
  others m ne = go (node_at u m) refl
    where
      go : (o : Option Node) → node_at u m ≡ o → placed next m ≡ placed u m
      go o e =
          placed_from next m (option_map (moves m) o) _ _
          (node_at-restamped (touch_one now (n, touch)) u m ∙ ap (option_map (moves m)) e) (names_of-restamped (touch_one now (n, touch)) u m) (parent-restamped (touch_one now (n, touch)) u m)
          ∙ same o
          ∙ sym (placed_from u m o _ _ e refl refl)
        where
          same : (o : Option Node) → option_map {U = Placed} (λ node. record { node = node; names = names_of u m; parent = parent u m }) (option_map (moves m) o)
              ≡ option_map {U = Placed} (λ node. record { node = node; names = names_of u m; parent = parent u m }) o
          same None = refl
          same (Some v) = ap (λ b. Some (record { node = record v { stamps = cond b (touch_at now touch v.stamps) v.stamps }; names = names_of u m; parent = parent u m })) (ne_eqb m n ne)

  -- the image, after inode n alone was saved with these times
  pub touched_held : (p : Geometry) (old new : SectorMap) → HoldsAll p old (placed u) → n < p.inodes → ChangesInode p n old new
      → bit new p.inode_bitmap n ≡ bit old p.inode_bitmap n
      → HoldsNode p.version new (inode_at p new n) (record { node = node_touched; names = names_of u n; parent = parent u n })
      → HoldsAll p new (placed next)
  touched_held p old new held below changes used here =
      same_placed p new (placing n (Some (record { node = node_touched; names = names_of u n; parent = parent u n })) (placed u)) (placed next)
      (one_replaced p n old new (placed u) held below changes _ _ (placed_from u n (Some node) _ _ at refl refl) here used)
      (placed_once (placed u) (placed next) n _ there others)

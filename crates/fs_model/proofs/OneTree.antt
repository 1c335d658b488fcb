-- An image stands for at most one tree and count.
use Rattle.std.specs.Prelude.{◌≡◌, ℕ, ◌≤◌, Option, None, Some, MatchOption}
use Rattle.std.proofs.Common.{refl, sym, ap, arith, ◌∙◌, subst, inl, inr}
use Rattle.std.specs.Option.{option_map}
use Rattle.std.proofs.lemmas.Bool.{cases_lt}
use Rattle.fs_layout.specs.declared.geometry.Geometry.{Geometry}
use Rattle.fs_layout.specs.declared.inode.Inode.{Inode}
use Rattle.fs_layout.specs.declared.version.Version.{Version}
use Rattle.fs_layout.specs.Bytes.{SectorMap}
use Rattle.fs_layout.specs.Inode.{free_inode}
use Rattle.fs_layout.specs.Images.{inode_at, free_sectors}
use Rattle.fs_layout.specs.Geometry.{geometry_in}
use Rattle.fs_layout.specs.Recovered.{recovered}
use Rattle.fs_layout.specs.Superblock.{FitsSuper, super_bytes, super_of}
use Rattle.fs_layout.proofs.SuperLaw.{super_codec}
use Rattle.fs_layout.proofs.Codecs.{same_spelling}
use Rattle.fs_model.specs.Nodes.{Node}
use Rattle.fs_model.specs.Trees.{Tree, Room, node_at, names_of, parent, IsTree}
use Rattle.fs_model.specs.StoredNodes.{Placed, HoldsNode}
use Rattle.fs_model.specs.Stands.{HoldsAll, placed, room_of, Stands}
use Rattle.fs_model.specs.Laws.{AreSame}
use Rattle.fs_layout.proofs.MapLaws.{same_map}
use Rattle.fs_model.proofs.OneNode.{node_same, body_not_free}

abbrev placed_at : Tree → ℕ → Node → Placed
placed_at t n node = record { node = node; names = names_of t n; parent = parent t n }

-- what an inode holds is there in both trees, or in none
option_same : (version : Version) (image : SectorMap) (v : Inode) (f g : Node → Placed) (x y : Option Node) → ((n : Node) → (f n).node ≡ n)
    → ((n : Node) → (g n).node ≡ n)
    → MatchOption (option_map f x) (v ≡ free_inode) (λ z. HoldsNode version image v z)
    → MatchOption (option_map g y) (v ≡ free_inode) (λ z. HoldsNode version image v z) → x ≡ y
option_same version image v f g None None ff gg h k = refl
option_same version image v f g None (Some y) ff gg h k = absurd (body_not_free version image v (g y).node.body k.body (ap (λ w. w.kind) h))
option_same version image v f g (Some x) None ff gg h k = absurd (body_not_free version image v (f x).node.body h.body (ap (λ w. w.kind) k))
option_same version image v f g (Some x) (Some y) ff gg h k = ap (λ z. Some z) (sym (ff x) ∙ node_same version image v (f x) (g y) h k ∙ gg y)

-- past the inode count there is nothing
past : (room : Room) (t : Tree) (n : ℕ) → IsTree room t → room.inodes ≤ n → (o : Option Node) → node_at t n ≡ o → node_at t n ≡ None
past room t n is ge None e = e
past room t n is ge (Some node) e = absurd (let b = (is.each n node e).below in omega (arith, b, ge))

at_same : (p : Geometry) (image : SectorMap) (t u : Tree) → HoldsAll p image (placed t) → HoldsAll p image (placed u)
    → IsTree (room_of p) t → IsTree (room_of p) u → (n : ℕ) → node_at t n ≡ node_at u n
at_same p image t u h k it iu n =
    elim (cases_lt n p.inodes) [
      | inl lt ↦ option_same p.version image (inode_at p image n) (placed_at t n) (placed_at u n) (node_at t n) (node_at u n) (λ m. refl) (λ m. refl) (h.nodes n lt) (k.nodes n lt)
      | inr ge ↦ past (room_of p) t n it ge (node_at t n) refl ∙ sym (past (room_of p) u n iu ge (node_at u n) refl)
    ]

-- a map holds at most one tree
pub held_once : (p : Geometry) (image : SectorMap) (t u : Tree) → HoldsAll p image (placed t) → HoldsAll p image (placed u)
    → IsTree (room_of p) t → IsTree (room_of p) u → t ≡ u
held_once p image t u h k it iu = same_map t u it.numbers iu.numbers (at_same p image t u h k it iu)

some_same : (p q : Geometry) (x y : Option Geometry) → x ≡ Some p → y ≡ Some q → x ≡ y → p ≡ q
some_same p q x y e f g = cc

pub one_tree : (sectors : ℕ) (image : SectorMap) (room room' : Room) (t t' : Tree) (free free' : ℕ)
    → Stands sectors image room t free → Stands sectors image room' t' free' → AreSame room room' t t' free free'
one_tree sectors image room room' t t' free free' x y =
    let super : x.super ≡ y.super = same_spelling 512 FitsSuper super_bytes super_of super_codec x.super y.super x.super_fits y.super_fits (sym x.super_is ∙ y.super_is) in
    let geometry : x.geometry ≡ y.geometry = some_same x.geometry y.geometry _ _ x.has_geometry y.has_geometry (ap (λ s. geometry_in s.version s.header sectors s.inodes) super) in
    let now : SectorMap = recovered sectors image in
    let held : HoldsAll y.geometry now (placed t) = subst (λ p. HoldsAll p now (placed t)) geometry x.holds in
    let first : IsTree (room_of y.geometry) t = subst (λ r. IsTree r t) (x.room_is ∙ ap room_of geometry) x.tree_is in
    let second : IsTree (room_of y.geometry) t' = subst (λ r. IsTree r t') y.room_is y.tree_is in
    record {
      rooms = x.room_is ∙ ap room_of geometry ∙ sym y.room_is;
      trees = held_once y.geometry now t t' held y.holds first second;
      counts = x.free_is ∙ ap (λ p. free_sectors p now) geometry ∙ sym y.free_is;
    }

-- One inode changes, and all others hold what they held.
use Rattle.std.specs.Prelude.{◌≡◌, ◌≢◌, ℕ, ◌<◌, nat_eq, nat_le, ◌||◌, Option, Some, is_some, cond}
use Rattle.std.proofs.Common.{refl, sym, ap, ◌∙◌, subst, inl, inr, arith}
use Rattle.std.proofs.lemmas.Bool.{cases_eq}
use Rattle.std.specs.Option.{option_map}
use Rattle.std.specs.Ordering.{nat_cmp}
use Rattle.fs_layout.specs.declared.inode.Inode.{Inode}
use Rattle.fs_layout.specs.declared.geometry.Geometry.{Geometry}
use Rattle.fs_layout.specs.Bytes.{SectorMap}
use Rattle.fs_layout.specs.Inode.{FitsInode}
use Rattle.fs_layout.specs.Images.{inode_map_bits, bit, inode_at}
use Rattle.fs_layout.specs.Ownership.{Agrees}
use Rattle.fs_layout.specs.InodeChanges.{ChangesBlocks, ChangesInode, Saves}
use Rattle.fs_layout.proofs.Agree.{agree_consistent, agree_inode, agree_inode_bit, agree_keeps}
use Rattle.fs_layout.proofs.Consistent.{stays_consistent, other_inode, other_keeps, saved_stays_consistent}
use Rattle.fs_layout.specs.Maps.{IsMap}
use Rattle.fs_model.specs.Nodes.{Node, names_of_body}
use Rattle.fs_model.specs.Trees.{Tree, node_at, with_node, names_of, parent}
use Rattle.fs_model.specs.StoredNodes.{Placed, HoldsNode}
use Rattle.fs_model.specs.Stands.{HoldsPlaced, HoldsAll, placed}
use Rattle.fs_model.specs.Laws.{OneIsPlaced}
use Rattle.fs_layout.proofs.FirstEntries.{apart}
use Rattle.fs_layout.proofs.MapLaws.{get-with_entry}
use Rattle.fs_model.proofs.Rewrites.{names_of-rewritten, parent-rewritten}
use Rattle.fs_model.proofs.Kept.{node_kept, placed_kept}

pub one_node_changes : (p : Geometry) (n : ℕ) (old new : SectorMap) (what then : ℕ → Option Placed) → HoldsAll p old what
    → ChangesInode p n old new → OneIsPlaced p n new what then → HoldsAll p new then
one_node_changes p n old new what then h c is = record {
  consistent = stays_consistent h.consistent is.below c;
  nodes = λ m lm. elim (cases_eq m n) [
    | inl e ↦ subst (λ k. HoldsPlaced p new k (then k)) (sym e) is.here
    | inr ne ↦ subst (HoldsPlaced p new m) (sym (is.others m ne))
        (placed_kept p.version (what m) old new (inode_at p old m) (inode_at p new m) (other_inode h.consistent is.below c m lm ne) (other_keeps h.consistent is.below c m lm ne) (h.nodes m lm))
  ];
  inode_bits = λ m few. elim (cases_eq m n) [
    | inl e ↦ subst (λ k. bit new p.inode_bitmap k ≡ (nat_eq k 0 || nat_le p.inodes k || is_some (then k))) (sym e) is.marked
    | inr ne ↦ c.inode_bits m few ne ∙ h.inode_bits m few ∙ ap (λ o. nat_eq m 0 || nat_le p.inodes m || is_some o) (sym (is.others m ne))
  ];
}

-- What is held rests on the tables and on the data sectors that are used.
pub agreed : (p : Geometry) (old new : SectorMap) (what : ℕ → Option Placed) → HoldsAll p old what → Agrees p old new → HoldsAll p new what
agreed p old new what h same = record {
  consistent = agree_consistent h.consistent same;
  nodes = λ n lt. placed_kept p.version (what n) old new (inode_at p old n) (inode_at p new n) (agree_inode h.consistent same n lt) (agree_keeps h.consistent same n lt) (h.nodes n lt);
  inode_bits = λ n few. agree_inode_bit h.consistent same n few ∙ h.inode_bits n few;
}

-- Inode n changes its blocks, is saved as w, and holds node y then, where it held a node before: all else stands.
pub saved_node : (p : Geometry) (n : ℕ) (old mid new : SectorMap) (what then : ℕ → Option Placed) (w : Inode) (x y : Placed)
    → HoldsAll p old what → n < p.inodes → what n ≡ Some x → then n ≡ Some y → ((m : ℕ) → m ≢ n → then m ≡ what m)
    → ChangesBlocks p (inode_at p old n) w old mid → HoldsNode p.version mid w y → FitsInode w → Saves p n w mid new → HoldsAll p new then
saved_node p n old mid new what then w x y h lt was now others blocks holds fits saves =
    let saved = (saved_stays_consistent h.consistent lt refl fits blocks saves).1 in
    let here : HoldsNode p.version new (inode_at p new n) y =
    subst (λ u. HoldsNode p.version new u y) (sym saved.is) (node_kept p.version mid new w y saved.keeps holds) in
    let few : n < inode_map_bits p = let bits = h.consistent.geometry.inode_bits in omega (arith, lt, bits) in
    let both : is_some (what n) ≡ is_some (then n) = ap is_some was ∙ sym (ap is_some now) in
    one_node_changes p n old new what then h saved.changes (record {
      below = lt;
      here = subst (HoldsPlaced p new n) (sym now) here;
      marked = saved.inode_bits n few ∙ h.inode_bits n few ∙ ap (λ b. nat_eq n 0 || nat_le p.inodes n || b) both;
      others = others;
    })

-- A node of a tree is rewritten, its names staying: each other number is to hold what it held.
pub placed_elsewhere : (t : Tree) (n : ℕ) (old new : Node) → IsMap nat_cmp t → node_at t n ≡ Some old → names_of_body new.body ≡ names_of_body old.body
    → (m : ℕ) → m ≢ n → placed (with_node t n new) m ≡ placed t m
placed_elsewhere t n old new sorted was names m ne =
    let at : node_at (with_node t n new) m ≡ node_at t m = get-with_entry t n new m ∙ ap (λ b. cond b (Some new) (node_at t m)) (apart m n ne) in
    let count = names_of-rewritten t n old new sorted was names m in
    let up = parent-rewritten t n old new sorted was names m in
    ap (λ o. option_map (λ node. record { node = node; names = names_of (with_node t n new) m; parent = parent (with_node t n new) m }) o) at
    ∙ ap (λ k. option_map (λ node. record { node = node; names = k; parent = parent (with_node t n new) m }) (node_at t m)) count
    ∙ ap (λ k. option_map (λ node. record { node = node; names = names_of t m; parent = k }) (node_at t m)) up

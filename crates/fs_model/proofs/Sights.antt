-- Who sees what: two with the same credential and as much open for reading see the same, whichever the descriptors' numbers are.
use Rattle.std.specs.Prelude.{◌≡◌, ℕ, ◌+◌, ◌==◌, true, false, ◌||◌, cond, if◌then◌else◌, List, [], ◌∷◌, map, Option, None, Some}
use Rattle.std.proofs.Common.{refl, sym, ap, ◌∙◌, arith}
use Rattle.std.proofs.lemmas.Bool.Decides.{nat_tests}
use Rattle.std.specs.Cmp.{nat_cmp_is}
use Rattle.std.specs.declared.cmp.Ordering.TheVariants.{Less}
use Rattle.std.specs.Ordering.{nat_cmp}
use Rattle.std.specs.FinMap.Entries.{by_order}
use Rattle.fs_cred.specs.declared.node.Node.{Node as AccessNode}
use Rattle.fs_cred.specs.Verdicts.{verdict}
use Rattle.fs_layout.specs.Maps.{with_entry}
use Rattle.fs_model.specs.Nodes.{Node, accessed}
use Rattle.fs_model.specs.Trees.{Tree}
use Rattle.fs_model.specs.Processes.{Process, Descriptor, least_unused}
use Rattle.fs_model.specs.States.{State}
use Rattle.fs_model.specs.Demands.{perms}
use Rattle.fs_model.specs.Alike.{may_read, sees_into, node_seen, tree_seen, seen_by, blotted}
use Rattle.fs_model.proofs.SeenTrees.{tree_seen-less, sees_no_more}
use Rattle.fs_model.proofs.ConfinedReads.{is_for, any, less_by}
use Rattle.fs_model.proofs.EachActorCall.{TakesZero}

-- ---- the same, or less

module _ (p q : Process) (same : p.cred ≡ q.cred) where
  may_read-same : (o : Option AccessNode) → may_read p o ≡ may_read q o
  may_read-same None = refl
  may_read-same (Some node) = ap (λ cred. (verdict cred node (perms true false false)).yes) same

  module _ (has : (n : ℕ) → any (is_for n) p.descriptors ≡ any (is_for n) q.descriptors) where
    sees-same : (n : ℕ) (node : Node) → sees_into p n node ≡ sees_into q n node
    sees-same n node =
        ap (λ cred. node.owner == cred.uid || may_read p (accessed node) || any (is_for n) p.descriptors) same
        ∙ ap (λ b. node.owner == q.cred.uid || b || any (is_for n) p.descriptors) (may_read-same (accessed node))
        ∙ ap (λ b. node.owner == q.cred.uid || may_read q (accessed node) || b) (has n)

    tree-same : (t : Tree) → tree_seen p t ≡ tree_seen q t
    tree-same [] = refl
    tree-same (e ∷ t) =
        ap (λ b. (e.0, if b then e.1 else record e.1 { body = blotted e.1.body }) ∷ tree_seen p t) (sees-same e.0 e.1)
        ∙ ap (λ u. (e.0, node_seen q e.0 e.1) ∷ u) (tree-same t)

    pub seen-same : (u : State) → seen_by (Some p) u ≡ seen_by (Some q) u
    seen-same u = ap {A = Tree} {B = State} (λ t. record u { tree = t }) (tree-same u.tree)

  -- with less open less is seen
  pub seen-less : ((n : ℕ) → any (is_for n) q.descriptors ≡ true → any (is_for n) p.descriptors ≡ true)
      → (s t : State) → seen_by (Some p) s ≡ seen_by (Some p) t → seen_by (Some q) s ≡ seen_by (Some q) t
  seen-less less s t alike = sym (again s) ∙ ap (seen_by (Some q)) alike ∙ again t
    where
      sees : (n : ℕ) (node : Node) → sees_into q n node ≡ true → sees_into p n node ≡ true
      sees n node h =
          less_by (node.owner == p.cred.uid) (may_read p (accessed node)) (any (is_for n) q.descriptors) (any (is_for n) p.descriptors) (less n)
          (ap (λ cred. node.owner == cred.uid || may_read p (accessed node) || any (is_for n) q.descriptors) same
          ∙ ap (λ b. node.owner == q.cred.uid || b || any (is_for n) q.descriptors) (may_read-same (accessed node)) ∙ h)

      again : (u : State) → seen_by (Some q) (seen_by (Some p) u) ≡ seen_by (Some q) u
      again u = ap {A = Tree} {B = State} (λ t. record u { tree = t }) (tree_seen-less p q u.tree (sees_no_more p q sees u.tree))

-- ---- with descriptor 0 free

abbrev pub shifted : List (ℕ × Descriptor) → List (ℕ × Descriptor)
shifted ds = map (λ e. (e.0 + 1, e.1)) ds

pub any-shifted : (n : ℕ) (ds : List (ℕ × Descriptor)) → any (is_for n) (shifted ds) ≡ any (is_for n) ds
any-shifted n [] = refl
any-shifted n (e ∷ ds) = ap (λ b. is_for n e.1 || b) (any-shifted n ds)

pub takes_zero : (ds : List (ℕ × Descriptor)) → TakesZero (shifted ds)
takes_zero [] d = refl
takes_zero (e ∷ ds) d =
    let later : (e.0 + 1 == 0) ≡ false = grind (arith, nat_tests) in
    ap (λ b. with_entry nat_cmp (shifted (e ∷ ds)) (cond b (least_unused 1 (shifted ds)) 0) d) later
    ∙ ap (λ o. by_order o ((0, d) ∷ shifted (e ∷ ds)) ((e.0 + 1, d) ∷ shifted ds) ((e.0 + 1, e.1) ∷ with_entry nat_cmp (shifted ds) 0 d))
    (sym (nat_cmp_is 0 (e.0 + 1) Less (omega arith)))

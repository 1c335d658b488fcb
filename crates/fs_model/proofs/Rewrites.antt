-- A node that is rewritten, its kind and names staying.
use Rattle.std.specs.Prelude.{◌≡◌, ℕ, ◌<◌, ◌==◌, nat_lt, Bool, true, false, cond, [], ◌∷◌, Option, None, Some, is_some, count_by, if◌then◌else◌}
use Rattle.std.proofs.Common.{refl, sym, ap, arith, ◌∙◌, subst}
use Rattle.std.specs.declared.cmp.Ordering.{Ordering}
use Rattle.std.specs.declared.cmp.Ordering.TheVariants.{Less, Equal, Greater}
use Rattle.std.specs.Ordering.{nat_cmp, is_eq, is_lt}
use Rattle.std.specs.FinMap.Entries.{by_order}
use Rattle.fs_model.specs.Limits.{root}
use Rattle.fs_layout.specs.Maps.{get, IsMap}
use Rattle.fs_model.specs.Nodes.{Node, Body, names_of_body, is_directory}
use Rattle.fs_model.specs.Trees.{Tree, Room, node_at, with_node, names_for, names_of, parent, IsBody, NamesFit, IsUnderRoot, is_root, is_in, IsNode, IsTree, IsDirectoryAt}
use Rattle.fs_layout.proofs.FirstEntries.{above, left, right, lower, tied}
use Rattle.fs_layout.proofs.MapLaws.{get-with_entry, with_entry-IsMap, sum-with_entry, summand}
use Rattle.fs_layout.proofs.NameMaps.{leading}
use Rattle.fs_model.proofs.Moves.{body_moves, FitsRoom, fits_room, node_from}
use Rattle.fs_model.proofs.StepsParents.{names_or, names_at}

-- both bodies have as many names for d, for each d
module _ (t : Tree) (k : ℕ) (old new : Node) (m : IsMap nat_cmp t) (was : node_at t k ≡ Some old) (names : names_of_body new.body ≡ names_of_body old.body) where
  pub names_of-rewritten : (d : ℕ) → names_of (with_node t k new) d ≡ names_of t d
  names_of-rewritten d =
      let f : ℕ × Node → ℕ = λ e. names_for d e.1.body in
      let same : f (k, new) ≡ f (k, old) = ap (λ ns. count_by (λ e. e.1 == d) ns) names in
      let is : summand f k (get nat_cmp t k) ≡ f (k, old) = ap (summand f k) was in
      omega (arith, sum-with_entry f t k new m, same, is)

  at-rewritten : (q : ℕ) (b : Bool) → is_eq (nat_cmp q k) ≡ b → is_some (cond b (Some new) (node_at t q)) ≡ is_some (node_at t q)
  at-rewritten q true e = ap is_some (sym was ∙ ap (node_at t) (sym (tied q k e)))
  at-rewritten q false e = refl

  -- both trees have the same numbers
  pub there-rewritten : (q : ℕ) → is_some (node_at (with_node t k new) q) ≡ is_some (node_at t q)
  there-rewritten q = ap is_some (get-with_entry t k new q) ∙ at-rewritten q _ refl

-- where the new node names d as often as what stood there, if anything, d is named by the same directory
pub parent-with_node : (t : Tree) (k : ℕ) (new : Node) → IsMap nat_cmp t → (d : ℕ) → names_for d new.body ≡ leading d (names_at t k)
    → parent (with_node t k new) d ≡ parent t d
parent-with_node [] k new m d same = ap (λ c. if nat_lt 0 c then k else root) same
parent-with_node (e ∷ t) k new m d same =
    go (nat_cmp k e.0) refl (get nat_cmp t k) refl same (parent-with_node t k new (right _ _ m) d)
  where
    go : (o : Ordering) → nat_cmp k e.0 ≡ o → (x : Option Node) → get nat_cmp t k ≡ x → names_for d new.body ≡ leading d (names_or (cond (is_eq o) (Some e.1) x))
        → (names_for d new.body ≡ leading d (names_at t k) → parent (with_node t k new) d ≡ parent t d)
        → parent (by_order o ((k, new) ∷ e ∷ t) ((e.0, new) ∷ t) (e ∷ with_node t k new)) d ≡ parent (e ∷ t) d
    go Less c None at same ih = ap (λ q. if nat_lt 0 q then k else parent (e ∷ t) d) same
    go Less c (Some v) at same ih = absurd (let low : e.0 < k = above e.0 t (left _ _ m) k v at in let less : k < e.0 = lower k e.0 (ap is_lt c) in omega arith)
    go Equal c x at same ih = ap (λ q. if nat_lt 0 q then e.0 else parent t d) same
    go Greater c x at same ih = ap (λ p. if nat_lt 0 (names_for d e.1.body) then e.0 else p) (ih (same ∙ ap (λ o. leading d (names_or o)) (sym at)))

pub parent-rewritten : (t : Tree) (k : ℕ) (old new : Node) → IsMap nat_cmp t → node_at t k ≡ Some old → names_of_body new.body ≡ names_of_body old.body → (d : ℕ) → parent (with_node t k new) d ≡ parent t d
parent-rewritten t k old new m was names d =
    parent-with_node t k new m d (ap (leading d) names ∙ sym (ap (λ o. leading d (names_or o)) was))

-- from the root's side
pub under : (t u : Tree) → ((d : ℕ) → parent u d ≡ parent t d) → {d : ℕ} → IsUnderRoot t d → IsUnderRoot u d
under t u same is_root = is_root
under t u same (is_in d below) = is_in d (subst (IsUnderRoot u) (sym (same d)) (under t u same below))

fits_moves : (room : Room) (n : ℕ) (b : Body) (names names' : ℕ) → names' ≡ names → NamesFit room n b names → NamesFit room n b names'
fits_moves room n b names names' e h = subst (NamesFit room n b) (sym e) h

-- what a rewritten object has to be
pub record MayStandFor (room : Room) (t : Tree) (k : ℕ) (old new : Node) : Type 0 where
  pub names : names_of_body new.body ≡ names_of_body old.body
  pub kind : is_directory new.body ≡ is_directory old.body
  pub fits_room : FitsRoom room k new.owner new.group new.stamps
  pub body : IsBody room t new.body
  pub fits : NamesFit room k new.body (names_of t k)

pub rewritten_is_tree : (room : Room) (t : Tree) (k : ℕ) (old new : Node) → IsTree room t → node_at t k ≡ Some old → MayStandFor room t k old new → IsTree room (with_node t k new)
rewritten_is_tree room t k old new h was w = record {
  numbers = with_entry-IsMap t k new h.numbers;
  root_is_there = at_root (is_eq (nat_cmp root k)) refl;
  each = λ n node e. each n node (is_eq (nat_cmp n k)) refl (sym (get-with_entry t k new n) ∙ e);
}
  where
    u : Tree
    u = with_node t k new

    there : (q : ℕ) → is_some (node_at (with_node t k new) q) ≡ is_some (node_at t q)
    there q = there-rewritten t k old new h.numbers was w.names q

    parents : (d : ℕ) → parent (with_node t k new) d ≡ parent t d
    parents d = parent-rewritten t k old new h.numbers was w.names d

    at_root : (b : Bool) → is_eq (nat_cmp root k) ≡ b → IsDirectoryAt (with_node t k new) root
    at_root true e =
        let rooted : root ≡ k = tied root k e in
        let same : h.root_is_there.node ≡ old = (let x : node_at t k ≡ Some h.root_is_there.node = ap (node_at t) (sym rooted) ∙ h.root_is_there.is_there in cc) in
        record {
          node = new;
          is_there = get-with_entry t k new root ∙ ap (λ b. cond b (Some new) (node_at t root)) e;
          directory = w.kind ∙ ap (λ n. is_directory n.body) (sym same) ∙ h.root_is_there.directory;
        }
    at_root false e = record {
      node = h.root_is_there.node;
      is_there = get-with_entry t k new root ∙ ap (λ b. cond b (Some new) (node_at t root)) e ∙ h.root_is_there.is_there;
      directory = h.root_is_there.directory;
    }

    each : (n : ℕ) (node : Node) (b : Bool) → is_eq (nat_cmp n k) ≡ b → cond b (Some new) (node_at t n) ≡ Some node → IsNode room (with_node t k new) n node
    each n node true c e =
        let at : n ≡ k = tied n k c in
        let was_node = h.each k old was in
        let is : new ≡ node = cc in
        subst (λ v. IsNode room (with_node t k new) n v) is (subst (λ q. IsNode room (with_node t k new) q new) (sym at) (
        node_from room (with_node t k new) k new w.fits_room (body_moves room t (with_node t k new) new.body (λ q h. there q ∙ h) w.body)
        (fits_moves room k new.body _ _ (names_of-rewritten t k old new h.numbers was w.names k) w.fits)
        (λ d. under t (with_node t k new) parents (was_node.under_root (sym w.kind ∙ d)))
        ))
    each n node false c e =
        let was_node = h.each n node e in
        node_from room (with_node t k new) n node (fits_room was_node) (body_moves room t (with_node t k new) node.body (λ q h. there q ∙ h) was_node.body)
        (fits_moves room n node.body _ _ (names_of-rewritten t k old new h.numbers was w.names n) was_node.names)
        (λ d. under t (with_node t k new) parents (was_node.under_root d))

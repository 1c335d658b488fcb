-- States that are alike to someone outside stay so where they are given a handle of an object that they see into.
--     given_alike
--     given_open        it is open
use Rattle.std.specs.Prelude.{◌≡◌, ℕ, ◌==◌, Bool, true, false, ◌&&◌, ◌||◌, cond, [], ◌∷◌, ◌++◌, Option, None, Some, unwrap_or, is_some, IsTrue}
use Rattle.std.proofs.Common.{refl, sym, ap, ◌∙◌, arith}
use Rattle.std.proofs.lemmas.Bool.Decides.{nat_tests}
use Rattle.std.specs.List.{list_any}
use Rattle.std.specs.Option.{option_map}
use Rattle.std.specs.Ordering.{nat_cmp}
use Rattle.fs_cred.specs.declared.node.Node.{Node as AccessNode}
use Rattle.fs_layout.specs.Maps.{get, IsMap}
use Rattle.fs_layout.proofs.FirstEntries.{right}
use Rattle.fs_model.specs.Nodes.{Node, accessed}
use Rattle.fs_model.specs.Trees.{Tree, node_at}
use Rattle.fs_model.specs.Processes.{Process, Descriptor, process_holding}
use Rattle.fs_model.specs.States.{State, IsState}
use Rattle.fs_model.specs.Alike.{may_read, sees_into, node_seen, tree_seen, seen_by}
use Rattle.fs_model.specs.Outsiders.{Outsider, held_at, held, sight, AreAlikeTo, AreOpen}
use Rattle.fs_model.proofs.Veils.{veiled}
use Rattle.fs_model.proofs.SeenTrees.{sees-veiled, SeesNoMore, tree_seen-less, node_at-seen}
use Rattle.fs_model.proofs.ConfinedOutsiders.{same_openings, same_sight}
use Rattle.fs_model.proofs.Swept.{at_first, at_rest}

-- ---- with one more opening

abbrev with_one : Process → ℕ → Descriptor → Process
with_one p handle d = record p { descriptors = (handle, d) ∷ p.descriptors }

both_hold : (a b : Bool) → (a && b) ≡ true → a ≡ true
both_hold true b h = refl
both_hold false b h = absurd cc

without_it : (a b o x : Bool) → o ≡ false → (a || b || (o || x)) ≡ true → (a || b || x) ≡ true
without_it true b o x none h = refl
without_it false true o x none h = refl
without_it false false false x none h = h
without_it false false true x none h = absurd cc

-- told of each node of a rising map
sees_no_more_at : (p q : Process) (t : Tree) → IsMap nat_cmp t
    → ((n : ℕ) (node : Node) → node_at t n ≡ Some node → sees_into q n node ≡ true → sees_into p n node ≡ true) → SeesNoMore p q t
sees_no_more_at p q [] is less = tt
sees_no_more_at p q (e ∷ t) is less =
    let Less : ℕ → Node → Type 0 = λ n node. sees_into q n node ≡ true → sees_into p n node ≡ true in
    (at_first (λ _. true) Less e t less, sees_no_more_at p q t (right _ _ is) (at_rest (λ _. true) Less e t is less))

module _ (p : Process) (handle : ℕ) (d : Descriptor) where
  may_read-same : (o : Option AccessNode) → may_read (with_one p handle d) o ≡ may_read p o
  may_read-same None = refl
  may_read-same (Some x) = refl

  one_sees : (m : ℕ) (node : Node) → (m ≡ d.ino → sees_into p m node ≡ true) → sees_into (with_one p handle d) m node ≡ true → sees_into p m node ≡ true
  one_sees m node here h = go (d.ino == m && d.read) refl
    where
      go : (b : Bool) → (d.ino == m && d.read) ≡ b → sees_into p m node ≡ true
      go true e = let same = both_hold (d.ino == m) d.read e in here (grind (arith, nat_tests))
      go false e =
          let own = node.owner == p.cred.uid in
          let has = d.ino == m && d.read in
          let rest = list_any (λ x. x.1.ino == m && x.1.read) p.descriptors in
          without_it own (may_read p (accessed node)) has rest e (ap (λ b. own || b || (has || rest)) (sym (may_read-same (accessed node))) ∙ h)

  one_more_sees : (t : Tree) → IsMap nat_cmp t → ((node : Node) → node_at t d.ino ≡ Some node → sees_into p d.ino node ≡ true)
      → SeesNoMore p (with_one p handle d) t
  one_more_sees t is sees =
      sees_no_more_at p (with_one p handle d) t is
      (λ m node at. one_sees m node (λ same. ap (λ k. sees_into p k node) same ∙ sees node (ap (node_at t) (sym same) ∙ at)))

  one_seen : (u : State) → SeesNoMore p (with_one p handle d) u.tree → seen_by (Some (with_one p handle d)) (seen_by (Some p) u) ≡ seen_by (Some (with_one p handle d)) u
  one_seen u less = ap {A = Tree} {B = State} (λ t. record u { tree = t }) (tree_seen-less p (with_one p handle d) u.tree less)

-- ---- what is seen into in one is so in the other

sees-seen : (p : Process) (n : ℕ) (node : Node) → sees_into p n (node_seen p n node) ≡ sees_into p n node
sees-seen p n node = go (sees_into p n node)
  where
    go : (b : Bool) → sees_into p n (cond b node (veiled node)) ≡ sees_into p n node
    go true = refl
    go false = sees-veiled p n node

also_sees : (p : Process) (t u : Tree) (n : ℕ) (x y : Node) → tree_seen p t ≡ tree_seen p u → node_at t n ≡ Some x → node_at u n ≡ Some y
    → sees_into p n x ≡ true → sees_into p n y ≡ true
also_sees p t u n x y same at there sees =
    let found : Some (node_seen p n x) ≡ Some (node_seen p n y) =
    ap (option_map (node_seen p n)) (sym at) ∙ sym (node_at-seen p t n) ∙ ap (λ v. node_at v n) same ∙ node_at-seen p u n ∙ ap (option_map (node_seen p n)) there in
    let seen : node_seen p n x ≡ node_seen p n y = ap (λ o. unwrap_or o x) found in
    sym (sees-seen p n y) ∙ ap (sees_into p n) (sym seen) ∙ sees-seen p n x ∙ sees

-- ---- the law

module _ (w : Outsider) (s t : State) (handle : ℕ) (d : Descriptor) (node : Node) where
  pub given_alike : IsState s → IsState t → AreAlikeTo w s t → get nat_cmp s.openings handle ≡ Some d → node_at s.tree d.ino ≡ Some node
      → IsTrue (sees_into (sight s w) d.ino node) → AreAlikeTo (record w { handles = handle ∷ w.handles }) s t
  given_alike is js alike at there sees =
      let p = sight s w in
      let q = with_one p handle d in
      let seen = same_sight w s t alike in
      let trees : tree_seen p s.tree ≡ tree_seen p t.tree = ap (λ u. u.tree) seen in
      let here : SeesNoMore p q s.tree =
      one_more_sees p handle d s.tree is.tree.numbers (λ x found. also_sees p s.tree s.tree d.ino node x refl there found sees) in
      let other : SeesNoMore p q t.tree =
      one_more_sees p handle d t.tree js.tree.numbers (λ x found. also_sees p s.tree t.tree d.ino node x trees there found sees) in
      let openings = same_openings w s t alike in
      record {
        first_runs = alike.first_runs;
        second_runs = alike.second_runs;
        same =
            ap (λ o. seen_by (Some (record (process_holding (held_at handle o ++ held s.openings w.handles)) { cred = w.cred })) s) at
            ∙ sym (one_seen p handle d s here) ∙ ap (seen_by (Some q)) seen ∙ one_seen p handle d t other
            ∙ ap (λ o. seen_by (Some (record (process_holding (held_at handle o ++ held s.openings w.handles)) { cred = w.cred })) t) (sym at)
            ∙ ap (λ us. seen_by (Some (record (process_holding (held us (handle ∷ w.handles))) { cred = w.cred })) t) openings;
      }

module _ (w : Outsider) (s : State) (handle : ℕ) (d : Descriptor) where
  pub given_open : AreOpen w s → get nat_cmp s.openings handle ≡ Some d → AreOpen (record w { handles = handle ∷ w.handles }) s
  given_open opened at = λ n its. go n (handle == n) refl its
    where
      go : (n : ℕ) (b : Bool) → (handle == n) ≡ b → (b || list_any (λ h. h == n) w.handles) ≡ true → is_some (get nat_cmp s.openings n) ≡ true
      go n true e its = let same : n ≡ handle = grind (arith, nat_tests) in ap (λ m. is_some (get nat_cmp s.openings m)) same ∙ ap is_some at
      go n false e its = opened n its

-- To open a file is confined: who opens one for reading was granted that, and a new one is its own.
use Rattle.std.specs.Prelude.{◌≡◌, ℕ, ◌==◌, Bool, true, false, not, ◌||◌, ◌&&◌, cond, List, [], ◌∷◌, Option, None, Some, unwrap_or, is_some, option_and_then}
use Rattle.std.proofs.Common.{refl, sym, ap, ◌∙◌, arith, subst}
use Rattle.std.proofs.lemmas.Bool.Decides.{nat_tests}
use Rattle.std.specs.Ordering.{nat_cmp}
use Rattle.fs_cred.specs.declared.node.Node.{Node as AccessNode}
use Rattle.fs_cred.specs.declared.refusal.Need.TheVariants.{Perm}
use Rattle.fs_cred.specs.declared.rule.Verdict.{Verdict}
use Rattle.fs_cred.specs.Verdicts.{verdict}
use Rattle.fs_layout.specs.Maps.{name_cmp, with_entry, IsMap}
use Rattle.fs_layout.proofs.FirstEntries.{right}
use Rattle.fs_layout.proofs.MapLaws.{with_entry-IsMap}
use Rattle.fs_model.specs.declared.call.Flags.{Flags}
use Rattle.fs_model.specs.declared.call.Call.TheVariants.{Open}
use Rattle.fs_model.specs.Nodes.{Node, accessed, names_of_body, with_names, with_bytes}
use Rattle.fs_model.specs.Trees.{Tree, node_at, with_node, Room}
use Rattle.fs_model.specs.Processes.{Process, least_unused}
use Rattle.fs_model.specs.Births.{the_node, no_node, born_file}
use Rattle.fs_model.specs.declared.touch.Touch.TheVariants.{Modified}
use Rattle.fs_model.specs.TreeChanges.{Change, Same, Rewrite, Make, changed, touches, with_names_at}
use Rattle.fs_model.specs.Alike.{may_read, sees_into, node_seen, tree_seen}
use Rattle.fs_model.specs.Demands.{Demand, perms, permission_of, accessed_at, decided}
use Rattle.fs_model.specs.Rows.{row_of}
use Rattle.fs_model.specs.States.{IsState}
use Rattle.fs_model.specs.Confinement.{IsConfined}
use Rattle.fs_model.specs.Scenes.{Scene, is_found, found_ino, dir_node}
use Rattle.fs_model.specs.OpenCall.{open_found_demands, open_new_demands, open_demands, open_process, open_row}
use Rattle.fs_model.proofs.Swept.{at_first, at_rest}
use Rattle.fs_model.proofs.StepsNaming.{at_it}
use Rattle.fs_model.proofs.StepsProcesses.{in_with_entry}
use Rattle.fs_model.proofs.StepsDemands.{AreMet}
use Rattle.fs_model.proofs.ReadsLess.{reads_less}
use Rattle.fs_model.proofs.Veils.{veiled}
use Rattle.fs_model.proofs.SeenTrees.{SeesNoMore, tree_seen-less, the_node-seen}
use Rattle.fs_model.proofs.ConfinedSteps.{IsConfinedAt, Confines}
use Rattle.fs_model.proofs.ConfinedLooks.{by_veil}
use Rattle.fs_model.proofs.ConfinedReads.{is_for, any, any-put, less_by, either}
use Rattle.fs_model.proofs.ConfinedRewrites.{byted_seen, rewritten_seen, owner_sees}
use Rattle.fs_model.proofs.ConfinedNames.{made_seen, dir_veil, group_veil}

-- ---- what a process with one more descriptor sees

-- told of each node of a rising map
sees_no_more_at : (p q : Process) (t : Tree) → IsMap nat_cmp t
    → ((n : ℕ) (node : Node) → node_at t n ≡ Some node → sees_into q n node ≡ true → sees_into p n node ≡ true) → SeesNoMore p q t
sees_no_more_at p q [] is less = tt
sees_no_more_at p q (e ∷ t) is less =
    let Less : ℕ → Node → Type 0 = λ n node. sees_into q n node ≡ true → sees_into p n node ≡ true in
    (at_first (λ _. true) Less e t less, sees_no_more_at p q t (right _ _ is) (at_rest (λ _. true) Less e t is less))

abbrev emptied : Node → Node
emptied node = record node { body = with_bytes [] node.body }

-- what open changes: a new node is made, or what is there is emptied, or nothing
abbrev open_to : Bool → Bool → ℕ → List ℕ → ℕ → Node → ℕ → Node → Change
open_to found empties dir_ino name new node n there =
    cond (not found) (Make dir_ino name new node) (cond empties (Rewrite Modified n (emptied there)) Same)

-- whose times that moves
open_touches : (room : Room) (t u : Tree) (found empties : Bool) (dir_ino : ℕ) (name : List ℕ) (new : ℕ) (x y : Node) (n : ℕ) (v w : Node)
    → touches room t (open_to found empties dir_ino name new x n v) ≡ touches room u (open_to found empties dir_ino name new y n w)
open_touches room t u true true dir_ino name new x y n v w = refl
open_touches room t u true false dir_ino name new x y n v w = refl
open_touches room t u false empties dir_ino name new x y n v w = refl

module _ (p : Process) (flags : Flags) (n : ℕ) where
  abbrev opener : Process
  opener = open_process p flags n

  -- the process sees what it saw, and what it opened for reading
  opener_sees : (m : ℕ) (node : Node) → (m ≡ n → flags.read ≡ true → sees_into p m node ≡ true) → sees_into opener m node ≡ true → sees_into p m node ≡ true
  opener_sees m node opened h = go (n == m && flags.read) refl
    where
      parts : (a b : Bool) → (a && b) ≡ true → (a ≡ true) × (b ≡ true)
      parts true b e = (refl, e)
      parts false b e = absurd cc

      go : (b : Bool) → (n == m && flags.read) ≡ b → sees_into p m node ≡ true
      go true e = let both = parts (n == m) flags.read e in opened (let k = both.0 in grind (arith, nat_tests)) both.1
      go false e =
          less_by (node.owner == p.cred.uid) (may_read p (accessed node)) _ _
          (λ k. either (n == m && flags.read) (any (is_for m) p.descriptors) (any-put (is_for m) p.descriptors (least_unused 0 p.descriptors) _ k) (λ r. absurd cc))
          h

  -- ---- what is there

  module _ (t : Tree) (is : IsMap nat_cmp t) (reads : flags.read ≡ true → may_read p (accessed (the_node t n)) ≡ true) where
    found_here : (m : ℕ) (node : Node) → may_read p (accessed node) ≡ true → sees_into p m node ≡ true
    found_here m node may = second (node.owner == p.cred.uid) (may_read p (accessed node)) _ may
      where
        second : (a b x : Bool) → b ≡ true → (a || b || x) ≡ true
        second true b x h = refl
        second false true x h = refl
        second false false x h = absurd cc

    found_less : SeesNoMore p opener t
    found_less = sees_no_more_at p opener t is (λ m node at.
        opener_sees m node (λ e r.
        let same : the_node t n ≡ node = ap (the_node t) (sym e) ∙ ap (λ o. unwrap_or o no_node) at in
        found_here m node (ap (λ x. may_read p (accessed x)) (sym same) ∙ reads r)))

    pub found_tree : (b : Bool) → tree_seen opener (changed (tree_seen p t) (cond b (Rewrite Modified n (emptied (node_seen p n (the_node t n)))) Same))
        ≡ tree_seen opener (changed t (cond b (Rewrite Modified n (emptied (the_node t n))) Same))
    found_tree true =
        rewritten_seen p opener t n (emptied (node_seen p n (the_node t n))) (emptied (the_node t n)) found_less
        (byted_seen (λ _. []) (λ _. refl) p opener n (the_node t n) (opener_sees n (the_node t n) (λ _ r. found_here n (the_node t n) (reads r))))
    found_tree false = tree_seen-less p opener t found_less

  -- ---- what is new

  module _ (t : Tree) (is : IsMap nat_cmp t) (node : Node) (own : node.owner ≡ p.cred.uid) (bare : veiled node ≡ node) (dir_ino : ℕ) (name : List ℕ) where
    abbrev IsOwn : ℕ → Node → Type 0
    IsOwn m x = m ≡ n → x.owner ≡ p.cred.uid

    added_own : (m : ℕ) (x : Node) → node_at (with_node t n node) m ≡ Some x → IsOwn m x
    added_own m x at e =
        let here : node_at (with_node t n node) m ≡ Some node = ap (node_at (with_node t n node)) e ∙ at_it t n node in
        let same : node ≡ x = cc in
        ap (λ y. y.owner) (sym same) ∙ own

    made_own : (f : List (List ℕ × ℕ) → List (List ℕ × ℕ)) (o : Option Node) → node_at (with_node t n node) dir_ino ≡ o
        → (m : ℕ) (x : Node) → node_at (with_names_at (with_node t n node) dir_ino f o) m ≡ Some x → IsOwn m x
    made_own f None at = added_own
    made_own f (Some v) at = in_with_entry IsOwn (with_node t n node) dir_ino (record v { body = with_names (f (names_of_body v.body)) v.body }) (added_own dir_ino v at) added_own

    made_is : (f : List (List ℕ × ℕ) → List (List ℕ × ℕ)) (o : Option Node) → IsMap nat_cmp (with_names_at (with_node t n node) dir_ino f o)
    made_is f None = with_entry-IsMap t n node is
    made_is f (Some v) = with_entry-IsMap (with_node t n node) dir_ino (record v { body = with_names (f (names_of_body v.body)) v.body }) (with_entry-IsMap t n node is)

    pub new_tree : tree_seen opener (changed (tree_seen p t) (Make dir_ino name n node)) ≡ tree_seen opener (changed t (Make dir_ino name n node))
    new_tree =
        let f : List (List ℕ × ℕ) → List (List ℕ × ℕ) = λ names. with_entry name_cmp names name n in
        let made = changed t (Make dir_ino name n node) in
        ap (tree_seen opener) (made_seen p dir_ino name n node t bare)
        ∙ tree_seen-less p opener made (sees_no_more_at p opener made (made_is f (node_at (with_node t n node) dir_ino)) (λ m x at.
        opener_sees m x (λ e _.
        let owner : x.owner ≡ p.cred.uid = made_own f (node_at (with_node t n node) dir_ino) refl m x at e in
        owner_sees p m x (let k = owner in grind (arith, nat_tests)))))

-- ---- what was granted

granted_reads : (p : Process) (o : Option AccessNode) (r w : Bool) (step : ℕ) → permission_of p.cred (perms r w false) 1 step o ≡ None → r ≡ true
    → may_read p o ≡ true
granted_reads p None r w step h e = refl
granted_reads p (Some node) true w step h e = reads_less p.cred node w (yes_of (verdict p.cred node (perms true w false)) h)
  where
    yes_if : (b : Bool) (d : Demand) → (d ≡ None → ⊥) → cond b None d ≡ None → b ≡ true
    yes_if true d some h = refl
    yes_if false d some h = absurd (some h)

    yes_of : (v : Verdict) → decided 1 step (Perm (perms true w false)) v ≡ None → v.yes ≡ true
    yes_of v h = yes_if v.yes _ (λ e. absurd cc) h
granted_reads p (Some node) false w step h e = absurd cc

accessed_the : (o : Option Node) → option_and_then accessed o ≡ accessed (unwrap_or o no_node)
accessed_the None = refl
accessed_the (Some node) = refl

-- ---- open

-- where something was found, and where nothing was
opened_tree : (p : Process) (flags : Flags) (t : Tree) → IsMap nat_cmp t → (new : ℕ) (o : Option ℕ) (dir_ino : ℕ) (name : List ℕ) (node : Node)
    → node.owner ≡ p.cred.uid → veiled node ≡ node
    → (is_some o ≡ true → flags.read ≡ true → may_read p (accessed (the_node t (unwrap_or o 0))) ≡ true) → (empties : Bool)
    → tree_seen (open_process p flags (unwrap_or o new)) (changed (tree_seen p t) (open_to (is_some o) empties dir_ino name new node (unwrap_or o 0) (node_seen p (unwrap_or o 0) (the_node t (unwrap_or o 0)))))
    ≡ tree_seen (open_process p flags (unwrap_or o new)) (changed t (open_to (is_some o) empties dir_ino name new node (unwrap_or o 0) (the_node t (unwrap_or o 0))))
opened_tree p flags t is new None dir_ino name node own bare reads empties = new_tree p flags new t is node own bare dir_ino name
opened_tree p flags t is new (Some n) dir_ino name node own bare reads empties = found_tree p flags n t is (reads refl) empties

-- however much is open already
pub open_confined_at : (path : List ℕ) (flags : Flags) (mode : ℕ) (c : Scene) (new : ℕ) → IsState c.state → IsConfined c.process.cred
    → AreMet (open_demands flags c) → IsConfinedAt c (open_row path flags mode) new
open_confined_at path flags mode c new is confined met =
    let u = c.state in
    let p = c.process in
    let f = c.first in
    let seen = tree_seen p u.tree in
    let empties = flags.trunc && flags.write in
    let made : born_file p.cred p.umask mode (the_node seen f.dir_ino) ≡ born_file p.cred p.umask mode (the_node u.tree f.dir_ino) =
    by_veil (λ c. born_file c.process.cred c.process.umask mode (dir_node c c.first)) (λ c. let a = dir_veil c in let b = group_veil c in cc) c in
    let q = open_process p flags (unwrap_or f.ino new) in
    let reads : is_found f ≡ true → flags.read ≡ true → may_read p (accessed (the_node u.tree (found_ino f))) ≡ true = λ found r. (
    let asks = subst (λ b. AreMet (cond b (open_found_demands flags c) (open_new_demands flags c))) found met in
    ap (may_read p) (sym (accessed_the (node_at u.tree (found_ino f)))) ∙ granted_reads p (accessed_at u.tree (found_ino f)) flags.read flags.write f.step asks.1.1.1.1.0 r) in
    record {
      process = refl;
      reply = refl;
      moved = open_touches u.room seen u.tree (is_found f) empties f.dir_ino f.name new _ _ (found_ino f) _ _;
      tree =
          ap (λ x. tree_seen q (changed seen (open_to (is_found f) empties f.dir_ino f.name new x (found_ino f) (the_node seen (found_ino f))))) made
          ∙ ap (λ x. tree_seen q (changed seen (open_to (is_found f) empties f.dir_ino f.name new (born_file p.cred p.umask mode (the_node u.tree f.dir_ino)) (found_ino f) x))) (the_node-seen p u.tree (found_ino f))
          ∙ opened_tree p flags u.tree is.tree.numbers new f.ino f.dir_ino f.name (born_file p.cred p.umask mode (the_node u.tree f.dir_ino)) refl refl reads empties;
    }

pub open_confined : (path : List ℕ) (flags : Flags) (mode : ℕ) → Confines (Open path flags mode)
unfolding row_of
open_confined path flags mode c new is confined asked met = open_confined_at path flags mode c new is confined met

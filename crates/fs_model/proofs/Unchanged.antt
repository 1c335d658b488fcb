-- What a step that changes little leaves as it was.
use Rattle.std.specs.Prelude.{◌≡◌, ◌≢◌, ℕ, ◌+◌, ◌==◌, Bool, true, false, not, ◌||◌, cond, List, [], ◌∷◌, length, Some, is_some, IsTrue}
use Rattle.std.proofs.Common.{refl, sym, ap, arith, ◌∙◌, inl, inr}
use Rattle.std.proofs.lemmas.Bool.{cases_eq}
use Rattle.std.proofs.lemmas.Bool.Decides.{nat_tests}
use Rattle.std.specs.List.{filter}
use Rattle.std.specs.Ordering.{nat_cmp, is_eq}
use Rattle.fs_model.specs.Limits.{root}
use Rattle.fs_layout.specs.Maps.{get, with_entry, IsMap}
use Rattle.fs_model.specs.Nodes.{Node, Body, File, Dir, Link, names_of_body, sectors_of, is_directory}
use Rattle.fs_model.specs.Trees.{Tree, Room, node_at, with_node, names_of, NamesFit, IsTree}
use Rattle.fs_model.specs.Processes.{Process, ProcessTable, Openings, users, is_open}
use Rattle.fs_model.specs.TreeChanges.{swept, lives_nameless}
use Rattle.fs_model.specs.States.{FitsTree}
use Rattle.fs_model.specs.Laws.{IsRewritten}
use Rattle.fs_layout.proofs.FirstEntries.{right, tied}
use Rattle.fs_layout.proofs.MapLaws.{get-with_entry, with_entry-IsMap, same_map, length-with_entry, sum-with_entry, summand}
use Rattle.fs_model.proofs.Rewrites.{names_of-rewritten, parent-rewritten}
use Rattle.fs_model.proofs.Swept.{stays, at_first, at_rest}

-- ---- what is swept

-- a filter that every entry passes
all_stay : (keeps : ℕ × Node → Bool) (t : Tree) → IsMap nat_cmp t → ((n : ℕ) (node : Node) → node_at t n ≡ Some node → keeps (n, node) ≡ true)
    → filter keeps t ≡ t
all_stay keeps [] m h = refl
all_stay keeps (e ∷ t) m h =
    ap (λ b. cond b (e ∷ filter keeps t) (filter keeps t)) (at_first keeps (λ n node. keeps (n, node) ≡ true) e t h)
    ∙ ap (λ r. e ∷ r) (all_stay keeps t (right _ _ m) (at_rest keeps (λ n node. keeps (n, node) ≡ true) e t m h))

-- a node that fits stays: by its names, as the root, or by who has it open
pub fitting_stays : (room : Room) (processes : ProcessTable) (n : ℕ) (b : Body) (names : ℕ) → NamesFit room n b names
    → (names ≡ 0 → n ≢ root → IsTrue (is_open processes n)) → (n ≡ root → IsTrue (is_directory b))
    → (not (names == 0) || lives_nameless processes n b) ≡ true
fitting_stays room processes n b names fits opened rooted = go (names == 0) refl b fits rooted
  where
    go : (zero : Bool) → (names == 0) ≡ zero → (b : Body) → NamesFit room n b names → (n ≡ root → IsTrue (is_directory b))
        → (not zero || lives_nameless processes n b) ≡ true
    go false z b fits rooted = refl
    go true z (File a bytes) fits rooted = elim (cases_eq n root) [
      | inl e ↦ absurd (let c = rooted e in cc)
      | inr ne ↦ opened (let k : names ≡ 0 = grind (arith, nat_tests) in k) ne
    ]
    go true z (Dir a d) fits rooted = elim (cases_eq n root) [
      | inl e ↦ let k : (n == root) ≡ true = grind (arith, nat_tests) in k
      | inr ne ↦
          let k : names ≡ 0 = grind (arith, nat_tests) in
          let other : (n == root) ≡ false = grind (arith, nat_tests) in
          let one : names ≡ 1 = fits ∙ ap (λ q. cond q 0 1) other in
          absurd (omega (arith, k, one))
    ]
    go true z (Link target) fits rooted =
        let k : names ≡ 0 = grind (arith, nat_tests) in
        let some = fits.0 in
        absurd (omega (arith, k, some))

-- the root is a directory
pub root_directory : (room : Room) (t : Tree) (n : ℕ) (node : Node) → IsTree room t → node_at t n ≡ Some node → n ≡ root → IsTrue (is_directory node.body)
root_directory room t n node is e at =
    let there : node_at t n ≡ Some is.root_is_there.node = ap (node_at t) at ∙ is.root_is_there.is_there in
    let same : is.root_is_there.node ≡ node = cc in
    ap (λ k. is_directory k.body) (sym same) ∙ is.root_is_there.directory

-- where what is open stays open
pub open_stays : (room : Room) (t : Tree) (processes : ProcessTable) (openings : Openings) (new : ProcessTable) → IsTree room t → FitsTree t processes openings
    → ((n : ℕ) → IsTrue (is_open (users processes openings) n) → IsTrue (is_open new n)) → swept t new ≡ t
open_stays room t processes openings new is fits still =
    all_stay (stays t new) t is.numbers
    (λ n node e. fitting_stays room new n node.body (names_of t n) (is.each n node e).names (λ none ne. still n (fits.nameless n node e none ne)) (root_directory room t n node is e))

pub nothing_to_drop : (room : Room) (t : Tree) (processes : ProcessTable) (openings : Openings) → IsTree room t → FitsTree t processes openings
    → swept t (users processes openings) ≡ t
nothing_to_drop room t processes openings is fits = open_stays room t processes openings (users processes openings) is fits (λ n still. still)

-- ---- an entry that is written back

-- as it is, into a map
pub same_entry_stays : {X : Type 0} (m : List (ℕ × X)) (k : ℕ) (x : X) → IsMap nat_cmp m → get nat_cmp m k ≡ Some x → with_entry nat_cmp m k x ≡ m
same_entry_stays m k x sorted there = same_map (with_entry nat_cmp m k x) m (with_entry-IsMap m k x sorted) sorted
    (λ q. get-with_entry m k x q ∙ at q (is_eq (nat_cmp q k)) refl)
  where
    at : (q : ℕ) (b : Bool) → is_eq (nat_cmp q k) ≡ b → cond b (Some x) (get nat_cmp m q) ≡ get nat_cmp m q
    at q true t = sym (ap (get nat_cmp m) (tied q k t) ∙ there)
    at q false f = refl

pub same_process_stays : (processes : ProcessTable) (pid : ℕ) (p : Process) → IsMap nat_cmp processes → get nat_cmp processes pid ≡ Some p
    → with_entry nat_cmp processes pid p ≡ processes
same_process_stays processes pid p sorted there = same_entry_stays processes pid p sorted there

-- ---- one node

pub rewriting_keeps : (t : Tree) (n : ℕ) (old new : Node) → IsMap nat_cmp t → node_at t n ≡ Some old → names_of_body new.body ≡ names_of_body old.body
    → IsRewritten t (with_node t n new) old new
rewriting_keeps t n old new m was names = record {
  count = length-with_entry t n new m ∙ ap (λ o. cond (is_some o) (length t) (length t + 1)) was;
  names = names_of-rewritten t n old new m was names;
  parents = parent-rewritten t n old new m was names;
  need = λ room.
      let sectors : ℕ × Node → ℕ = λ e. sectors_of room.slot_size e.1.body in
      let had : summand sectors n (get nat_cmp t n) ≡ sectors_of room.slot_size old.body = ap (summand sectors n) was in
      omega (arith, sum-with_entry sectors t n new m, had);
}

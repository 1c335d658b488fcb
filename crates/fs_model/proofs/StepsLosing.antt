-- Nodes that lose a name: what is left may be swept, where a directory that loses its name is empty and nobody uses it.
use Rattle.fs_model.proofs.StoredStamps.{stamps_move}
use Rattle.std.specs.Prelude.{◌≡◌, ◌≢◌, ℕ, ◌+◌, ◌^◌, ◌<◌, ◌≤◌, ◌==◌, Bool, true, false, not, ◌||◌, [], length, Some, IsTrue}
use Rattle.std.proofs.Common.{refl, sym, ap, arith, ◌∙◌, subst, inl, inr}
use Rattle.std.proofs.lemmas.Bool.{cases_eq, cases_lt, or_right}
use Rattle.std.proofs.lemmas.Bool.Decides.{nat_tests}
use Rattle.std.specs.Ordering.{nat_cmp}
use Rattle.fs_model.specs.Limits.{root, processes_limit}
use Rattle.fs_layout.specs.Maps.{IsMap}
use Rattle.fs_model.specs.Nodes.{Node, Body, File, Dir, Link, is_directory, names_of_body, type_of}
use Rattle.fs_model.specs.Trees.{Tree, Room, node_at, names_of, NamesFit, IsBody, IsUnderRoot, IsNode, IsDirectoryAt, IsTree}
use Rattle.fs_model.specs.Processes.{ProcessTable, Openings, users, is_in_use}
use Rattle.fs_model.specs.TreeChanges.{lives_nameless}
use Rattle.fs_model.specs.States.{FitsTree}
use Rattle.fs_model.proofs.StepsKinds.{KeepsTypes, same_directory, same_fit, directory_moves, descriptor_moves, process_moves}
use Rattle.fs_model.proofs.Moves.{node_from}
use Rattle.fs_model.proofs.StepsParents.{names_or, names_at, directory_named}
use Rattle.fs_model.proofs.StepsSwept.{MayBeLeft}
use Rattle.fs_model.proofs.Swept.{stays}

-- a node of u stood in t, of the type and with the owner and group that it has
pub record Stood (room : Room) (t u : Tree) (n : ℕ) (node : Node) : Type 0 where
  pub old : Node
  pub was : node_at t n ≡ Some old
  pub same : type_of node.body ≡ type_of old.body
  pub owner : node.owner ≡ old.owner
  pub group : node.group ≡ old.group
  pub stamps : node.stamps ≡ old.stamps
  pub body : IsBody room u node.body

-- u is t after its nodes lost so many names
pub record LosesNames (room : Room) (t u : Tree) (processes : ProcessTable) (lost : ℕ → ℕ) : Type 0 where
  pub numbers : IsMap nat_cmp u
  pub types : KeepsTypes t u
  pub each : (n : ℕ) (node : Node) → node_at u n ≡ Some node → Stood room t u n node
  pub counts : (n : ℕ) → names_of u n + lost n ≡ names_of t n
  pub not_root : (n : ℕ) → 1 ≤ lost n → n ≢ root
  pub empty : (n : ℕ) → IsDirectoryAt t n → 1 ≤ lost n → names_at u n ≡ []
  pub unused : (n : ℕ) → IsDirectoryAt t n → 1 ≤ lost n → is_in_use processes n ≡ false
  pub under : (n : ℕ) → IsDirectoryAt t n → lost n ≡ 0 → IsUnderRoot u n

-- a file may lose names, and a link that has one left
fewer_fit : (room : Room) (processes : ProcessTable) (n : ℕ) (b : Body) (had lost names : ℕ) → names + lost ≡ had → NamesFit room n b had
    → (IsTrue (is_directory b) → lost ≡ 0) → n ≢ root → (not (names == 0) || lives_nameless processes n b) ≡ true → NamesFit room n b names
fewer_fit room processes n (File a bytes) had lost names e fits keeps ne stay = omega (arith, e, fits)
fewer_fit room processes n (Dir a d) had lost names e fits keeps ne stay =
    let none = keeps refl in let same : had ≡ names = omega (arith, e, none) in subst (NamesFit room n (Dir a d)) same fits
fewer_fit room processes n (Link target) had lost names e fits keeps ne stay = (some (names == 0) refl stay, (let most = fits.1 in omega (arith, e, most)))
  where
    some : (b : Bool) → (names == 0) ≡ b → (not b || n == root) ≡ true → 1 ≤ names
    some true z stay = absurd (let other : (n == root) ≡ false = grind (arith, nat_tests) in cc)
    some false z stay = grind (arith, nat_tests)

module _ (room : Room) (t u : Tree) (processes : ProcessTable) (lost : ℕ → ℕ) (is : IsTree room t) (h : LosesNames room t u processes lost) where
  was_directory : (n : ℕ) (node : Node) (s : Stood room t u n node) → IsTrue (is_directory node.body) → IsDirectoryAt t n
  was_directory n node s d = record { node = s.old; is_there = s.was; directory = sym (same_directory node.body s.old.body s.same) ∙ d }

  -- a directory that lost its name has none
  nameless_then : (n : ℕ) → IsDirectoryAt t n → 1 ≤ lost n → names_of u n ≡ 0
  nameless_then n d some =
      let one = directory_named room t is n d (h.not_root n some) in
      let all = h.counts n in
      omega (arith, one, all, some)

  goes : (n : ℕ) (b : Body) (names : ℕ) → IsTrue (is_directory b) → n ≢ root → names ≡ 0 → (not (names == 0) || lives_nameless processes n b) ≡ false
  goes n (File a bytes) names d ne none = absurd cc
  goes n (Dir a dir_ino) names d ne none =
      let z : (names == 0) ≡ true = grind (arith, nat_tests) in
      let other : (n == root) ≡ false = grind (arith, nat_tests) in
      ap (λ q. not q || n == root) z ∙ other
  goes n (Link target) names d ne none = absurd cc

  -- and one that didn't has one, or is the root, whoever uses it
  lives : (left : ProcessTable) (n : ℕ) (b : Body) (names : ℕ) → IsTrue (is_directory b) → (n ≢ root → names ≡ 1)
      → (not (names == 0) || lives_nameless left n b) ≡ true
  lives left n (File a bytes) names d one = absurd cc
  lives left n (Dir a dir_ino) names d one = elim (cases_eq n root) [
    | inl e ↦ or_right (not (names == 0)) (n == root) (let k : (n == root) ≡ true = grind (arith, nat_tests) in k)
    | inr ne ↦ let some : names ≡ 1 = one ne in let z : (names == 0) ≡ false = grind (arith, nat_tests) in ap (λ q. not q || n == root) z
  ]
  lives left n (Link target) names d one = absurd cc

  keeps_name : (n : ℕ) → IsDirectoryAt t n → lost n ≡ 0 → n ≢ root → names_of u n ≡ 1
  keeps_name n d none ne =
      let one = directory_named room t is n d ne in
      let all = h.counts n in
      omega (arith, one, all, none)

  -- a directory that stays lost none
  lost_none : (n : ℕ) (node : Node) → IsDirectoryAt t n → IsTrue (is_directory node.body) → stays u processes (n, node) ≡ true → lost n ≡ 0
  lost_none n node d directory stay = elim (cases_lt 0 (lost n)) [
    | inl some ↦ absurd (let gone = goes n node.body (names_of u n) directory (h.not_root n some) (nameless_then n d some) in cc)
    | inr none ↦ omega (arith, none)
  ]

  node_is : (n : ℕ) (node : Node) → node_at u n ≡ Some node → stays u processes (n, node) ≡ true → IsNode room u n node
  node_is n node at stay =
      let s = h.each n node at in
      let old = is.each n s.old s.was in
      let owner : node.owner < 2 ^ 32 = (let e = s.owner in let small = old.owner in omega (arith, e, small)) in
      let group : node.group < 2 ^ 32 = (let e = s.group in let small = old.group in omega (arith, e, small)) in
      node_from room u n node
      (record { positive = old.positive; below = old.below; owner = owner; group = group; stamps = stamps_move room.keeps_times s.old.stamps node.stamps s.stamps old.stamps }) s.body
      (fits s (same_fit room n (names_of t n) node.body s.old.body s.same old.names))
      (λ d. h.under n (was_directory n node s d) (lost_none n node (was_directory n node s d) d stay))
    where
      fits : Stood room t u n node → NamesFit room n node.body (names_of t n) → NamesFit room n node.body (names_of u n)
      fits s fit = elim (cases_eq n root) [
        | inl e ↦
            let none : lost n ≡ 0 = elim (cases_lt 0 (lost n)) [ inl some ↦ absurd (h.not_root n some e) | inr none ↦ omega (arith, none) ] in
            let all = h.counts n in
            let same : names_of t n ≡ names_of u n = omega (arith, all, none) in
            subst (NamesFit room n node.body) same fit
        | inr ne ↦
            fewer_fit room processes n node.body (names_of t n) (lost n) (names_of u n) (h.counts n) fit
            (λ d. lost_none n node (was_directory n node s d) d stay) ne stay
      ]

  pub gone_empty : (left : ProcessTable) (n : ℕ) (node : Node) → node_at u n ≡ Some node → stays u left (n, node) ≡ false → names_of_body node.body ≡ []
  gone_empty left n node at gone = go node.body refl
    where
      go : (b : Body) → node.body ≡ b → names_of_body b ≡ []
      go (File a bytes) e = refl
      go (Link target) e = refl
      go (Dir a d) e =
          let directory : IsTrue (is_directory node.body) = ap is_directory e in
          let was = was_directory n node (h.each n node at) directory in
          elim (cases_lt 0 (lost n)) [
            | inl some ↦ ap names_of_body (sym e) ∙ ap names_or (sym at) ∙ h.empty n was some
            | inr none ↦ absurd (let stay = lives left n node.body (names_of u n) directory (λ ne. keeps_name n was (omega (arith, none)) ne) in cc)
          ]

  used_stays : (n : ℕ) (node : Node) → node_at u n ≡ Some node → IsTrue (is_directory node.body) → IsTrue (is_in_use processes n)
      → stays u processes (n, node) ≡ true
  used_stays n node at directory used =
      let was = was_directory n node (h.each n node at) directory in
      lives processes n node.body (names_of u n) directory (λ ne. keeps_name n was (kept was) ne)
    where
      kept : IsDirectoryAt t n → lost n ≡ 0
      kept was = elim (cases_lt 0 (lost n)) [
        | inl some ↦ absurd (let free = h.unused n was some in cc)
        | inr none ↦ omega (arith, none)
      ]

pub loses_may_be_left : (room : Room) (t u : Tree) (processes : ProcessTable) (openings : Openings) (lost : ℕ → ℕ) → IsTree room t
    → LosesNames room t u (users processes openings) lost → IsMap nat_cmp processes → length processes ≤ processes_limit
    → IsMap nat_cmp openings → FitsTree t processes openings → MayBeLeft room u processes openings
loses_may_be_left room t u processes openings lost is h pids few handles fits = record {
  tree = record {
    numbers = h.numbers;
    root_is_there = directory_moves t u h.types root is.root_is_there;
    each = node_is room t u (users processes openings) lost is h;
    gone = gone_empty room t u (users processes openings) lost is h (users processes openings);
  };
  pids = pids;
  few = few;
  each_process = λ pid p at. process_moves t u h.types p (fits.each_process pid p at);
  handles = handles;
  each_opening = λ handle d at. descriptor_moves t u h.types 0 d (fits.each_opening handle d at);
  used = used_stays room t u (users processes openings) lost is h;
}

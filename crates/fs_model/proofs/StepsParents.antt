-- Which directory names a node, and the way from a directory up to the root, where names change.
use Rattle.std.specs.Prelude.{◌≡◌, ◌≢◌, ℕ, ◌+◌, ◌<◌, ◌≤◌, ◌==◌, nat_lt, Bool, true, false, cond, [], ◌∷◌, Option, None, Some, IsTrue, ◌⊎◌}
use Rattle.std.proofs.Common.{refl, sym, ap, arith, ◌∙◌, subst, inl, inr}
use Rattle.std.proofs.lemmas.Bool.{cases_eq, lt-ltb, ltb-false, ltb-true, ne_eqb}
use Rattle.std.proofs.lemmas.List.Sums.{sum_by-cons}
use Rattle.std.specs.Ordering.{nat_cmp}
use Rattle.fs_model.specs.Limits.{root}
use Rattle.fs_layout.specs.Maps.{IsMap}
use Rattle.fs_model.specs.Nodes.{Node, Body, File, Dir, Link, is_directory, names_of_body}
use Rattle.fs_model.specs.Trees.{Tree, Room, node_at, names_for, names_of, parent, NamesFit, IsUnderRoot, is_root, is_in, IsDirectoryAt, IsTree}
use Rattle.fs_layout.proofs.FirstEntries.{in_rest, at_same, at_other, above, left, right}
use Rattle.fs_layout.proofs.NameMaps.{Names, leading}

-- the names in what stands at a number
abbrev pub names_or : Option Node → Names
names_or None = []
names_or (Some node) = names_of_body node.body

abbrev pub names_at : Tree → ℕ → Names
names_at t k = names_or (node_at t k)

names_of-cons : (x : ℕ) (e : ℕ × Node) (t : Tree) → names_of (e ∷ t) x ≡ names_for x e.1.body + names_of t x
names_of-cons x e t = sum_by-cons (λ q. names_for x q.1.body) e t

-- the names in one directory are among all
among : (t : Tree) (k : ℕ) (v : Node) (x : ℕ) → node_at t k ≡ Some v → names_for x v.body ≤ names_of t x
among [] k v x at = absurd cc
among (e ∷ t) k v x at = elim (in_rest e t k v at) [
  | inl w ↦
      let same : names_for x v.body ≡ names_for x e.1.body = ap (λ q. names_for x q.body) w.1 in
      let all = names_of-cons x e t in
      omega (arith, same, all)
  | inr w ↦
      let rest = among t k v x w in
      let all = names_of-cons x e t in
      omega (arith, rest, all)
]

-- where one directory names x, and no other does, it is the parent
node_names : (t : Tree) (k : ℕ) (v : Node) (x : ℕ) → node_at t k ≡ Some v → 1 ≤ names_for x v.body → names_of t x ≤ 1 → parent t x ≡ k
node_names [] k v x at some one = absurd cc
node_names (e ∷ t) k v x at some one = elim (in_rest e t k v at) [
  | inl w ↦
      let same : names_for x v.body ≡ names_for x e.1.body = ap (λ q. names_for x q.body) w.1 in
      let here : nat_lt 0 (names_for x e.1.body) ≡ true = lt-ltb 0 (names_for x e.1.body) (omega (arith, same, some)) in
      ap (λ b. cond b e.0 (parent t x)) here ∙ sym w.0
  | inr w ↦
      let rest = among t k v x w in
      let all = names_of-cons x e t in
      let none : names_for x e.1.body ≡ 0 = omega (arith, rest, all, some, one) in
      let here : nat_lt 0 (names_for x e.1.body) ≡ false = ap (nat_lt 0) none in
      ap (λ b. cond b e.0 (parent t x)) here ∙ node_names t k v x w some (omega (arith, all, one))
]

pub parent_is : (t : Tree) (k x : ℕ) → 1 ≤ leading x (names_at t k) → names_of t x ≤ 1 → parent t x ≡ k
parent_is t k x some one = go (node_at t k) refl some
  where
    go : (o : Option Node) → node_at t k ≡ o → 1 ≤ leading x (names_or o) → parent t x ≡ k
    go None at some = absurd (omega (arith, some))
    go (Some v) at some = node_names t k v x at some one

-- the parent names what has a name
pub parent_names : (t : Tree) (x : ℕ) → IsMap nat_cmp t → 1 ≤ names_of t x → 1 ≤ leading x (names_at t (parent t x))
parent_names [] x m some = absurd (omega (arith, some))
parent_names (e ∷ t) x m some = go (nat_lt 0 (names_for x e.1.body)) refl (λ h. parent_names t x (right _ _ m) h)
  where
    behind : (o : Option Node) → node_at t (parent t x) ≡ o → 1 ≤ leading x (names_or o) → 1 ≤ leading x (names_at (e ∷ t) (parent t x))
    behind None at h = absurd (omega (arith, h))
    behind (Some v) at h =
        let low : e.0 < parent t x = above e.0 t (left _ _ m) (parent t x) v at in
        let apart : parent t x ≢ e.0 = λ same. omega (arith, low, same) in
        subst (λ o. 1 ≤ leading x (names_or o)) (sym (at_other e t (parent t x) apart ∙ at)) h

    go : (b : Bool) → nat_lt 0 (names_for x e.1.body) ≡ b → (1 ≤ names_of t x → 1 ≤ leading x (names_at t (parent t x)))
        → 1 ≤ leading x (names_at (e ∷ t) (cond b e.0 (parent t x)))
    go true l rest =
        let more : 1 ≤ names_for x e.1.body = omega (arith, ltb-true 0 (names_for x e.1.body) l) in
        subst (λ o. 1 ≤ leading x (names_or o)) (sym (at_same e t)) more
    go false l rest =
        let none : names_for x e.1.body ≡ 0 = omega (arith, ltb-false 0 (names_for x e.1.body) l) in
        let all = names_of-cons x e t in
        behind (node_at t (parent t x)) refl (rest (omega (arith, none, all, some)))

-- the parent stays where it keeps the name, and no other is given
pub parent_kept : (t u : Tree) (x : ℕ) → IsMap nat_cmp t → 1 ≤ names_of t x → names_of u x ≤ 1
    → (1 ≤ leading x (names_at t (parent t x)) → 1 ≤ leading x (names_at u (parent t x))) → parent u x ≡ parent t x
parent_kept t u x m some one keeps = parent_is u (parent t x) x (keeps (parent_names t x m some)) one

-- ---- up to the root

-- What each step up keeps to, from t to u: the parent stays, or the rest of the way is known.
pub under_all : (t u : Tree) (Q : ℕ → Type 0) → ((x : ℕ) → Q x → x ≢ root → IsUnderRoot u x ⊎ ((parent u x ≡ parent t x) × Q (parent t x)))
    → {x : ℕ} → Q x → IsUnderRoot t x → IsUnderRoot u x
under_all t u Q step q is_root = is_root
under_all t u Q step q (is_in d below) = elim (cases_eq d root) [
  | inl e ↦ subst (IsUnderRoot u) (sym e) is_root
  | inr ne ↦ elim (step d q ne) [
    | inl there ↦ there
    | inr w ↦ is_in d (subst (IsUnderRoot u) (sym w.0) (under_all t u Q step w.1 below))
  ]
]

-- ---- in a tree

is_directory_if : (x : ℕ) (b : Body) → 1 ≤ names_for x b → IsTrue (is_directory b)
is_directory_if x (File a bytes) some = absurd (omega (arith, some))
is_directory_if x (Dir a d) some = refl
is_directory_if x (Link target) some = absurd (omega (arith, some))

directory_if : (t : Tree) (k x : ℕ) → 1 ≤ leading x (names_at t k) → IsDirectoryAt t k
directory_if t k x some = go (node_at t k) refl some
  where
    go : (o : Option Node) → node_at t k ≡ o → 1 ≤ leading x (names_or o) → IsDirectoryAt t k
    go None at some = absurd (omega (arith, some))
    go (Some v) at some = record { node = v; is_there = at; directory = is_directory_if x v.body some }

once_named : (room : Room) (n : ℕ) (b : Body) (names : ℕ) → IsTrue (is_directory b) → n ≢ root → NamesFit room n b names → names ≡ 1
once_named room n (File a bytes) names d ne fits = absurd cc
once_named room n (Dir a dir_ino) names d ne fits = let other : (n == root) ≡ false = ne_eqb n root ne in fits ∙ ap (λ q. cond q 0 1) other
once_named room n (Link target) names d ne fits = absurd cc

module _ (room : Room) (t : Tree) (is : IsTree room t) where
  -- a directory but for the root has one name
  pub directory_named : (x : ℕ) → IsDirectoryAt t x → x ≢ root → names_of t x ≡ 1
  directory_named x d ne = once_named room x d.node.body (names_of t x) d.directory ne (is.each x d.node d.is_there).names

  -- in a directory
  pub parent_at : (x : ℕ) → IsDirectoryAt t x → x ≢ root → IsDirectoryAt t (parent t x)
  parent_at x d ne =
      let one = directory_named x d ne in
      directory_if t (parent t x) x (parent_names t x is.numbers (omega (arith, one)))

  pub under_root : (x : ℕ) → IsDirectoryAt t x → IsUnderRoot t x
  under_root x d = (is.each x d.node d.is_there).under_root d.directory

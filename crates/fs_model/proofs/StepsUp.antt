-- The way up from a directory is no longer than the tree has nodes, and meets no node that it isn't within.
use Rattle.std.specs.Prelude.{◌≡◌, ◌≢◌, ℕ, zero, suc, ◌+◌, ◌<◌, ◌≤◌, ◌==◌, true, false, not, ◌&&◌, cond, List, [], ◌∷◌, length, None, is_some, IsTrue}
use Rattle.std.proofs.Common.{refl, sym, ap, arith, ◌∙◌, subst, inl, inr}
use Rattle.std.proofs.lemmas.Bool.{cases_eq, or_parts}
use Rattle.std.proofs.lemmas.Bool.Decides.{nat_tests}
use Rattle.std.proofs.lemmas.Cmp.{nat_cmp_total}
use Rattle.std.specs.Bool.{passes}
use Rattle.std.specs.List.{AllByRecursion}
use Rattle.std.specs.Ordering.{nat_cmp, eq_by_cmp, is_eq}
use Rattle.std.specs.FinMap.Entries.{find-where_key, length_without}
use Rattle.fs_model.specs.Limits.{root}
use Rattle.fs_layout.specs.Maps.{get, without, IsMap}
use Rattle.fs_model.specs.Trees.{Tree, Room, parent, is_within, IsUnderRoot, is_root, is_in, IsDirectoryAt, IsTree}
use Rattle.fs_layout.proofs.FirstEntries.{apart, tied}
use Rattle.fs_model.proofs.StepsDemands.{and_false}
use Rattle.fs_model.proofs.StepsParents.{parent_at}
use Rattle.fs_model.proofs.StepsProcesses.{without-IsMap}

-- ---- numbers that stand in a map, each once

abbrev AreApart : List ℕ → Type 0
AreApart [] = Unit {0}
AreApart (x ∷ xs) = AllByRecursion (λ y. y ≢ x) xs × AreApart xs

get-without : {X : Type 0} (m : List (ℕ × X)) (k q : ℕ) → q ≢ k → get nat_cmp (without nat_cmp m k) q ≡ get nat_cmp m q
get-without m k q ne =
    find-where_key nat_cmp (λ z. not (eq_by_cmp nat_cmp k z)) q
    (λ z e. ap (λ w. not (eq_by_cmp nat_cmp k w)) (sym (tied q z (ap is_eq e)))) m
    ∙ ap (λ b. cond (not b) (get nat_cmp m q) None) (apart k q (λ e. ne (sym e)))

length-less : {X : Type 0} (m : List (ℕ × X)) (k : ℕ) → IsMap nat_cmp m → IsTrue (is_some (get nat_cmp m k))
    → 1 + length (without nat_cmp m k) ≡ length m
length-less m k h there =
    ap (λ b. cond b 1 0 + length (without nat_cmp m k)) (sym there) ∙ length_without nat_cmp nat_cmp_total k m (passes _ h)

still_in : {X : Type 0} (m : List (ℕ × X)) (k : ℕ) (xs : List ℕ) → AllByRecursion (λ y. y ≢ k) xs → AllByRecursion (λ y. IsTrue (is_some (get nat_cmp m y))) xs
    → AllByRecursion (λ y. IsTrue (is_some (get nat_cmp (without nat_cmp m k) y))) xs
still_in m k [] other there = tt
still_in m k (y ∷ xs) other there = (ap is_some (get-without m k y other.0) ∙ there.0, still_in m k xs other.1 there.1)

-- there are no more of them than entries
no_more : {X : Type 0} (xs : List ℕ) (m : List (ℕ × X)) → IsMap nat_cmp m → AreApart xs
    → AllByRecursion (λ y. IsTrue (is_some (get nat_cmp m y))) xs → length xs ≤ length m
no_more [] m h apart there = omega arith
no_more (x ∷ xs) m h apart there =
    let less = length-less m x h there.0 in
    let rest = no_more xs (without nat_cmp m x) (without-IsMap m x h) apart.1 (still_in m x xs apart.0 there.1) in
    omega (arith, less, rest)

-- ---- the way up

module _ (t : Tree) where
  -- the root is so many steps up
  abbrev pub IsDeep : ℕ → ℕ → Type 0
  IsDeep zero x = x ≡ root
  IsDeep (suc d) x = (x ≢ root) × IsDeep d (parent t x)

  abbrev way : ℕ → ℕ → List ℕ
  way zero x = []
  way (suc d) x = x ∷ way d (parent t x)

  pub record Depth (x : ℕ) : Type 0 where
    pub depth : ℕ
    pub is : IsDeep depth x

  depth_of : {x : ℕ} → IsUnderRoot t x → Depth x
  depth_of is_root = record { depth = 0; is = refl }
  depth_of (is_in d below) = elim (cases_eq d root) [
    | inl e ↦ record { depth = 0; is = e }
    | inr ne ↦ let above = depth_of below in record { depth = suc above.depth; is = (ne, above.is) }
  ]

  one_depth : (d e x : ℕ) → IsDeep d x → IsDeep e x → d ≡ e
  one_depth zero zero x a b = refl
  one_depth zero (suc e) x a b = absurd (b.0 a)
  one_depth (suc d) zero x a b = absurd (a.0 b)
  one_depth (suc d) (suc e) x a b = let rest = one_depth d e (parent t x) a.1 b.1 in ap suc rest

  -- what is less deep is another
  lower_apart : (far d x y : ℕ) → d < far → IsDeep far x → IsDeep d y → AllByRecursion (λ z. z ≢ x) (way d y)
  lower_apart far zero x y less deep here = tt
  lower_apart far (suc d) x y less deep here = (
    (λ e. let same = one_depth far (suc d) y (subst (IsDeep far) (sym e) deep) here in omega (arith, less, same)),
    lower_apart far d x (parent t y) (omega (arith, less)) deep here.1,
  )

  way_apart : (d x : ℕ) → IsDeep d x → AreApart (way d x)
  way_apart zero x deep = tt
  way_apart (suc d) x deep = (lower_apart (suc d) d x (parent t x) (omega arith) deep deep.1, way_apart d (parent t x) deep.1)

  length-way : (d x : ℕ) → length (way d x) ≡ d
  length-way zero x = refl
  length-way (suc d) x = let rest = length-way d (parent t x) in ap suc rest

module _ (room : Room) (t : Tree) (is : IsTree room t) where
  way_there : (d x : ℕ) → IsDirectoryAt t x → IsDeep t d x → AllByRecursion (λ y. IsTrue (is_some (get nat_cmp t y))) (way t d x)
  way_there zero x at deep = tt
  way_there (suc d) x at deep = (ap is_some at.is_there, way_there d (parent t x) (parent_at room t is x at deep.0) deep.1)

  not_deep : (d x : ℕ) → IsDirectoryAt t x → IsDeep t d x → d ≤ length t
  not_deep d x at deep =
      let few = no_more (way t d x) t is.numbers (way_apart t d x deep) (way_there d x at deep) in
      let long = length-way t d x in
      omega (arith, few, long)

-- ---- outside of a node

-- the way up from x doesn't meet n
pub record IsOutside (t : Tree) (n x : ℕ) : Type 0 where
  pub depth : ℕ
  pub far : ℕ
  pub deep : IsDeep t depth x
  pub enough : depth ≤ far
  pub outside : is_within far t n x ≡ false

pub differs : (x n : ℕ) → (x == n) ≡ false → x ≢ n
differs x n e same = let t : (x == n) ≡ true = grind (arith, nat_tests) in cc

pub outside_differs : (t : Tree) (n x : ℕ) → IsOutside t n x → x ≢ n
outside_differs t n x o = go o.far o.outside
  where
    go : (far : ℕ) → is_within far t n x ≡ false → x ≢ n
    go zero e = differs x n e
    go (suc far) e = differs x n (or_parts (x == n) (not (x == root) && is_within far t n (parent t x)) e).0

pub outside_above : (t : Tree) (n x : ℕ) → x ≢ root → IsOutside t n x → IsOutside t n (parent t x)
outside_above t n x ne o = go o.depth o.far o.deep o.enough o.outside
  where
    go : (depth far : ℕ) → IsDeep t depth x → depth ≤ far → is_within far t n x ≡ false → IsOutside t n (parent t x)
    go zero far deep enough out = absurd (ne deep)
    go (suc depth) zero deep enough out = absurd (omega (arith, enough))
    go (suc depth) (suc far) deep enough out =
        let other : not (x == root) ≡ true = (let e : (x == root) ≡ false = grind (arith, nat_tests) in ap not e) in
        record {
          depth = depth;
          far = far;
          deep = deep.1;
          enough = omega (arith, enough);
          outside = and_false (not (x == root)) (is_within far t n (parent t x)) (or_parts (x == n) (not (x == root) && is_within far t n (parent t x)) out).1 other;
        }

pub is_outside : (room : Room) (t : Tree) (n x : ℕ) → IsTree room t → IsDirectoryAt t x → is_within (length t) t n x ≡ false → IsOutside t n x
is_outside room t n x is at out =
    let deep = depth_of t ((is.each x at.node at.is_there).under_root at.directory) in
    record { depth = deep.depth; far = length t; deep = deep.is; enough = not_deep room t is deep.depth x at deep.is; outside = out }

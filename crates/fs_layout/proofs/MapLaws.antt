-- Laws of finite maps with numbers for keys.
use Rattle.std.specs.Prelude.{◌≡◌, ℕ, ◌+◌, ◌<◌, Bool, true, false, cond, T, List, [], ◌∷◌, length, is_some, sum_by}
use Rattle.std.proofs.Common.{refl, sym, ap, arith}
use Rattle.std.specs.Bool.{passes}
use Rattle.std.specs.declared.option.Option.{Option}
use Rattle.std.specs.declared.option.Option.TheVariants.{None, Some}
use Rattle.std.specs.declared.cmp.Ordering.{Ordering}
use Rattle.std.specs.declared.cmp.Ordering.TheVariants.{Less, Equal, Greater}
use Rattle.std.specs.Ordering.{nat_cmp, eq_by_cmp, is_eq, is_lt}
use Rattle.std.proofs.lemmas.Cmp.{nat_cmp_total}
use Rattle.std.specs.FinMap.{nat_cmp-IsAntisymmetric}
use Rattle.std.specs.FinMap.Entries.{find-put, length-put, same_entries, is_sorted-put, by_order}
use Rattle.std.proofs.lemmas.List.Sums.{sum_by-cons}
use Rattle.fs_layout.specs.Maps.{get, with_entry, IsMap}
use Rattle.fs_layout.proofs.FirstEntries.{above, left, right, lower, tied}

pub from_T : (b : Bool) → T b → b ≡ true
from_T true h = refl
from_T false h = absurd h

module _ {X : Type 0} where
  -- with one key set, every other key stays
  pub get-with_entry : (m : List (ℕ × X)) (k : ℕ) (x : X) (q : ℕ) → get nat_cmp (with_entry nat_cmp m k x) q ≡ cond (eq_by_cmp nat_cmp q k) (Some x) (get nat_cmp m q)
  get-with_entry m k x q = find-put nat_cmp nat_cmp_total q k x m

  pub with_entry-IsMap : (m : List (ℕ × X)) (k : ℕ) (x : X) → IsMap nat_cmp m → IsMap nat_cmp (with_entry nat_cmp m k x)
  with_entry-IsMap m k x h = from_T _ (is_sorted-put nat_cmp nat_cmp_total k x m (passes _ h))

  -- two maps that have the same at each key are one
  pub same_map : (m n : List (ℕ × X)) → IsMap nat_cmp m → IsMap nat_cmp n → ((q : ℕ) → get nat_cmp m q ≡ get nat_cmp n q) → m ≡ n
  same_map m n h i same = same_entries nat_cmp nat_cmp_total nat_cmp-IsAntisymmetric m n (passes _ h) (passes _ i) same

  -- how many entries there are
  pub length-with_entry : (m : List (ℕ × X)) (k : ℕ) (x : X) → IsMap nat_cmp m → length (with_entry nat_cmp m k x) ≡ cond (is_some (get nat_cmp m k)) (length m) (length m + 1)
  length-with_entry m k x h = length-put nat_cmp nat_cmp_total k x m (passes _ h)

  abbrev pub summand : (ℕ × X → ℕ) → ℕ → Option X → ℕ
  summand f k None = 0
  summand f k (Some x) = f (k, x)

  -- a sum over the entries, where one is set: what it had goes, and what it has comes
  pub sum-with_entry : (f : ℕ × X → ℕ) (m : List (ℕ × X)) (k : ℕ) (x : X) → IsMap nat_cmp m
      → sum_by f (with_entry nat_cmp m k x) + summand f k (get nat_cmp m k) ≡ sum_by f m + f (k, x)
  sum-with_entry f [] k x h = omega arith
  sum-with_entry f (e ∷ m) k x h =
      go (nat_cmp k e.0) refl (sum-with_entry f m k x (right _ _ h)) (get nat_cmp m k) refl
    where
      go : (o : Ordering) → nat_cmp k e.0 ≡ o
          → sum_by f (with_entry nat_cmp m k x) + summand f k (get nat_cmp m k) ≡ sum_by f m + f (k, x)
          → (r : Option X) → get nat_cmp m k ≡ r
          → sum_by f (by_order o ((k, x) ∷ e ∷ m) ((e.0, x) ∷ m) (e ∷ with_entry nat_cmp m k x)) + summand f k (cond (is_eq o) (Some e.1) (get nat_cmp m k))
          ≡ sum_by f (e ∷ m) + f (k, x)
      go Less c ih None r = rw r (omega (arith, sum_by-cons f (k, x) (e ∷ m)))
      go Less c ih (Some v) r = absurd (let low : e.0 < k = above e.0 m (left _ _ h) k v r in let less : k < e.0 = lower k e.0 (ap is_lt c) in omega arith)
      go Equal c ih _ r =
          let same : k ≡ e.0 = tied k e.0 (ap is_eq c) in
          let new : f (e.0, x) ≡ f (k, x) = ap (λ q. f (q, x)) (sym same) in
          let old : f (k, e.1) ≡ f e = ap (λ q. f (q, e.1)) same in
          omega (arith, sum_by-cons f (e.0, x) m, sum_by-cons f e m, new, old)
      go Greater c ih _ r = omega (arith, ih, sum_by-cons f e m, sum_by-cons f e (with_entry nat_cmp m k x))

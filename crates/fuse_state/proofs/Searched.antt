-- What a search finds among rising keys.
use Rattle.std.specs.Prelude.{◌≡◌, ℕ, zero, suc, ◌<◌, ◌≤◌, true, false, List, [], ◌∷◌, length, get_or, cond, refl, None, Some, Result, Ok, Err, MatchResult}
use Rattle.std.proofs.Common.{sym, ap, subst, ◌∙◌, arith, inl, inr}
use Rattle.std.proofs.lemmas.Bool.{cases_lt}
use Rattle.std.specs.declared.cmp.Ordering.{Ordering}
use Rattle.std.specs.declared.cmp.Ordering.TheVariants.{Less, Equal, Greater}
use Rattle.std.specs.Cmp.{IsTotalOrder, alike_right, tied_itself}
use Rattle.std.specs.Ordering.{is_lt, is_eq, ordering_index, ordering_reverse}
use Rattle.std.specs.FinMap.{IsAntisymmetric}
use Rattle.std.specs.FinMap.Entries.{below_all}
use Rattle.std.specs.List.Sorted.{IsSearchInRange, IsBinarySearchResult, IsNonDecreasingBy}
use Rattle.fs_layout.specs.Maps.{get, IsMap}
use Rattle.fs_layout.proofs.FirstEntries.{left, right}
use Rattle.fuse_state.specs.Tables.{IsAt, IsGap}

less : (r : Ordering) → is_lt r ≡ true → r ≡ Less
less Less h = refl
less Equal h = absurd (cc)
less Greater h = absurd (cc)

at_most_two : (r : Ordering) → ordering_index r ≤ 2
at_most_two Less = omega arith
at_most_two Equal = omega arith
at_most_two Greater = omega arith

-- what a comparison says the other way round
turned : {K : Type 0} {R : K → K → Ordering} (o : IsTotalOrder R) (x y : K) (r : Ordering) → R x y ≡ r → R y x ≡ ordering_reverse r
turned o x y r is = o.antisymm y x ∙ ap ordering_reverse is

module _ {K : Type 0} {R : K → K → Ordering} (o : IsTotalOrder R) where
  index_rises : (x y k : K) → R x y ≡ Less → ordering_index (R x k) ≤ ordering_index (R y k)
  index_rises x y k lt = go (R y k) refl
    where
      go : (r : Ordering) → R y k ≡ r → ordering_index (R x k) ≤ ordering_index r
      go Less is = subst (λ q. ordering_index q ≤ 0) (sym (o.trans x y k lt is)) (omega arith)
      go Equal is = subst (λ q. ordering_index q ≤ 1) (sym (sym (alike_right o y k x is) ∙ lt)) (omega arith)
      go Greater is = at_most_two (R x k)

  pub ties : (k q : K) → k ≡ q → is_eq (R k q) ≡ true
  ties k q same = ap is_eq (subst (λ x. R k x ≡ Equal) same (tied_itself o k))

module _ {K X : Type 0} {R : K → K → Ordering} (o : IsTotalOrder R) where
  -- ---- keys rise

  pub above_all : (k : K) (m : List (K × X)) → below_all R k m ≡ true → (j : ℕ) (e : K × X) → j < length m → R k (get_or m j e).0 ≡ Less
  above_all k [] h j e within = absurd (omega arith)
  above_all k (f ∷ m) h zero e within = less (R k f.0) (left _ _ h)
  above_all k (f ∷ m) h (suc j) e within = above_all k m (right _ _ h) j e (omega arith)

  rise : (m : List (K × X)) → IsMap R m → (i j : ℕ) (e : K × X) → i < j → j < length m → R (get_or m i e).0 (get_or m j e).0 ≡ Less
  rise [] h i j e lt within = absurd (omega arith)
  rise (f ∷ m) h i zero e lt within = absurd (omega arith)
  rise (f ∷ m) h zero (suc j) e lt within = above_all f.0 m (left _ _ h) j e (omega arith)
  rise (f ∷ m) h (suc i) (suc j) e lt within = rise m (right _ _ h) i j e (omega arith) (omega arith)

  -- ---- a binary search

  module _ (m : List (K × X)) (k : K) where
    comparisons_rise : IsMap R m → IsNonDecreasingBy (λ e. ordering_index (R e.0 k)) m
    comparisons_rise h i j e le within = elim (cases_lt i j) [
      | inl lt ↦ index_rises o _ _ k (rise m h i j e lt within)
      | inr ge ↦ (let one : i ≡ j = omega arith in subst (λ n. ordering_index (R (get_or m n e).0 k) ≤ ordering_index (R (get_or m j e).0 k)) (sym one) (omega arith))
    ]

    pub searched : IsAntisymmetric R → IsMap R m → (r : Result ℕ ℕ) → IsSearchInRange r (length m) → IsBinarySearchResult (λ e. R e.0 k) m r
        → MatchResult r (IsAt m k) (IsGap R m k)
    searched anti h (Ok i) within found = record { within = within; is = λ e. anti _ k (found e) }
    searched anti h (Err i) within parted = record {
      within = omega (arith, within);
      lower = λ j e lt. turned o _ k Less ((parted (comparisons_rise h)).0 j e (omega (arith, within, lt)) lt);
      higher = λ j e le lt. turned o _ k Greater ((parted (comparisons_rise h)).1 j e le lt);
    }

  -- ---- what stands there

  -- at another key
  at_other : (f : K × X) (m : List (K × X)) (k : K) → is_eq (R k f.0) ≡ false → get R (f ∷ m) k ≡ get R m k
  at_other f m k apart = ap (λ b. cond b (Some f.1) (get R m k)) apart

  pub later : (f : K × X) (m : List (K × X)) (k : K) (i : ℕ) → IsAt (f ∷ m) k (suc i) → IsAt m k i
  later f m k i at = record { within = omega (arith, at.within); is = at.is }

  -- an entry behind the first has a higher key
  pub first_is_lower : (f : K × X) (m : List (K × X)) (k : K) (i : ℕ) → IsMap R (f ∷ m) → IsAt (f ∷ m) k (suc i) → R k f.0 ≡ Greater
  first_is_lower f m k i h at =
      turned o f.0 k Less (subst (λ q. R f.0 q ≡ Less) (at.is f) (above_all f.0 m (left _ _ h) i f (omega (arith, at.within))))

  pub get_at : (m : List (K × X)) (k : K) (i : ℕ) (e : K × X) → IsMap R m → IsAt m k i → get R m k ≡ Some (get_or m i e).1
  get_at [] k i e h at = absurd (omega (arith, at.within))
  get_at (f ∷ m) k zero e h at = ap (λ b. cond b (Some f.1) (get R m k)) (ties o k f.0 (sym (at.is e)))
  get_at (f ∷ m) k (suc i) e h at =
      at_other f m k (ap is_eq (first_is_lower f m k i h at)) ∙ get_at m k i e (right _ _ h) (later f m k i at)

  -- no entry has the key
  abbrev pub LacksKey : List (K × X) → K → Type 0
  LacksKey m k = (j : ℕ) (e : K × X) → j < length m → is_eq (R k (get_or m j e).0) ≡ false

  pub lacks_in_gap : (m : List (K × X)) (k : K) (i : ℕ) → IsGap R m k i → LacksKey m k
  lacks_in_gap m k i gap j e within = elim (cases_lt j i) [
    | inl before ↦ ap is_eq (gap.lower j e before)
    | inr behind ↦ ap is_eq (gap.higher j e behind within)
  ]

  pub lacks_later : (f : K × X) (m : List (K × X)) (k : K) → LacksKey (f ∷ m) k → LacksKey m k
  lacks_later f m k lacks j e within = lacks (suc j) e (omega arith)

  pub get_lacking : (m : List (K × X)) (k : K) → LacksKey m k → get R m k ≡ None
  get_lacking [] k lacks = refl
  get_lacking (f ∷ m) k lacks = at_other f m k (lacks zero f (omega arith)) ∙ get_lacking m k (lacks_later f m k lacks)

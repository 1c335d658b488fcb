-- A list in order that has the elements of another is what `ordered_by` makes of the other.
--     less_commutes, insert_commutes        two elements may be put in in either order
--     ordered-set        y in the place of an element: that element put in gives what y put into the list before gives
--     ordered-swap, ordered-permutation        lists with the same elements are brought into one order
--     ordered-sorted        a list that is sorted by f of its elements stays as it is
--     ordered-unique, ordered-from_sort        a list that a sort leaves, by its elements and by f of them
use Rattle.std.proofs.Common.{◌≡◌, ℕ, zero, suc, ◌<◌, Bool, true, false, List, [], ◌∷◌, map, length, get_or, set, IsPermutation, IsSorted, IsSortedBy, is_lt, Ordering, Less, Equal, Greater, refl, sym, ap, subst, ◌∙◌, arith, map-id, suc-add, true≢false}
use Rattle.std.specs.List.{swap}
use Rattle.std.specs.Cmp.{IsTotalOrder}
use Rattle.std.specs.Ordering.{ordering_reverse}
use Rattle.std.specs.FinMap.{IsAntisymmetric}
use Rattle.std.proofs.lemmas.List.Sorted.{ranks_by, IsPermutation-keeps, IsPermutation-map}
use Rattle.fuse_plans.specs.ListingOrder.{insert_by, ordered_by}

module _ {X : Type 0} (cmp : X → X → Ordering) (o : IsTotalOrder cmp) (anti : IsAntisymmetric cmp) where
  module _ (x y : X) (less : is_lt (cmp x y) ≡ true) where
    not_back : is_lt (cmp y x) ≡ false
    not_back = (ranks_by o (λ z. z)).one_way x y less

    -- what is less than x is less than y
    less_chain : (h : X) → is_lt (cmp h x) ≡ true → is_lt (cmp h y) ≡ false → ⊥
    less_chain h p q = true≢false (sym p ∙ (ranks_by o (λ z. z)).chain h y x q not_back)

    less_commutes : (l : List X) → insert_by cmp x (insert_by cmp y l) ≡ insert_by cmp y (insert_by cmp x l)
    less_commutes [] = simp (less, not_back)
    less_commutes (h ∷ t) = go (is_lt (cmp h x)) (is_lt (cmp h y)) refl refl (less_commutes t)
      where
        go : (b c : Bool) → is_lt (cmp h x) ≡ b → is_lt (cmp h y) ≡ c → insert_by cmp x (insert_by cmp y t) ≡ insert_by cmp y (insert_by cmp x t)
            → insert_by cmp x (insert_by cmp y (h ∷ t)) ≡ insert_by cmp y (insert_by cmp x (h ∷ t))
        go true true p q rest = simp (p, q) (ap (λ l. h ∷ l) rest)
        go true false p q rest = absurd (less_chain h p q)
        go false true p q rest = simp (p, q, less)
        go false false p q rest = simp (p, q, less, not_back)

  insert_commutes : (x y : X) (l : List X) → insert_by cmp x (insert_by cmp y l) ≡ insert_by cmp y (insert_by cmp x l)
  insert_commutes x y l = go (cmp x y) refl
    where
      go : (r : Ordering) → cmp x y ≡ r → insert_by cmp x (insert_by cmp y l) ≡ insert_by cmp y (insert_by cmp x l)
      go Less is = less_commutes x y (ap is_lt is) l
      go Equal is = λ i. insert_by cmp (anti x y is i) (insert_by cmp (sym (anti x y is) i) l)
      go Greater is = sym (less_commutes y x (ap is_lt (o.antisymm y x ∙ ap ordering_reverse is)) l)

  ordered-set : (l : List X) (i : ℕ) (y d : X) → i < length l → insert_by cmp (get_or l i d) (ordered_by cmp (set l i y)) ≡ insert_by cmp y (ordered_by cmp l)
  ordered-set [] i y d within = absurd (omega arith)
  ordered-set (x ∷ xs) zero y d within = insert_commutes x y (ordered_by cmp xs)
  ordered-set (x ∷ xs) (suc i) y d within =
      insert_commutes (get_or xs i d) x _ ∙ ap (insert_by cmp x) (ordered-set xs i y d (omega arith)) ∙ insert_commutes x y (ordered_by cmp xs)

  ordered-swap : (l : List X) (i j : ℕ) (d : X) → i < length l → j < length l → ordered_by cmp (set (set l i (get_or l j d)) j (get_or l i d)) ≡ ordered_by cmp l
  ordered-swap [] i j d p q = refl
  ordered-swap (x ∷ xs) zero zero d p q = refl
  ordered-swap (x ∷ xs) zero (suc j) d p q = ordered-set xs j x d (omega arith)
  ordered-swap (x ∷ xs) (suc i) zero d p q = ordered-set xs i x d (omega arith)
  ordered-swap (x ∷ xs) (suc i) (suc j) d p q = ap (insert_by cmp x) (ordered-swap xs i j d (omega arith) (omega arith))

  ordered-permutation : (xs ys : List X) → IsPermutation xs ys → ordered_by cmp ys ≡ ordered_by cmp xs
  ordered-permutation xs ys = IsPermutation-keeps xs (λ l. ordered_by cmp l ≡ ordered_by cmp xs) refl step ys
    where
      step : (l : List X) (i j : ℕ) → i < length l → j < length l → ordered_by cmp l ≡ ordered_by cmp xs → ordered_by cmp (swap l i j) ≡ ordered_by cmp xs
      step [] i j p q is = is
      step (d ∷ l) i j p q is = ordered-swap (d ∷ l) i j d p q ∙ is

ordered-sorted : {X Y : Type 0} (f : Y → X) (cmp : X → X → Ordering) (ys : List Y) → IsSortedBy (λ x y. is_lt (cmp (f x) (f y))) ys → ordered_by cmp (map f ys) ≡ map f ys
ordered-sorted f cmp [] up = refl
ordered-sorted f cmp (x ∷ []) up = refl
ordered-sorted f cmp (x ∷ y ∷ ys) up =
    let not_less : is_lt (cmp (f y) (f x)) ≡ false = up 0 x (omega arith) (omega arith) in
    ap (insert_by cmp (f x)) (ordered-sorted f cmp (y ∷ ys) (λ k d from within. rw suc-add at (up (suc k) d (omega arith) (omega arith)))) ∙ rw not_less

pub ordered-unique : {X : Type 0} (cmp : X → X → Ordering) → IsTotalOrder cmp → IsAntisymmetric cmp
    → (xs ys : List X) → IsPermutation xs ys → IsSorted cmp ys → ys ≡ ordered_by cmp xs
ordered-unique cmp o anti xs ys same up =
    sym (subst (λ l. ordered_by cmp l ≡ l) (map-id ys) (ordered-sorted (λ x. x) cmp ys up)) ∙ ordered-permutation cmp o anti xs ys same

pub ordered-from_sort : {X Y : Type 0} (f : Y → X) (cmp : X → X → Ordering) → IsTotalOrder cmp → IsAntisymmetric cmp
    → (xs ys : List Y) → IsPermutation xs ys → IsSortedBy (λ x y. is_lt (cmp (f x) (f y))) ys → map f ys ≡ ordered_by cmp (map f xs)
ordered-from_sort f cmp o anti xs ys same up = sym (ordered-sorted f cmp ys up) ∙ ordered-permutation cmp o anti (map f xs) (map f ys) (IsPermutation-map f xs ys same)

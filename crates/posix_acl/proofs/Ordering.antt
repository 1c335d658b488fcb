-- From what a sort gives to the canonical order, and names that repeat in it.
use Rattle.std.proofs.Common.{◌≡◌, ℕ, ◌+◌, ◌*◌, ◌^◌, ◌<◌, ◌≤◌, false, List, [], ◌∷◌, length, suc, get_or, arith}
use Rattle.std.specs.Ordering.{is_lt, nat_cmp, ordering_then}
use Rattle.std.specs.List.{All, AllByRecursion}
use Rattle.std.specs.List.Sorted.{IsSortedBy, IsNonDecreasingBy}
use Rattle.std.proofs.lemmas.Bool.Decides.{nat_tests}
use Rattle.std.proofs.lemmas.List.Sorted.{IsNonDecreasingBy-from_all_adjacent}
use Rattle.posix_acl.specs.declared.entry.Entry.{Entry}
use Rattle.posix_acl.specs.Entries.{tag_number, entry}
use Rattle.posix_acl.specs.declared.entry.Tag.TheVariants.{UserObj}
use Rattle.posix_acl.specs.Order.{rank, IsOrdered}

-- the ids that entries of a program have
abbrev pub FitsAll : List Entry → Type 0
FitsAll es = All (λ e. e.id < 2 ^ 32) es

-- what a look past the end of a list of entries gives
abbrev pub blank : Entry
blank = entry UserObj 0 (record { read = false; write = false; execute = false })

pair_in_order : (a b i j : ℕ) → i < 2 ^ 32 → j < 2 ^ 32 → is_lt (ordering_then (nat_cmp b a) (nat_cmp j i)) ≡ false → a * 2 ^ 32 + i ≤ b * 2 ^ 32 + j
pair_in_order a b i j fi fj h = grind (arith, nat_tests)

pub ordered_from_sort : (es : List Entry) → FitsAll es
    → IsSortedBy (λ x y. is_lt (ordering_then (nat_cmp (tag_number x.tag) (tag_number y.tag)) (nat_cmp x.id y.id))) es → IsOrdered es
ordered_from_sort es fits up =
    by_recursion es (IsNonDecreasingBy-from_all_adjacent rank es (λ k d h. pair_in_order _ _ _ _ (fits k d (omega arith)) (fits (k + 1) d h) (up k d (omega arith) h)))
  where
    all_after : (x : Entry) (xs : List Entry) → ((j : ℕ) (d : Entry) → j < length xs → rank x ≤ rank (get_or xs j d)) → AllByRecursion (λ y. rank x ≤ rank y) xs
    all_after x [] h = tt
    all_after x (y ∷ ys) h = (h 0 y (omega arith), all_after x ys (λ j d below. h (suc j) d (omega arith)))

    by_recursion : (xs : List Entry) → IsNonDecreasingBy rank xs → IsOrdered xs
    by_recursion [] h = tt
    by_recursion (x ∷ xs) h = (
      all_after x xs (λ j d below. h 0 (suc j) d (omega arith) (omega arith)),
      by_recursion xs (λ i j d le below. h (suc i) (suc j) d (omega arith) (omega arith)),
    )

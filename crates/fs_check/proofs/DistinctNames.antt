-- Slots in the order of their names: no two have one name, where no neighbours do.
use Rattle.std.proofs.Common.{◌≡◌, ◌≢◌, ℕ, ◌+◌, ◌<◌, ◌↔◌, true, false, IsTrue, Bool, List, length, get_or, sym, ap, ◌∙◌, arith}
use Rattle.std.specs.Cmp.{IsStrictWeakOrder}
use Rattle.std.specs.Ordering.{is_lt}
use Rattle.std.specs.List.Sorted.{IsPermutation, IsSortedBy}
use Rattle.std.proofs.lemmas.Cmp.{nat_list_cmp_total}
use Rattle.std.proofs.lemmas.List.Sorted.{ranks_by, sorted_far, IsPermutation-sym}
use Rattle.fs_layout.specs.Maps.{name_cmp}
use Rattle.fs_layout.specs.Directories.{NamedInode, HaveDistinctNames}
use Rattle.fs_layout.proofs.DistinctNames.{name_of, apart_permuted, less_of}
use Rattle.fs_check.specs.Naming.{is_below}

pub names_rank : IsStrictWeakOrder is_below
names_rank = ranks_by nat_list_cmp_total name_of

module _ (xs : List NamedInode) (up : IsSortedBy is_below xs) where
  neighbours_suffice : ((k : ℕ) (d : NamedInode) → k + 1 < length xs → (get_or xs k d).name ≢ (get_or xs (k + 1) d).name) → HaveDistinctNames xs
  neighbours_suffice apart i j d less lt same =
      let far : is_lt (name_cmp (get_or xs j d).name (get_or xs (i + 1) d).name) ≡ false =
      sorted_far is_below names_rank xs up (i + 1) j d (omega (arith, less)) lt in
      let near : is_lt (name_cmp (get_or xs i d).name (get_or xs (i + 1) d).name) ≡ true =
      ap is_lt (less_of (get_or xs i d).name (get_or xs (i + 1) d).name (up i d (omega arith) (omega (arith, less, lt))) (apart i d (omega (arith, less, lt)))) in
      let c : false ≡ true = sym far ∙ ap (λ (a : List ℕ). is_lt (name_cmp a (get_or xs (i + 1) d).name)) (sym same) ∙ near in
      cc

pub apart_if_sorted : (xs ys : List NamedInode) (b : Bool) → IsPermutation xs ys → IsSortedBy is_below ys
    → (IsTrue b ↔ ((k : ℕ) (d : NamedInode) → k + 1 < length ys → (get_or ys k d).name ≢ (get_or ys (k + 1) d).name)) → IsTrue b ↔ HaveDistinctNames xs
apart_if_sorted xs ys b moved up test = (
  (λ t. apart_permuted ys xs (IsPermutation-sym xs ys moved) (neighbours_suffice ys up (test.0 t))),
  (λ apart. test.1 (λ k d lt. apart_permuted xs ys moved apart k (k + 1) d (omega arith) lt)),
)

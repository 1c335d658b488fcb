-- Names of which no two are the same: they stay so in any other order.
use Rattle.std.proofs.Common.{◌≡◌, ◌≢◌, ℕ, ◌<◌, false, List, length, map, refl, sym, ap, ◌∙◌, arith}
use Rattle.std.specs.Prelude.{AllPairs}
use Rattle.std.specs.declared.cmp.Ordering.{Ordering}
use Rattle.std.specs.declared.cmp.Ordering.TheVariants.{Less, Equal, Greater}
use Rattle.std.specs.Ordering.{is_lt, ordering_reverse}
use Rattle.std.specs.List.Sorted.{IsPermutation}
use Rattle.std.specs.Str.{bytes_eq}
use Rattle.std.specs.FinMap.{nat_cmp-IsAntisymmetric, slice_cmp-IsAntisymmetric}
use Rattle.std.proofs.lemmas.Cmp.{nat_list_cmp_total}
use Rattle.std.proofs.lemmas.Slice.Eq.{bytes_eq-Decides}
use Rattle.std.proofs.lemmas.List.{get_or-map, length-map}
use Rattle.std.proofs.lemmas.List.Sorted.{IsPermutation-map}
use Rattle.std.proofs.lemmas.Map.Keys.{IsDistinct-IsPermutation}
use Rattle.std.proofs.lemmas.Map.Made.{AllPairs-from_IsDistinct, IsDistinct-from_AllPairs}
use Rattle.std.proofs.lemmas.Bool.Decides.{same_from_decides}
use Rattle.fs_layout.specs.Maps.{name_cmp}
use Rattle.fs_layout.specs.Directories.{NamedInode, HaveDistinctNames}

abbrev pub name_of : NamedInode → List ℕ
name_of x = x.name

flips : (a b : List ℕ) → bytes_eq a b ≡ bytes_eq b a
flips a b =
    same_from_decides (bytes_eq a b) (bytes_eq b a) (bytes_eq-Decides a b)
    ((λ e. sym ((bytes_eq-Decides b a).0 e)), (λ e. (bytes_eq-Decides b a).1 (sym e)))

pairs_to_names : (xs : List NamedInode) → HaveDistinctNames xs → AllPairs (λ a b. a ≢ b) (map name_of xs)
pairs_to_names xs apart i j d less lt same =
    let long : length (map name_of xs) ≡ length xs = length-map xs name_of in
    let none : NamedInode = record { ino = 0; name = d } in
    let below : j < length xs = omega (arith, lt, long) in
    apart i j none less below
    (sym (get_or-map name_of xs i none d (omega (arith, less, below))) ∙ same ∙ get_or-map name_of xs j none d below)

pairs_from_names : (xs : List NamedInode) → AllPairs (λ a b. a ≢ b) (map name_of xs) → HaveDistinctNames xs
pairs_from_names xs apart i j d less lt same =
    let long : length (map name_of xs) ≡ length xs = length-map xs name_of in
    apart i j d.name less (omega (arith, lt, long))
    (get_or-map name_of xs i d d.name (omega (arith, less, lt)) ∙ same ∙ sym (get_or-map name_of xs j d d.name lt))

pub apart_permuted : (xs ys : List NamedInode) → IsPermutation xs ys → HaveDistinctNames xs → HaveDistinctNames ys
apart_permuted xs ys moved apart =
    pairs_from_names ys (AllPairs-from_IsDistinct bytes_eq-Decides (map name_of ys)
    (IsDistinct-IsPermutation bytes_eq flips (map name_of xs) (map name_of ys) (IsPermutation-map name_of xs ys moved)
    (IsDistinct-from_AllPairs bytes_eq-Decides (map name_of xs) (pairs_to_names xs apart))))

-- where the second is not below the first, the first is below the second
pub less_of : (a b : List ℕ) → is_lt (name_cmp b a) ≡ false → a ≢ b → name_cmp a b ≡ Less
less_of a b not_below ne = go (name_cmp b a) refl not_below
  where
    go : (o : Ordering) → name_cmp b a ≡ o → is_lt o ≡ false → name_cmp a b ≡ Less
    go Less e above = absurd cc
    go Equal e above = absurd (ne (sym (slice_cmp-IsAntisymmetric nat_cmp-IsAntisymmetric b a e)))
    go Greater e above = nat_list_cmp_total.antisymm a b ∙ ap ordering_reverse e

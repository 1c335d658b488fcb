-- Slots in the order of their names are the map of their names.
use Rattle.std.proofs.Common.{◌≡◌, ℕ, suc, ◌<◌, List, [], ◌∷◌, length, get_or, map, Option, Some, None, refl, sym, ap, ◌∙◌, arith}
use Rattle.std.specs.declared.cmp.Ordering.TheVariants.{Less}
use Rattle.std.specs.Ordering.{is_lt}
use Rattle.std.specs.List.Sorted.{IsPermutation, IsSortedBy}
use Rattle.std.specs.FinMap.Entries.{by_order}
use Rattle.std.proofs.lemmas.Cmp.{nat_list_cmp_total}
use Rattle.std.proofs.lemmas.List.Sorted.{ranks_by, sorted_far, Contains-permutation, IsPermutation-sym}
use Rattle.fs_layout.specs.Maps.{name_cmp, get, with_entry}
use Rattle.fs_layout.specs.Directories.{NamedInode, HaveDistinctNames, names_of_slots}
use Rattle.fs_layout.proofs.DistinctNames.{name_of, apart_permuted, less_of}
use Rattle.fs_layout.proofs.MapEntries.{names_have_entries}
use Rattle.fs_layout.proofs.ReadNames.{are_names_of}
use Rattle.dir_core.specs.Slots.{name_entry}

-- ---- in order
-- the names rise
abbrev DoRise : List NamedInode → Type 0
DoRise xs = (i j : ℕ) (d : NamedInode) → i < j → j < length xs → name_cmp (get_or xs i d).name (get_or xs j d).name ≡ Less

rising : (xs : List NamedInode) → HaveDistinctNames xs → IsSortedBy (λ x y. is_lt (name_cmp x.name y.name)) xs → DoRise xs
rising xs apart up i j d less lt =
    less_of (get_or xs i d).name (get_or xs j d).name
    (sorted_far (λ x y. is_lt (name_cmp x.name y.name)) (ranks_by nat_list_cmp_total name_of) xs up i j d (omega (arith, less)) lt)
    (apart i j d less lt)

risen_tail : (x : NamedInode) (xs : List NamedInode) → DoRise (x ∷ xs) → DoRise xs
risen_tail x xs rise i j d less lt = rise (suc i) (suc j) d (omega (arith, less)) (omega (arith, lt))

entries_are : (xs : List NamedInode) → DoRise xs → names_of_slots xs ≡ map name_entry xs
unfolding names_of_slots
entries_are [] rise = refl
entries_are (x ∷ []) rise = refl
entries_are (x ∷ y ∷ ys) rise =
    let less : name_cmp x.name y.name ≡ Less = rise 0 1 x (omega arith) (omega arith) in
    ap (λ m. with_entry name_cmp m x.name x.ino) (entries_are (y ∷ ys) (risen_tail x (y ∷ ys) rise))
    ∙ ap (λ o. by_order o (name_entry x ∷ map name_entry (y ∷ ys)) ((y.name, x.ino) ∷ map name_entry ys) (name_entry y ∷ with_entry name_cmp (map name_entry ys) x.name x.ino)) less

-- ---- the same names in another order
same_names : (xs ys : List NamedInode) → IsPermutation xs ys → HaveDistinctNames xs → HaveDistinctNames ys → names_of_slots ys ≡ names_of_slots xs
same_names xs ys moved ax ay =
    let nx = are_names_of xs ax in
    let ny = are_names_of ys ay in
    names_have_entries.one (names_of_slots ys) (names_of_slots xs) ny.map_is nx.map_is (λ q. go q (get name_cmp (names_of_slots ys) q) (get name_cmp (names_of_slots xs) q) refl refl)
  where
    go : (q : List ℕ) (a b : Option ℕ) → get name_cmp (names_of_slots ys) q ≡ a → get name_cmp (names_of_slots xs) q ≡ b → get name_cmp (names_of_slots ys) q ≡ get name_cmp (names_of_slots xs) q
    go q None None e f = e ∙ sym f
    go q (Some n) b e f =
        e ∙ sym (((are_names_of xs ax).each q n).1 (Contains-permutation ys xs _ (IsPermutation-sym xs ys moved) (((are_names_of ys ay).each q n).0 e)))
    go q None (Some n) e f =
        ((are_names_of ys ay).each q n).1 (Contains-permutation xs ys _ moved (((are_names_of xs ax).each q n).0 f)) ∙ sym f

pub sorted_entries : (xs ys : List NamedInode) → IsPermutation xs ys → HaveDistinctNames xs → IsSortedBy (λ x y. is_lt (name_cmp x.name y.name)) ys
    → map name_entry ys ≡ names_of_slots xs
sorted_entries xs ys moved apart up =
    let other = apart_permuted xs ys moved apart in
    sym (entries_are ys (rising ys other up)) ∙ same_names xs ys moved apart other

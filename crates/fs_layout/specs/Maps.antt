-- A finite map is the list of its entries, their keys rising: equal maps are equal lists.
--     get, with_entry, without        what it has at a key; with a key set; without a key
--     IsMap        the keys rise
--     name_cmp        the order of names, bytewise
use Rattle.std.specs.Prelude.{ℕ, not, List, Option, IsTrue}
use Rattle.std.specs.declared.cmp.Ordering.{Ordering}
use Rattle.std.specs.Ordering.{nat_cmp, eq_by_cmp}
use Rattle.std.specs.Cmp.Lexicographic.{slice_cmp}
use Rattle.std.specs.FinMap.{find, put, is_sorted}
use Rattle.std.specs.List.{filter}

abbrev pub name_cmp : List ℕ → List ℕ → Ordering
name_cmp = slice_cmp nat_cmp

-- what stands at the key
abbrev pub get : {K X : Type 0} → (K → K → Ordering) → List (K × X) → K → Option X
get R m k = find R k m

-- the map that has x at the key, and else what m has
abbrev pub with_entry : {K X : Type 0} → (K → K → Ordering) → List (K × X) → K → X → List (K × X)
with_entry R m k x = put R k x m

-- the map that has nothing at the key, and else what m has
abbrev pub without : {K X : Type 0} → (K → K → Ordering) → List (K × X) → K → List (K × X)
without R m k = filter (λ e. not (eq_by_cmp R k e.0)) m

abbrev pub IsMap : {K X : Type 0} → (K → K → Ordering) → List (K × X) → Type 0
IsMap R m = IsTrue (is_sorted R m)

-- The laws of the offsets in listings.
--     behind-all        behind an offset stand all the names that are listed from it on
--     listings-go_on, names-keep_their_offsets        the laws
--     offset_further, goes_on        in a listing from any offset: each offset in it is greater, and the names behind each are the ones after it
--     NeverFall, ordered-never_fall        places that don't fall along a list, and that those of a listing don't
--     keep_places        where each place is also another than the one before, the offsets are the places
use Rattle.std.specs.Prelude.{◌≡◌, ◌≢◌, ℕ, zero, suc, ◌+◌, ◌<◌, ◌≤◌, nat_lt, Bool, true, false, List, [], ◌∷◌, length, map, drop, slice_get, slice_index_or, Some, codes, bytes_eq, if◌then◌else◌}
use Rattle.std.specs.List.{filter}
use Rattle.std.specs.Ordering.{ordering_then, nat_cmp, is_lt}
use Rattle.std.specs.declared.cmp.Ordering.{Ordering}
use Rattle.std.proofs.Common.{refl, sym, ap, ◌∙◌, arith, add-one}
use Rattle.std.proofs.lemmas.Bool.{lt-ltb, le-ltb}
use Rattle.std.proofs.lemmas.Bool.Decides.{nat_tests}
use Rattle.fuse_plans.specs.ListingOrder.{listing_place, insert_by, compare_listed, in_order, offset_behind, with_offsets}
use Rattle.fuse_plans.specs.ListingLaws.{ListingsGoOn, HaveOwnPlaces, NamesKeepTheirOffsets}

-- ---- listings go on

further : (before : ℕ) (name : List ℕ) → before < offset_behind before name
further before name = omega arith

pub behind-all : (offset before : ℕ) (names : List (List ℕ × ℕ)) → offset ≤ before
    → filter (λ e. nat_lt offset e.0) (with_offsets before names) ≡ with_offsets before names
behind-all offset before [] le = refl
behind-all offset before (e ∷ es) le =
    let next : ℕ = offset_behind before e.0 in
    let more = further before e.0 in
    let passes : nat_lt offset next ≡ true = lt-ltb _ _ (omega arith) in
    rw passes (ap (λ rest. (next, e) ∷ rest) (behind-all offset next es (omega arith)))

offset_further : (before : ℕ) (names : List (List ℕ × ℕ)) (i : ℕ) (e : ℕ × (List ℕ × ℕ)) → slice_get (with_offsets before names) i ≡ Some e
    → before < e.0
offset_further before [] i e at = absurd (cc)
offset_further before (n ∷ ns) zero e at = let is : offset_behind before n.0 ≡ e.0 = cc in omega (arith, further before n.0)
offset_further before (n ∷ ns) (suc i) e at = omega (arith, further before n.0, offset_further (offset_behind before n.0) ns i e at)

goes_on : (before : ℕ) (names : List (List ℕ × ℕ)) (i : ℕ) (e : ℕ × (List ℕ × ℕ)) → slice_get (with_offsets before names) i ≡ Some e
    → filter (λ x. nat_lt e.0 x.0) (with_offsets before names) ≡ drop (suc i) (with_offsets before names)
goes_on before [] i e at = absurd (cc)
goes_on before (n ∷ ns) zero e at =
    let next : ℕ = offset_behind before n.0 in
    let is : e.0 ≡ next = cc in
    let fails : nat_lt e.0 next ≡ false = le-ltb _ _ (omega arith) in
    rw fails (behind-all e.0 next ns (omega arith))
goes_on before (n ∷ ns) (suc i) e at =
    let next : ℕ = offset_behind before n.0 in
    let more = offset_further next ns i e at in
    let fails : nat_lt e.0 next ≡ false = le-ltb _ _ (omega arith) in
    rw fails (goes_on next ns i e at)

pub listings-go_on : ListingsGoOn
listings-go_on names i e at = goes_on 0 names i e at ∙ ap (λ k. drop k (with_offsets 0 names)) (sym (add-one i))

-- ---- names keep their offsets

abbrev NeverFall : ℕ → List (List ℕ × ℕ) → Type 0
NeverFall place [] = Unit
NeverFall place (e ∷ es) = (place ≤ listing_place e.0) × NeverFall (listing_place e.0) es

less_first : (x y : ℕ) (o : Ordering) → is_lt (ordering_then (nat_cmp x y) o) ≡ true → x ≤ y
less_first x y o is = grind (arith, nat_tests)

not_less_first : (x y : ℕ) (o : Ordering) → is_lt (ordering_then (nat_cmp x y) o) ≡ false → y ≤ x
not_less_first x y o is = grind (arith, nat_tests)

insert-never_fall : (place : ℕ) (x : List ℕ × ℕ) (l : List (List ℕ × ℕ)) → place ≤ listing_place x.0 → NeverFall place l
    → NeverFall place (insert_by compare_listed x l)
insert-never_fall place x [] le up = (le, tt)
insert-never_fall place x (y ∷ ys) le up = go (is_lt (compare_listed y x)) refl (λ more. insert-never_fall (listing_place y.0) x ys more up.1)
  where
    go : (b : Bool) → is_lt (compare_listed y x) ≡ b → (listing_place y.0 ≤ listing_place x.0 → NeverFall (listing_place y.0) (insert_by compare_listed x ys))
        → NeverFall place (insert_by compare_listed x (y ∷ ys))
    go true is rest = rw is (up.0, rest (less_first _ _ _ is))
    go false is rest = rw is (le, (not_less_first _ _ _ is, up.1))

ordered-never_fall : (names : List (List ℕ × ℕ)) → NeverFall 0 (in_order names)
ordered-never_fall [] = tt
ordered-never_fall (x ∷ xs) = insert-never_fall 0 x (in_order xs) (omega arith) (ordered-never_fall xs)

place-positive : (name : List ℕ) → 0 < listing_place name
unfolding listing_place
place-positive name = go (bytes_eq name (codes ".")) (bytes_eq name (codes "..")) _
  where
    go : (b c : Bool) (n : ℕ) → 0 < (if b then 1 else if c then 2 else 3 + n)
    go true c n = omega arith
    go false true n = omega arith
    go false false n = omega arith

-- the names' first place is another than before, as each place after it is than the one before that
keep_places : (before : ℕ) (names : List (List ℕ × ℕ)) → ((d : List ℕ × ℕ) → 0 < length names → before ≢ listing_place (slice_index_or names 0 d).0)
    → NeverFall before names → HaveOwnPlaces names → with_offsets before names ≡ map (λ e. (listing_place e.0, e)) names
keep_places before [] first up own = refl
keep_places before (e ∷ es) first up own =
    let differs = first e (omega arith) in
    let is : offset_behind before e.0 ≡ listing_place e.0 = omega arith in
    let later : HaveOwnPlaces es = λ i j d lt within. own (suc i) (suc j) d (omega arith) (omega arith) in
    rw is (ap (λ l. (listing_place e.0, e) ∷ l) (keep_places (listing_place e.0) es (λ d within. own 0 1 d (omega arith) (omega arith)) up.1 later))

pub names-keep_their_offsets : NamesKeepTheirOffsets
names-keep_their_offsets names own = keep_places 0 (in_order names) first (ordered-never_fall names) own
  where
    first : (d : List ℕ × ℕ) → 0 < length (in_order names) → 0 ≢ listing_place (slice_index_or (in_order names) 0 d).0
    first d within is = absurd (omega (arith, place-positive (slice_index_or (in_order names) 0 d).0))

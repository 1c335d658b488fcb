-- Where the components of a path begin and end.
use Rattle.std.specs.Prelude.{◌≡◌, ℕ, suc, ◌+◌, ◌-◌, ◌<◌, ◌≤◌, ◌==◌, nat_lt, Bool, true, false, not, cond, List, [], ◌∷◌, ◌++◌, length, take, drop, None, Some}
use Rattle.std.proofs.Common.{refl, sym, ap, subst, get_or, arith, ◌∙◌, length-drop, drop-cons}
use Rattle.std.proofs.lemmas.Bool.{ltb-true, ltb-false}
use Rattle.std.proofs.lemmas.List.Sums.{passes_at_first, prefix_len-le-length}
use Rattle.std.proofs.lemmas.List.{drop-drop, drop_all}
use Rattle.std.specs.List.{filter, slice_split, onto_first, position, position_or_len}
use Rattle.std.proofs.lemmas.List.Elements.{filter-append}
use Rattle.fs_model.specs.Parts.{slash, is_empty, components_of}
use Rattle.path_walk.specs.Components.{component_len, IsNext}

-- ---- pieces
abbrev pieces : List ℕ → List (List ℕ)
pieces path = slice_split (λ b. b == slash) path

abbrev nonempty : List (List ℕ) → List (List ℕ)
nonempty ps = filter (λ piece. not (is_empty piece)) ps

abbrev has_piece : List (List ℕ) → Bool
has_piece [] = false
has_piece (p ∷ ps) = true

onto_has : (b : ℕ) (ps : List (List ℕ)) → has_piece (onto_first b ps) ≡ true
onto_has b [] = refl
onto_has b (p ∷ ps) = refl

-- there is always a piece
pieces_some : (path : List ℕ) → has_piece (pieces path) ≡ true
pieces_some [] = refl
pieces_some (b ∷ path) = go (b == slash)
  where
    go : (t : Bool) → has_piece (cond t ([] ∷ pieces path) (onto_first b (pieces path))) ≡ true
    go true = refl
    go false = onto_has b (pieces path)

onto_append : (b : ℕ) (ps qs : List (List ℕ)) → has_piece ps ≡ true → onto_first b (ps ++ qs) ≡ onto_first b ps ++ qs
onto_append b [] qs some = absurd (cc)
onto_append b (p ∷ ps) qs some = refl

pieces_append : (xs ys : List ℕ) → pieces (xs ++ (slash ∷ ys)) ≡ pieces xs ++ pieces ys
pieces_append [] ys = refl
pieces_append (b ∷ xs) ys = go (b == slash) (pieces_append xs ys)
  where
    go : (t : Bool) → pieces (xs ++ (slash ∷ ys)) ≡ pieces xs ++ pieces ys → cond t ([] ∷ pieces (xs ++ (slash ∷ ys))) (onto_first b (pieces (xs ++ (slash ∷ ys))))
        ≡ cond t ([] ∷ pieces xs) (onto_first b (pieces xs)) ++ pieces ys
    go true e = ap (λ (ps : List (List ℕ)). [] ∷ ps) e
    go false e = ap (onto_first b) e ∙ onto_append b (pieces xs) (pieces ys) (pieces_some xs)

-- the components of one path and then of another
pub components_joined : (xs ys : List ℕ) → components_of (xs ++ (slash ∷ ys)) ≡ components_of xs ++ components_of ys
components_joined xs ys = ap nonempty (pieces_append xs ys) ∙ filter-append (λ piece. not (is_empty piece)) (pieces xs) (pieces ys)

-- ---- the next component
one_more : (n : ℕ) → 1 + n ≡ suc n
one_more n = omega arith

-- how many slashes a path begins with
abbrev slashes : List ℕ → ℕ
slashes path = position_or_len (λ b. not (b == 47)) path

-- slashes make no components
without_slashes : (path : List ℕ) → components_of path ≡ components_of (drop (slashes path) path)
without_slashes [] = refl
without_slashes (b ∷ path) = go (b == 47) refl (without_slashes path)
  where
    go : (t : Bool) → (b == 47) ≡ t → components_of path ≡ components_of (drop (slashes path) path) → components_of (b ∷ path) ≡ components_of (drop (cond (not (not t)) (1 + slashes path) 0) (b ∷ path))
    go true e rest =
        ap (λ (u : Bool). nonempty (cond u ([] ∷ pieces path) (onto_first b (pieces path)))) e ∙ rest
        ∙ ap (λ (n : ℕ). components_of (drop n (b ∷ path))) (sym (one_more (slashes path)))
    go false e rest = refl

-- what comes before the first slash is a piece
record IsCut (path : List ℕ) : Type 0 where
  behind : List (List ℕ)
  is : pieces path ≡ take (component_len path) path ∷ behind
  names : nonempty behind ≡ components_of (drop (component_len path) path)

len_other : (b : ℕ) (path : List ℕ) → (b == 47) ≡ false → component_len (b ∷ path) ≡ suc (component_len path)
len_other b path e = ap (λ (u : Bool). cond (not u) (1 + component_len path) 0) e ∙ one_more (component_len path)

cut : (path : List ℕ) → IsCut path
cut [] = record { behind = []; is = refl; names = refl }
cut (b ∷ path) = go (b == 47) refl (cut path)
  where
    is_cond : (u : Bool) → (b == 47) ≡ u → pieces (b ∷ path) ≡ cond u ([] ∷ pieces path) (onto_first b (pieces path))
    is_cond u e = ap (λ (v : Bool). cond v ([] ∷ pieces path) (onto_first b (pieces path))) e

    go : (u : Bool) → (b == 47) ≡ u → IsCut path → IsCut (b ∷ path)
    go true e r =
        let none : component_len (b ∷ path) ≡ 0 = ap (λ (u : Bool). cond (not u) (1 + component_len path) 0) e in record {
          behind = pieces path;
          is = is_cond true e ∙ ap (λ (n : ℕ). take n (b ∷ path) ∷ pieces path) (sym none);
          names = ap nonempty (sym (is_cond true e)) ∙ ap (λ (n : ℕ). components_of (drop n (b ∷ path))) (sym none);
        }
    go false e r =
        let more = len_other b path e in record {
          behind = r.behind;
          is = is_cond false e ∙ ap (onto_first b) r.is ∙ ap (λ (n : ℕ). take n (b ∷ path) ∷ r.behind) (sym more);
          names = r.names ∙ ap (λ (n : ℕ). components_of (drop n (b ∷ path))) (sym more);
        }

-- where a path begins with no slash, that is its first component
first_component : (b : ℕ) (path : List ℕ) → (b == 47) ≡ false
    → components_of (b ∷ path) ≡ take (component_len (b ∷ path)) (b ∷ path) ∷ components_of (drop (component_len (b ∷ path)) (b ∷ path))
first_component b path e =
    let c = cut (b ∷ path) in
    let more = len_other b path e in
    let whole : List ℕ = b ∷ path in
    ap nonempty c.is ∙ ap (λ (n : ℕ). nonempty (take n whole ∷ c.behind)) more
    ∙ ap (λ (names : List (List ℕ)). take (suc (component_len path)) whole ∷ names) c.names
    ∙ ap (λ (n : ℕ). take n whole ∷ components_of (drop (component_len whole) whole)) (sym more)

abbrev StartsWithin : List ℕ → Type 0
StartsWithin [] = ⊥
StartsWithin (b ∷ l) = (b == 47) ≡ false

cut_of : (l : List ℕ) → StartsWithin l → components_of l ≡ take (component_len l) l ∷ components_of (drop (component_len l) l)
cut_of [] h = absurd h
cut_of (b ∷ l) h = first_component b l h

drop_twice : (n k : ℕ) (xs : List ℕ) → drop k (drop n xs) ≡ drop (n + k) xs
drop_twice n k xs = drop-drop k n xs

some_is : (b : Bool) (n k : ℕ) → cond b (Some n) None ≡ Some k → (b ≡ true) × (n ≡ k)
some_is true n k e = (refl, cc)
some_is false n k e = absurd (cc)

none_is : (b : Bool) (n : ℕ) → cond b (Some n) None ≡ None → b ≡ false
none_is true n e = absurd (cc)
none_is false n e = refl

not_slash : (u : Bool) → not u ≡ true → u ≡ false
not_slash true e = absurd (cc)
not_slash false e = refl

-- where all that is left is slashes, there is none
pub next_none : (path : List ℕ) → position (λ b. not (b == 47)) path ≡ None → components_of path ≡ []
next_none path e =
    let b = none_is (nat_lt (slashes path) (length path)) (slashes path) e in
    let past : length path ≤ slashes path = ltb-false (slashes path) (length path) b in
    without_slashes path ∙ ap components_of (drop_all (slashes path) path past)

pub next_found : (path : List ℕ) (at k len : ℕ) → at ≤ length path → position (λ b. not (b == 47)) (drop at path) ≡ Some k
    → len ≡ component_len (drop (at + k) path) → IsNext path at (at + k) (at + k + len)
next_found path at k len low e is =
    let ahead : List ℕ = drop at path in
    let s = some_is (nat_lt (slashes ahead) (length ahead)) (slashes ahead) k e in
    let lt : slashes ahead < length ahead = ltb-true (slashes ahead) (length ahead) s.0 in
    let b : ℕ = get_or ahead k 0 in
    let inside : k < length ahead = subst (λ (n : ℕ). n < length ahead) s.1 lt in
    let other : (b == 47) ≡ false =
    not_slash (b == 47) (ap (λ (n : ℕ). not (get_or ahead n 0 == 47)) (sym s.1) ∙ passes_at_first (λ b. not (b == 47)) ahead 0 lt) in
    let from : drop (at + k) path ≡ b ∷ drop (suc k) ahead = sym (drop_twice at k path) ∙ drop-cons ahead k 0 inside in
    let size : length ahead ≡ length path - at = length-drop at path in
    let bound : component_len (drop (at + k) path) ≤ length (drop (at + k) path) = prefix_len-le-length (λ b. not (b == 47)) (drop (at + k) path) in
    let left : length (drop (at + k) path) ≡ length path - (at + k) = length-drop (at + k) path in
    let more : component_len (drop (at + k) path) ≡ suc (component_len (drop (suc k) ahead)) = ap component_len from ∙ len_other b (drop (suc k) ahead) other in
    let width : at + k + len - (at + k) ≡ len = omega arith in
    record {
      after = omega arith;
      some = omega (arith, is, more);
      inside = omega (arith, is, bound, left, inside, size, low);
      is = without_slashes ahead
          ∙ ap (λ (n : ℕ). components_of (drop n ahead)) s.1
          ∙ ap components_of (drop_twice at k path)
          ∙ cut_of (drop (at + k) path) (subst (λ (l : List ℕ). StartsWithin l) (sym from) other)
          ∙ ap (λ (n : ℕ). take n (drop (at + k) path) ∷ components_of (drop (component_len (drop (at + k) path)) (drop (at + k) path))) (sym is ∙ sym width)
          ∙ ap (λ (n : ℕ). take (at + k + len - (at + k)) (drop (at + k) path) ∷ components_of (drop n (drop (at + k) path))) (sym is)
          ∙ ap (λ (l : List ℕ). take (at + k + len - (at + k)) (drop (at + k) path) ∷ components_of l) (drop_twice (at + k) len path);
    }

-- ---- how long it is
pub len_some : (path : List ℕ) (n : ℕ) → position (λ b. b == 47) path ≡ Some n → n ≡ component_len path
len_some path n e = sym (some_is (nat_lt (component_len path) (length path)) (component_len path) n e).1

pub len_none : (path : List ℕ) → position (λ b. b == 47) path ≡ None → length path ≡ component_len path
len_none path e =
    let past : length path ≤ component_len path =
    ltb-false (component_len path) (length path) (none_is (nat_lt (component_len path) (length path)) (component_len path) e) in
    let most : component_len path ≤ length path = prefix_len-le-length (λ b. not (b == 47)) path in
    omega (arith, past, most)

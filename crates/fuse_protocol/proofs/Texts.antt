-- Where a test first passes, and what stands before that place.
use Rattle.std.proofs.Common.{◌≡◌, ℕ, suc, ◌+◌, ◌<◌, Bool, true, false, cond, List, [], ◌∷◌, length, take, Option, Some, None, drop, refl, sym, ap, ◌∙◌, option_map, option_and_then, ◌≤◌, arith}
use Rattle.std.specs.List.{list_any, position, position_from}
use Rattle.std.proofs.lemmas.Iterator.Adapters.{position_from-zero}
use Rattle.std.proofs.lemmas.List.{drop_all}
use Rattle.fuse_protocol.specs.Names.{is_nul, is_slash, as_name, text_of, name_from}

-- no item of a list passes before an index in it
pub record IsFirstPlace (p : ℕ → Bool) (xs : List ℕ) (k : ℕ) : Type 0 where
  pub within : k < length xs
  pub before : list_any p (take k xs) ≡ false

found_from : (p : ℕ → Bool) (i n : ℕ) (xs : List ℕ) → position_from p i xs ≡ Some n → (k : ℕ) × (n ≡ i + k) × IsFirstPlace p xs k
found_from p i n [] e = cc
found_from p i n (x ∷ xs) e =
    elim (p x) as (λ b. p x ≡ b → cond b (Some i) (position_from p (i + 1) xs) ≡ Some n → (k : ℕ) × (n ≡ i + k) × IsFirstPlace p (x ∷ xs) k) [
      | true ↦ λ is found. let same : i ≡ n = cc in (0, omega (arith, same), record { within = omega arith; before = refl })
      | false ↦ λ is found.
          let r = found_from p (i + 1) n xs found in
          let within : r.0 < length xs = r.2.within in
          (suc r.0, omega (arith, r.1), record { within = omega (arith, within); before = rw is r.2.before })
    ] refl e

pub found_first : (p : ℕ → Bool) (n : ℕ) (xs : List ℕ) → position p xs ≡ Some n → IsFirstPlace p xs n
found_first p n xs e =
    let r = found_from p 0 n xs (sym (position_from-zero p xs) ∙ e) in
    let same : r.0 ≡ n = omega (arith, r.1) in
    rw same at r.2

-- the text that begins at an offset, by the place of the NUL
pub text_by_place : (s : List ℕ) (at : ℕ) (place : Option ℕ) → place ≡ position is_nul (drop at s)
    → option_map (λ end. take end (drop at s)) place ≡ text_of s at
unfolding text_of
text_by_place s at place e = ap (option_map (λ end. take end (drop at s))) e

pub no_text_past : (s : List ℕ) (at : ℕ) → length s ≤ at → None ≡ text_of s at
no_text_past s at past = text_by_place s at None (ap (position is_nul) (sym (drop_all at s past)))

-- the name, by the text
pub name_by_text : (s : List ℕ) (at : ℕ) (text : Option (List ℕ)) → text ≡ text_of s at → option_and_then as_name text ≡ name_from s at
unfolding name_from
name_by_text s at text e = ap (option_and_then as_name) e

pub no_name_of : (s : List ℕ) (at : ℕ) → None ≡ text_of s at → None ≡ name_from s at
no_name_of s at e = name_by_text s at None e

pub with_slash : (s text : List ℕ) (at : ℕ) → Some text ≡ text_of s at → list_any is_slash text ≡ true → None ≡ name_from s at
with_slash s text at e slash = (let none : None ≡ as_name text = rw slash refl in none) ∙ name_by_text s at (Some text) e

pub without_slash : (s text : List ℕ) (at : ℕ) → Some text ≡ text_of s at → list_any is_slash text ≡ false → Some text ≡ name_from s at
without_slash s text at e plain = (let some : Some text ≡ as_name text = rw plain refl in some) ∙ name_by_text s at (Some text) e

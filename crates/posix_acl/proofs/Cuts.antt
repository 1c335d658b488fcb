-- A text cut at a byte, and without the blanks around it.
use Rattle.std.proofs.Common.{◌≡◌, ℕ, ◌+◌, ◌-◌, ◌<◌, ◌≤◌, Bool, true, false, List, [], ◌∷◌, length, suc, zero, get_or, take, drop, reverse, cond, nat_lt, Some, None, refl, sym, ap, ◌∙◌, arith}
use Rattle.std.specs.List.{slice_split, position, position_or_len, before_first}
use Rattle.std.proofs.lemmas.Bool.{ltb-true, ltb-false}
use Rattle.std.proofs.lemmas.List.{length-drop, take_more, reverse-append, reverse-reverse}
use Rattle.std.proofs.Math.Seq.{take-length}
use Rattle.std.proofs.lemmas.List.Sums.{fails_before_first}
use Rattle.std.proofs.lemmas.List.Splits.{slice_split_first, slice_split_none, length-slice_split}
use Rattle.posix_acl.specs.declared.entry.Entry.{Entry}
use Rattle.posix_acl.specs.Text.{is_blank, without_front_blanks, without_back_blanks, AreEntryFields}

take_past : (n : ℕ) (xs : List ℕ) → length xs ≤ n → take n xs ≡ xs
take_past zero [] le = refl
take_past zero (x ∷ xs) le = absurd (omega arith)
take_past (suc n) [] le = refl
take_past (suc n) (x ∷ xs) le = ap (λ ys. x ∷ ys) (take_past n xs (omega arith))

some_index : (b : Bool) (n at : ℕ) → cond b (Some n) None ≡ Some at → (b ≡ true) × (n ≡ at)
some_index true n at found = (refl, cc)
some_index false n at found = absurd (cc)

no_index : (b : Bool) (n : ℕ) → cond b (Some n) None ≡ None → b ≡ false
no_index true n found = absurd (cc)
no_index false n found = refl

pub cut_found : (p : ℕ → Bool) (text : List ℕ) (at : ℕ) → position p text ≡ Some at
    → slice_split p text ≡ take at text ∷ slice_split p (take (length text - (at + 1)) (drop (at + 1) text))
cut_found p text at found =
    let index = some_index (nat_lt (position_or_len p text) (length text)) (position_or_len p text) at found in
    let inside : position_or_len p text < length text = ltb-true (position_or_len p text) (length text) index.0 in
    let here : position_or_len p text ≡ at = index.1 in
    let rest : take (length text - (at + 1)) (drop (at + 1) text) ≡ drop (at + 1) text =
    take_past (length text - (at + 1)) (drop (at + 1) text) (omega (arith, length-drop (at + 1) text)) in
    slice_split_first p text 0 inside ∙ rw (here, rest) refl

pub cut_none : (p : ℕ → Bool) (text : List ℕ) → position p text ≡ None → slice_split p text ≡ text ∷ []
cut_none p text none =
    let past : length text ≤ position_or_len p text = ltb-false (position_or_len p text) (length text) (no_index (nat_lt (position_or_len p text) (length text)) (position_or_len p text) none) in
    slice_split_none p text (λ k d below. fails_before_first p text k d (omega arith))

pub front_found : (p : ℕ → Bool) (text : List ℕ) (at : ℕ) → position p text ≡ Some at → take at text ≡ before_first p text
front_found p text at found =
    let index = some_index (nat_lt (position_or_len p text) (length text)) (position_or_len p text) at found in
    ap (λ n. take n text) (sym index.1)

pub front_none : (p : ℕ → Bool) (text : List ℕ) → position p text ≡ None → text ≡ before_first p text
front_none p text none =
    sym (take_past (position_or_len p text) text (ltb-false (position_or_len p text) (length text) (no_index (nat_lt (position_or_len p text) (length text)) (position_or_len p text) none)))

pub too_many : (p : ℕ → Bool) (word name letters rest : List ℕ) (e : Entry) → AreEntryFields (word ∷ name ∷ letters ∷ slice_split p rest) e → ⊥
too_many p word name letters rest e are = more (slice_split p rest) (omega (arith, length-slice_split p rest)) are
  where
    more : (fields : List (List ℕ)) → 0 < length fields → AreEntryFields (word ∷ name ∷ letters ∷ fields) e → ⊥
    more [] some are = absurd (omega arith)
    more (f ∷ fs) some are = are

pub front_done : (xs : List ℕ) → is_blank (get_or xs 0 0) ≡ false → without_front_blanks xs ≡ xs
front_done [] other = refl
front_done (x ∷ xs) other = rw other refl

last_first : (xs : List ℕ) → 0 < length xs → reverse xs ≡ get_or xs (length xs - 1) 0 ∷ reverse (take (length xs - 1) xs)
last_first xs some =
    let at : length xs - 1 < length xs = omega arith in
    let all : length xs - 1 + 1 ≡ length xs = omega arith in
    ap reverse (sym (take-length xs) ∙ ap (λ n. take n xs) (sym all) ∙ take_more xs (length xs - 1) 0 at)
    ∙ reverse-append (take (length xs - 1) xs) (get_or xs (length xs - 1) 0 ∷ [])

pub back_done : (xs : List ℕ) → 0 < length xs → is_blank (get_or xs (length xs - 1) 0) ≡ false → without_back_blanks xs ≡ xs
back_done xs some other =
    let shape = last_first xs some in
    ap (λ ys. reverse (without_front_blanks ys)) shape
    ∙ (rw other refl)
    ∙ ap reverse (sym shape)
    ∙ reverse-reverse xs

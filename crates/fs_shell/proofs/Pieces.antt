-- A piece of what has been read ahead: up to the next newline, or all.
use Rattle.std.proofs.Common.{◌≡◌, ◌≢◌, ℕ, suc, ◌+◌, ◌-◌, ◌<◌, ◌≤◌, min, Bool, true, false, cond, not, nat_lt, List, [], ◌∷◌, ◌++◌, length, take, drop, get_or, Option, None, Some, refl, sym, ap, subst, ◌∙◌, append_assoc, append-nil, length-append, length-take, length-drop, arith, take_all, inl, inr}
use Rattle.std.specs.List.{list_any, position_or_len, before_first, after_first}
use Rattle.std.specs.Io.KnownBytes.{prepend_known, Consumes}
use Rattle.std.proofs.lemmas.Bool.{false≢true, eqb-true, cases_lt, lt-ltb, le-ltb}
use Rattle.std.proofs.lemmas.List.{drop_all, drop-drop, drop-take}
use Rattle.std.proofs.Math.Seq.{take-append-add}
use Rattle.std.proofs.lemmas.List.Folds.{list_any_at, list_any_none}
use Rattle.std.proofs.lemmas.List.Sums.{prefix_len-le-length, split_at_first, passes_at_first, fails_before_first}
use Rattle.posix_acl.specs.Text.{is_newline}
use Rattle.fs_shell.specs.Scripts.{IsOver}
use Rattle.fs_shell.proofs.Reading.{HasNoNewline}

newline_from : (ahead : List ℕ) → position_or_len is_newline ahead < length ahead → list_any is_newline ahead ≡ true
newline_from ahead inside = list_any_at is_newline ahead (position_or_len is_newline ahead) 0 inside (passes_at_first is_newline ahead 0 inside)

no_newline_from : (ahead : List ℕ) → length ahead ≤ position_or_len is_newline ahead → list_any is_newline ahead ≡ false
no_newline_from ahead all = list_any_none is_newline ahead (λ k d below. fails_before_first is_newline ahead k d (omega arith))

-- a newline lies ahead where its place does
pub newline_is : (ahead : List ℕ) (n : ℕ) → n ≡ position_or_len is_newline ahead → nat_lt n (length ahead) ≡ list_any is_newline ahead
newline_is ahead n is = elim (cases_lt n (length ahead)) [
  | inl inside ↦ lt-ltb n (length ahead) inside ∙ sym (newline_from ahead (omega arith))
  | inr all ↦ le-ltb n (length ahead) all ∙ sym (no_newline_from ahead (omega arith))
]

stops_inside : (ahead : List ℕ) → list_any is_newline ahead ≡ true → position_or_len is_newline ahead < length ahead
stops_inside ahead some = elim (cases_lt (position_or_len is_newline ahead) (length ahead)) [
  | inl inside ↦ inside
  | inr all ↦ absurd (false≢true (sym (no_newline_from ahead all) ∙ some))
]

stops_at_end : (ahead : List ℕ) → list_any is_newline ahead ≡ false → length ahead ≤ position_or_len is_newline ahead
stops_at_end ahead none = elim (cases_lt (position_or_len is_newline ahead) (length ahead)) [
  | inl inside ↦ absurd (false≢true (sym none ∙ newline_from ahead inside))
  | inr all ↦ all
]

clean_by : (b : ℕ) (bs : List ℕ) (newline : Bool) → is_newline b ≡ newline → HasNoNewline (before_first is_newline bs)
    → HasNoNewline (take (cond (not newline) (1 + position_or_len is_newline bs) 0) (b ∷ bs))
clean_by b bs true is rest = tt
clean_by b bs false is rest =
    let next : 1 + position_or_len is_newline bs ≡ suc (position_or_len is_newline bs) = omega arith in
    subst (λ n. HasNoNewline (take n (b ∷ bs))) (sym next) (is, rest)

pub clean_piece : (ahead : List ℕ) → HasNoNewline (before_first is_newline ahead)
clean_piece [] = tt
clean_piece (b ∷ bs) = clean_by b bs (is_newline b) refl (clean_piece bs)

consumes_ahead : (known : Option (List ℕ)) (text ahead rest : List ℕ) → ahead ≡ text ++ rest → Consumes (prepend_known ahead known) (prepend_known rest known) text
consumes_ahead None text ahead rest parts = tt
consumes_ahead (Some xs) text ahead rest parts = ap (λ l. l ++ xs) parts ∙ append_assoc text rest xs

-- a piece with its newline is given
pub consumes_line : (known : Option (List ℕ)) (ahead rest : List ℕ) → list_any is_newline ahead ≡ true → rest ≡ after_first is_newline ahead
    → Consumes (prepend_known ahead known) (prepend_known rest known) (before_first is_newline ahead ++ 10 ∷ [])
consumes_line known ahead rest some behind =
    let inside : position_or_len is_newline ahead < length ahead = stops_inside ahead some in
    let newline : get_or ahead (position_or_len is_newline ahead) 0 ≡ 10 = eqb-true _ _ (passes_at_first is_newline ahead 0 inside) in
    consumes_ahead known (before_first is_newline ahead ++ 10 ∷ []) ahead rest
    (split_at_first is_newline ahead 0 inside
    ∙ ap (λ b. before_first is_newline ahead ++ b ∷ after_first is_newline ahead) newline
    ∙ ap (λ l. before_first is_newline ahead ++ 10 ∷ l) (sym behind)
    ∙ sym (append_assoc (before_first is_newline ahead) (10 ∷ []) rest))

-- one without
pub consumes_piece : (known : Option (List ℕ)) (ahead rest : List ℕ) → list_any is_newline ahead ≡ false → rest ≡ after_first is_newline ahead
    → Consumes (prepend_known ahead known) (prepend_known rest known) (before_first is_newline ahead)
consumes_piece known ahead rest none behind =
    let all = stops_at_end ahead none in
    let nothing : rest ≡ [] = behind ∙ drop_all (position_or_len is_newline ahead + 1) ahead (omega arith) in
    consumes_ahead known (before_first is_newline ahead) ahead rest
    (sym (take_all (position_or_len is_newline ahead) ahead all) ∙ sym (append-nil (before_first is_newline ahead)) ∙ ap (λ l. before_first is_newline ahead ++ l) (sym nothing))

-- how many bytes that is
pub line_count : (ahead rest : List ℕ) (before after : ℕ) → list_any is_newline ahead ≡ true → rest ≡ after_first is_newline ahead → after + length rest ≡ before + length ahead
    → after ≡ before + length (before_first is_newline ahead) + 1
line_count ahead rest before after some behind count =
    let inside = stops_inside ahead some in
    omega (arith, ap length behind, length-drop (position_or_len is_newline ahead + 1) ahead, length-take (position_or_len is_newline ahead) ahead)

pub piece_count : (ahead rest : List ℕ) (before after : ℕ) → list_any is_newline ahead ≡ false → rest ≡ after_first is_newline ahead → after + length rest ≡ before + length ahead
    → after ≡ before + length (before_first is_newline ahead)
piece_count ahead rest before after none behind count =
    let all = stops_at_end ahead none in
    omega (arith, ap length behind, length-drop (position_or_len is_newline ahead + 1) ahead, length-take (position_or_len is_newline ahead) ahead)

-- at least one
pub count_grows : (ahead rest : List ℕ) (before after : ℕ) → ahead ≢ [] → rest ≡ after_first is_newline ahead → after + length rest ≡ before + length ahead → before < after
count_grows [] rest before after some behind count = absurd (some refl)
count_grows (b ∷ bs) rest before after some behind count =
    omega (arith, ap length behind, length-drop (position_or_len is_newline (b ∷ bs) + 1) (b ∷ bs))

-- a piece goes past the limit
pub piece_over : (known : Option (List ℕ)) (ahead : List ℕ) (given : ℕ) → 16777216 < given + length ahead → IsOver (prepend_known ahead known) given
piece_over None ahead given over = tt
piece_over (Some xs) ahead given over = omega (arith, length-append ahead xs)

-- ---- the part of the buffer

behind_part : (bytes : List ℕ) (next end taken : ℕ) → next + taken ≤ end → take (end - (next + taken)) (drop (next + taken) bytes) ≡ drop taken (take (end - next) (drop next bytes))
behind_part bytes next end taken inside =
    let part : end - next ≡ taken + (end - (next + taken)) = omega arith in
    ap (take (end - (next + taken))) (sym (drop-drop taken next bytes))
    ∙ sym (drop-take taken (end - (next + taken)) (drop next bytes))
    ∙ ap (λ n. drop taken (take n (drop next bytes))) (sym part)

-- the piece, where the part of the buffer is what lies ahead
pub newline_ahead : (ahead part : List ℕ) (n : ℕ) → ahead ≡ part → n ≡ position_or_len is_newline part → nat_lt (length (take n part)) (length part) ≡ list_any is_newline ahead
newline_ahead ahead part n same place =
    let count : length (take n part) ≡ n = omega (arith, length-take n part, prefix_len-le-length (λ b. not (is_newline b)) part) in
    ap (λ k. nat_lt k (length part)) count ∙ newline_is part n place ∙ ap (list_any is_newline) (sym same)

pub piece_ahead : (ahead part : List ℕ) (n : ℕ) → ahead ≡ part → n ≡ position_or_len is_newline part → take n part ≡ before_first is_newline ahead
piece_ahead ahead part n same place = ap (λ k. take k part) place ∙ ap (before_first is_newline) (sym same)

-- what is left of the buffer behind it
pub rest_ahead : (bytes ahead : List ℕ) (next end n taken : ℕ) (part : List ℕ) → ahead ≡ part → part ≡ take (end - next) (drop next bytes) → next ≤ end → end ≤ length bytes
    → n ≡ position_or_len is_newline part → taken ≡ min (length part) (length (take n part) + 1)
    → take (end - (next + taken)) (drop (next + taken) bytes) ≡ after_first is_newline ahead
rest_ahead bytes ahead next end n taken part same is ordered within place count =
    let len : length part ≡ end - next = omega (arith, ap length is, length-take (end - next) (drop next bytes), length-drop next bytes) in
    let piece : length (take n part) ≡ n = omega (arith, length-take n part, prefix_len-le-length (λ b. not (is_newline b)) part) in
    behind_part bytes next end taken (omega arith) ∙ ap (drop taken) (sym is) ∙ elim (cases_lt n (length part)) [
      | inl inside ↦ ap (λ k. drop k part) (omega arith)
      | inr all ↦ drop_all taken part (omega arith) ∙ sym (drop_all (position_or_len is_newline part + 1) part (omega arith))
    ] ∙ ap (after_first is_newline) (sym same)

-- what a line keeps of it
pub front_pushed : (most room : ℕ) (line piece : List ℕ) → room ≡ most - length line → length line ≤ most
    → line ++ take (min room (length piece)) piece ≡ take most (line ++ piece)
front_pushed most room line piece is short = elim (cases_lt room (length piece)) [
  | inl less ↦
      ap (λ n. line ++ take n piece) (omega arith) ∙ sym (take-append-add line piece room) ∙ ap (λ n. take n (line ++ piece)) (omega arith)
  | inr all ↦
      ap (λ n. line ++ take n piece) (omega arith) ∙ ap (λ l. line ++ l) (take_all (length piece) piece (omega arith))
      ∙ sym (take_all most (line ++ piece) (omega (arith, length-append line piece)))
]

-- A line while it is read.
use Rattle.std.proofs.Common.{◌≡◌, ◌≢◌, ℕ, ◌+◌, ◌<◌, ◌≤◌, ◌==◌, Bool, true, false, List, [], ◌∷◌, ◌++◌, length, take, Option, None, Some, Result, Ok, not, refl, sym, ap, subst, ◌∙◌, append_assoc, append-nil, length-append, length-take, arith, take_all, inl, inr}
use Rattle.std.proofs.lemmas.Bool.{false≢true, ne_eqb, cases_lt}
use Rattle.std.proofs.lemmas.List.{take-append-le, take-take}
use Rattle.std.specs.Io.KnownBytes.{Consumes, Keeps, IsAtEnd}
use Rattle.std.proofs.KnownBytes.{Consumes-nil, Consumes-trans, Consumes-kept}
use Rattle.fs_lines.specs.Lines.{lines_of}
use Rattle.fs_shell.specs.Scripts.{kept_front, IsLineTaken, LineRead, IsOver}

abbrev pub HasNoNewline : List ℕ → Type 0
HasNoNewline [] = Unit {0}
HasNoNewline (b ∷ bs) = ((b == 10) ≡ false) × HasNoNewline bs

no_newline_in : (bs cs : List ℕ) → HasNoNewline bs → HasNoNewline cs → HasNoNewline (bs ++ cs)
no_newline_in [] cs front back = back
no_newline_in (b ∷ bs) cs front back = (front.0, no_newline_in bs cs front.1 back)

-- a line ends at its newline
pub line_and_more : (bs rest : List ℕ) → HasNoNewline bs → lines_of (bs ++ 10 ∷ rest) ≡ bs ∷ lines_of rest
line_and_more [] rest clean = refl
line_and_more (b ∷ bs) rest clean = rw (clean.0, line_and_more bs rest clean.1) refl

-- or at the end
pub last_line : (b : ℕ) (bs : List ℕ) → HasNoNewline (b ∷ bs) → lines_of (b ∷ bs) ≡ (b ∷ bs) ∷ []
last_line b [] clean = rw clean.0 refl
last_line b (c ∷ bs) clean = rw (clean.0, last_line c bs clean.1) refl

-- So much of a line has been read, and of this is kept what may be needed.
pub record IsReading (old now : Option (List ℕ)) (before after : ℕ) (line : List ℕ) : Type 0 where
  pub whole : List ℕ
  pub kept : line ≡ kept_front whole
  pub clean : HasNoNewline whole
  pub consumed : Consumes old now whole
  pub counted : after ≡ before + length whole

pub begins : (old : Option (List ℕ)) (before : ℕ) (line : List ℕ) → line ≡ [] → IsReading old old before before line
begins old before line none = record { whole = []; kept = none; clean = tt; consumed = Consumes-nil old; counted = omega arith }

pub line_fits : (old now : Option (List ℕ)) (before after : ℕ) (line : List ℕ) → IsReading old now before after line → length line ≤ 4097
line_fits old now before after line is = omega (arith, ap length is.kept, length-take 4097 is.whole)

-- more bytes have been looked for
pub still_reads : (old now next : Option (List ℕ)) (before after later : ℕ) (line : List ℕ) → IsReading old now before after line → Keeps now next → later ≡ after
    → IsReading old next before later line
still_reads old now next before after later line is same count = record {
  whole = is.whole;
  kept = is.kept;
  clean = is.clean;
  consumed = Consumes-kept old now next is.whole is.consumed same;
  counted = count ∙ is.counted;
}

-- what is kept of a longer line
keeps_more : (n : ℕ) (whole piece : List ℕ) → take n (take n whole ++ piece) ≡ take n (whole ++ piece)
keeps_more n whole piece = elim (cases_lt (length whole) n) [
  | inl short ↦ ap (λ l. take n (l ++ piece)) (take_all n whole (omega arith))
  | inr long ↦
      let full : n ≤ length (take n whole) = omega (arith, length-take n whole) in
      take-append-le n (take n whole) piece full ∙ take-take n n whole (omega arith) ∙ sym (take-append-le n whole piece long)
]

longer_kept : (whole line longer piece : List ℕ) → line ≡ kept_front whole → longer ≡ kept_front (line ++ piece) → longer ≡ kept_front (whole ++ piece)
longer_kept whole line longer piece kept pushed = pushed ∙ ap (λ l. kept_front (l ++ piece)) kept ∙ keeps_more 4097 whole piece

-- one more piece, which has no newline behind it
pub reads_more : (old now next : Option (List ℕ)) (before after later : ℕ) (line longer piece : List ℕ) → IsReading old now before after line
    → Consumes now next piece → HasNoNewline piece → later ≡ after + length piece → longer ≡ kept_front (line ++ piece) → IsReading old next before later longer
reads_more old now next before after later line longer piece is took clean count pushed = record {
  whole = is.whole ++ piece;
  kept = longer_kept is.whole line longer piece is.kept pushed;
  clean = no_newline_in is.whole piece is.clean clean;
  consumed = Consumes-trans old now next is.whole piece is.consumed took;
  counted = omega (arith, is.counted, length-append is.whole piece);
}

taken_by : (old next : Option (List ℕ)) (whole : List ℕ) → HasNoNewline whole → Consumes old next (whole ++ 10 ∷ []) → IsLineTaken whole old next
taken_by None next whole clean took = tt
taken_by (Some xs) None whole clean took = took
taken_by (Some xs) (Some ys) whole clean took =
    ap lines_of (took ∙ append_assoc whole (10 ∷ []) ys) ∙ line_and_more whole ys clean

-- one with its newline
pub reads_line : (old now next : Option (List ℕ)) (before after later : ℕ) (line longer piece : List ℕ) → IsReading old now before after line
    → Consumes now next (piece ++ 10 ∷ []) → HasNoNewline piece → later ≡ after + length piece + 1 → longer ≡ kept_front (line ++ piece) → LineRead old next before later longer
reads_line old now next before after later line longer piece is took clean count pushed =
    let none : HasNoNewline (is.whole ++ piece) = no_newline_in is.whole piece is.clean clean in
    let all : Consumes old next ((is.whole ++ piece) ++ 10 ∷ []) =
    subst (Consumes old next) (sym (append_assoc is.whole piece (10 ∷ []))) (Consumes-trans old now next is.whole (piece ++ 10 ∷ []) is.consumed took) in
    record {
      whole = is.whole ++ piece;
      text = (is.whole ++ piece) ++ 10 ∷ [];
      kept = longer_kept is.whole line longer piece is.kept pushed;
      taken = taken_by old next (is.whole ++ piece) none all;
      consumed = all;
      counted = omega (arith, is.counted, length-append (is.whole ++ piece) (10 ∷ []), length-append is.whole piece);
      some = omega (arith, is.counted);
    }

-- at the end there may be a line without one
ends : (old now next : Option (List ℕ)) (whole : List ℕ) → HasNoNewline whole → whole ≢ [] → Consumes old now whole → IsAtEnd now → Keeps now next → IsLineTaken whole old next
ends None now next whole clean some took end same = tt
ends (Some xs) None next whole clean some took end same = absurd took
ends (Some xs) (Some ys) None whole clean some took end same = absurd same
ends (Some xs) (Some ys) (Some zs) [] clean some took end same = absurd (some refl)
ends (Some xs) (Some ys) (Some zs) (b ∷ bs) clean some took end same =
    let none : zs ≡ [] = same ∙ end in
    rw none (ap lines_of (took ∙ ap (λ l. (b ∷ bs) ++ l) end ∙ append-nil (b ∷ bs)) ∙ last_line b bs clean)

nonempty : (bs : List ℕ) → bs ≢ [] → 0 < length bs
nonempty [] some = absurd (some refl)
nonempty (b ∷ bs) some = omega arith

pub reads_last : (old now next : Option (List ℕ)) (before after later : ℕ) (line : List ℕ) → IsReading old now before after line
    → IsAtEnd now → Keeps now next → later ≡ after → line ≢ [] → LineRead old next before later line
reads_last old now next before after later line is end keeps same some =
    let some_read : is.whole ≢ [] = λ none. some (is.kept ∙ ap kept_front none) in
    record {
      whole = is.whole;
      text = is.whole;
      kept = is.kept;
      taken = ends old now next is.whole is.clean some_read is.consumed end keeps;
      consumed = Consumes-kept old now next is.whole is.consumed keeps;
      counted = same ∙ is.counted;
      some = let count : 0 < length is.whole = nonempty is.whole some_read in omega (arith, is.counted);
    }

kept_none : (whole : List ℕ) → [] ≡ kept_front whole → whole ≡ []
kept_none [] same = refl
kept_none (b ∷ bs) same = let count : 0 ≡ length (take 4097 (b ∷ bs)) = ap length same in absurd (omega (arith, length-take 4097 (b ∷ bs)))

at_end_before : (old now : Option (List ℕ)) (whole : List ℕ) → Consumes old now whole → whole ≡ [] → IsAtEnd now → IsAtEnd old
at_end_before None now whole took none end = tt
at_end_before (Some xs) None whole took none end = absurd took
at_end_before (Some xs) (Some ys) whole took none end = took ∙ ap (λ l. l ++ ys) none ∙ end

-- or none
pub reads_none : (old now : Option (List ℕ)) (before after : ℕ) (line : List ℕ) → IsReading old now before after line
    → IsAtEnd now → line ≡ [] → IsAtEnd old × (after ≡ before)
reads_none old now before after line is end none =
    let nothing : is.whole ≡ [] = kept_none is.whole (sym none ∙ is.kept) in
    let zero : length is.whole ≡ 0 = ap length nothing in
    (at_end_before old now is.whole is.consumed nothing end, omega (arith, is.counted))

-- the limit is passed
pub reads_over : (old now : Option (List ℕ)) (before after : ℕ) (line : List ℕ) → IsReading old now before after line → IsOver now after → IsOver old before
reads_over None now before after line is over = tt
reads_over (Some xs) None before after line is over = absurd is.consumed
reads_over (Some xs) (Some ys) before after line is over =
    let all : length xs ≡ length (is.whole ++ ys) = ap length is.consumed in
    omega (arith, is.counted, length-append is.whole ys)

-- what the flag says of a line
ok_same : {E : Type 0} (a b : Bool) → ◌≡◌ {A = Result Bool E} (Ok a) (Ok b) → a ≡ b
ok_same a b same = cc

pub some_kept : {E : Type 0} (line : List ℕ) (n : ℕ) (empty : Bool) → n ≡ length line → empty ≡ (n == 0)
    → ◌≡◌ {A = Result Bool E} (Ok (not empty)) (Ok true) → line ≢ []
some_kept {E} line n empty count test flag none =
    let zero : n ≡ 0 = count ∙ ap length none in
    let yes : empty ≡ true = rw (test, zero) refl in
    false≢true (ap not (sym yes) ∙ ok_same {E = E} (not empty) true flag)

pub none_kept : {E : Type 0} (line : List ℕ) (n : ℕ) (empty : Bool) → n ≡ length line → empty ≡ (n == 0)
    → ◌≡◌ {A = Result Bool E} (Ok (not empty)) (Ok false) → line ≡ []
none_kept [] n empty count test flag = refl
none_kept {E} (b ∷ bs) n empty count test flag =
    let some : (n == 0) ≡ false = ne_eqb n 0 (λ zero. absurd (omega arith)) in
    let yes : not empty ≡ true = rw (test, some) refl in
    absurd (false≢true (sym (ok_same {E = E} (not empty) false flag) ∙ yes))

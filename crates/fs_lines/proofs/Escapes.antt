-- What words say, a part after another.
use Rattle.std.proofs.Common.{◌≡◌, ℕ, ◌+◌, ◌-◌, ◌*◌, inl, inr, ◌<◌, ◌≤◌, ◌==◌, Bool, true, false, cond, not, ◌||◌, ◌&&◌, List, [], ◌∷◌, ◌++◌, take, drop, length, get_or, slice_index, Option, None, Some, is_some, Result, Ok, Err, refl, sym, ap, ◌∙◌, append_assoc, append-nil, length-take, take_all, take-append-drop, subst, arith}
use Rattle.std.specs.List.{All}
use Rattle.std.specs.Prelude.{◌⊎◌, if◌then◌else◌}
use Rattle.std.proofs.lemmas.Bool.{false_from_ne_true, eqb-true}
use Rattle.std.proofs.lemmas.List.{get_or-take, get_or-drop, get_or_default}
use Rattle.std.proofs.lemmas.List.Elements.{All-head, All-tail}
use Rattle.memchr.specs.Find.{IsFirstByte, Nowhere, Passes, is_byte2}
use Rattle.fs_lines.specs.declared.line.LineFault.{LineFault}
use Rattle.fs_lines.specs.declared.line.LineFault.TheVariants.{BadEscape}
use Rattle.fs_lines.specs.Lines.{◌>>=◌, with_byte, with_escape, with_plain, is_plain, is_hex_digit, hex_value, unescaped}

-- what has been read, and then the rest
abbrev pub with_front : {A : Type 0} → List A → Result (List A) LineFault → Result (List A) LineFault
with_front front rest = do
  back ← rest
  Ok (front ++ back)

pub none_more : {A : Type 0} (rest : Result (List A) LineFault) → with_front [] rest ≡ rest
none_more (Ok back) = refl
none_more (Err fault) = refl

-- more has been read
pub front_more : {A : Type 0} (front more : List A) (rest : Result (List A) LineFault) → with_front (front ++ more) rest ≡ with_front front (with_front more rest)
front_more front more (Ok back) = ap Ok (append_assoc front more back)
front_more front more (Err fault) = refl

abbrev pub AllPlain : List ℕ → Type 0
AllPlain bytes = All (λ b. is_plain b ≡ true) bytes

-- a byte that says itself
plain_first : (b : ℕ) (rest : Result (List ℕ) LineFault) → is_plain b ≡ true → with_plain b rest ≡ with_byte b rest
plain_first b rest plain = rw plain refl

no_backslash : (a c : Bool) → (not a && not c) ≡ true → a ≡ false
no_backslash false c plain = refl
no_backslash true c plain = absurd (cc)

says_itself : (b : ℕ) (text : List ℕ) → is_plain b ≡ true → unescaped (b ∷ text) ≡ with_byte b (unescaped text)
says_itself b [] plain = plain_first b (Ok []) plain
says_itself b (c ∷ []) plain = plain_first b (with_plain c (Ok [])) plain
says_itself b (c ∷ d ∷ text) plain =
    let other : (b == 92) ≡ false = no_backslash (b == 92) (b == 34) plain in
    ap (λ (x : Bool). cond x (with_escape c d (unescaped text)) (with_plain b (unescaped (c ∷ d ∷ text)))) other ∙ plain_first b (unescaped (c ∷ d ∷ text)) plain

-- bytes that say themselves
pub plain_run : (run text : List ℕ) → AllPlain run → unescaped (run ++ text) ≡ with_front run (unescaped text)
plain_run [] text plain = sym (none_more (unescaped text))
plain_run (b ∷ run) text plain =
    says_itself b (run ++ text) (All-head (λ x. is_plain x ≡ true) b run plain)
    ∙ ap (with_byte b) (plain_run run text (All-tail (λ x. is_plain x ≡ true) b run plain))
    ∙ sym (front_more (b ∷ []) run (unescaped text))

-- ---- where escapes begin

plain_elsewhere : (a c : Bool) → (a || c) ≡ false → (not a && not c) ≡ true
plain_elsewhere false false other = refl
plain_elsewhere false true other = absurd (cc)
plain_elsewhere true c other = absurd (cc)

not_plain : (a c : Bool) → (a || c) ≡ true → (not a && not c) ≡ false
not_plain false false begins = absurd (cc)
not_plain false true begins = refl
not_plain true c begins = refl

-- the bytes before the first place of a `\` or a `"`
pub plain_before : (text : List ℕ) (n : ℕ) → Nowhere (Passes (is_byte2 92 34) text) 0 n → n ≤ length text → AllPlain (take n text)
plain_before text n none within = λ k d below.
    let before : k < n = omega (arith, length-take n text) in
    let same : get_or (take n text) k d ≡ get_or text k 0 = get_or-take n text k d before ∙ get_or_default text k d 0 (omega arith) in
    let b : ℕ = get_or text k 0 in
    ap is_plain same ∙ plain_elsewhere (b == 92) (b == 34) (false_from_ne_true (is_byte2 92 34 b) (none k (omega arith) before))

pub begins_escape : (text : List ℕ) (n : ℕ) → Passes (is_byte2 92 34) text n → is_plain (slice_index (drop n text) 0) ≡ false
begins_escape text n passes =
    ap is_plain (get_or-drop n text 0 0 ∙ ap (λ (i : ℕ). get_or text i 0) (omega arith)) ∙ not_plain (get_or text n 0 == 92) (get_or text n 0 == 34) passes

run_first : (run escape rest : List ℕ) (n : ℕ) → IsFirstByte (is_byte2 92 34) rest (Some n) → run ≡ take n rest → escape ≡ drop n rest
    → unescaped rest ≡ with_front run (unescaped escape)
run_first run escape rest n at is_run is_escape =
    rw (is_run, is_escape)
    (ap unescaped (sym (take-append-drop n rest)) ∙ plain_run (take n rest) (drop n rest) (plain_before rest n at.0.before (omega (arith, at.0.high))))

-- ---- reading them

-- a run, and the escape behind it
pub reads_escape : (front run escape rest after mid new : List ℕ) (n b : ℕ) (said : Result (List ℕ) LineFault) → with_front front (unescaped rest) ≡ said
    → IsFirstByte (is_byte2 92 34) rest (Some n) → run ≡ take n rest → escape ≡ drop n rest → unescaped escape ≡ with_byte b (unescaped after)
    → mid ≡ front ++ run → new ≡ mid ++ b ∷ [] → with_front new (unescaped after) ≡ said
reads_escape front run escape rest after mid new n b said so_far at is_run is_escape first grown pushed =
    ap (λ l. with_front l (unescaped after)) (pushed ∙ ap (λ l. l ++ b ∷ []) grown)
    ∙ front_more (front ++ run) (b ∷ []) (unescaped after)
    ∙ ap (with_front (front ++ run)) (sym first)
    ∙ front_more front run (unescaped escape)
    ∙ ap (with_front front) (sym (run_first run escape rest n at is_run is_escape))
    ∙ so_far

pub escape_fails : (front run escape rest : List ℕ) (n : ℕ) (said : Result (List ℕ) LineFault) → with_front front (unescaped rest) ≡ said
    → IsFirstByte (is_byte2 92 34) rest (Some n) → run ≡ take n rest → escape ≡ drop n rest → unescaped escape ≡ Err BadEscape → said ≡ Err BadEscape
escape_fails front run escape rest n said so_far at is_run is_escape bad =
    sym so_far ∙ ap (with_front front) (run_first run escape rest n at is_run is_escape ∙ ap (with_front run) bad)

-- a text without escapes
alone : (text : List ℕ) → IsFirstByte (is_byte2 92 34) text None → unescaped text ≡ Ok text
alone text none =
    let plain : AllPlain text = subst AllPlain (take_all (length text) text (omega arith)) (plain_before text (length text) none (omega arith)) in
    ap unescaped (sym (append-nil text)) ∙ plain_run text [] plain ∙ ap Ok (append-nil text)

pub says_all : (text : List ℕ) (r : Option ℕ) → IsFirstByte (is_byte2 92 34) text r → is_some r ≡ false → unescaped text ≡ Ok text
says_all text None first none = alone text first
says_all text (Some n) first none = absurd (cc)

-- the run behind the last escape
pub reads_rest : (front rest new : List ℕ) (said : Result (List ℕ) LineFault) → with_front front (unescaped rest) ≡ said → IsFirstByte (is_byte2 92 34) rest None
    → new ≡ front ++ rest → said ≡ Ok new
reads_rest front rest new said so_far none grown = sym so_far ∙ ap (with_front front) (alone rest none) ∙ ap Ok (sym grown)

-- ---- an escape at the front

pub escape_read : (text : List ℕ) (high low : ℕ) → 3 ≤ length text → get_or text 0 0 ≡ 92 → is_hex_digit (get_or text 1 0) ≡ true → is_hex_digit (get_or text 2 0) ≡ true
    → high ≡ hex_value (get_or text 1 0) → low ≡ hex_value (get_or text 2 0)
    → (length (take (length text - 3) (drop 3 text)) < length text)
    × (unescaped text ≡ with_byte (16 * high + low) (unescaped (take (length text - 3) (drop 3 text))))
escape_read [] high low long first h l high_is low_is = absurd (omega arith)
escape_read (b ∷ []) high low long first h l high_is low_is = absurd (omega arith)
escape_read (b ∷ c ∷ []) high low long first h l high_is low_is = absurd (omega arith)
escape_read (b ∷ c ∷ d ∷ after) high low long first h l high_is low_is =
    let all : take (length (b ∷ c ∷ d ∷ after) - 3) after ≡ after = take_all _ after (omega arith) in
    rw all (omega arith, rw (first, h, l, high_is, low_is) refl)

pub no_escape : (text : List ℕ) → is_plain (get_or text 0 0) ≡ false
    → (3 ≤ length text → get_or text 0 0 ≡ 92 → (is_hex_digit (get_or text 1 0) ≡ false) ⊎ (is_hex_digit (get_or text 2 0) ≡ false)) → unescaped text ≡ Err BadEscape
no_escape [] plain digits = absurd cc
no_escape (b ∷ []) plain digits = rw plain refl
no_escape (b ∷ c ∷ []) plain digits = rw plain refl
no_escape (b ∷ c ∷ d ∷ after) plain digits = go (b == 92) refl
  where
    escaped : (is_hex_digit c ≡ false) ⊎ (is_hex_digit d ≡ false) → with_escape c d (unescaped after) ≡ Err BadEscape
    escaped (inl e) = rw e refl
    escaped (inr e) = either (is_hex_digit c) e
      where
        either : (h : Bool) → is_hex_digit d ≡ false → (if h && is_hex_digit d then with_byte (16 * hex_value c + hex_value d) (unescaped after) else Err BadEscape) ≡ Err BadEscape
        either true e = rw e refl
        either false e = refl

    go : (e : Bool) → (b == 92) ≡ e → (if e then with_escape c d (unescaped after) else with_plain b (unescaped (c ∷ d ∷ after))) ≡ Err BadEscape
    go true e = escaped (digits (omega arith) (eqb-true b 92 e))
    go false e = rw plain refl

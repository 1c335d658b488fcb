-- The words of a line, one after another.
use Rattle.std.proofs.Common.{◌≡◌, ℕ, suc, ◌+◌, ◌<◌, ◌≤◌, ◌==◌, Bool, true, false, cond, not, List, [], ◌∷◌, ◌++◌, length, take, drop, get_or, Result, Ok, Err, refl, sym, ap, subst, ◌∙◌, arith, take_all, append-nil, length-take, length-drop, inl, inr}
use Rattle.std.specs.List.{All, filter, slice_split, prefix_len, position_or_len, before_first, after_first}
use Rattle.std.proofs.lemmas.Bool.{ne_eqb, cases_lt}
use Rattle.std.proofs.lemmas.List.{drop_more, drop_all, get_or-drop}
use Rattle.std.proofs.lemmas.List.Splits.{slice_split-cons_yes, slice_split_none, slice_split_first}
use Rattle.std.proofs.lemmas.List.Sums.{prefix_len-le-length, prefix_len_stops, passes_at_first, fails_before_first}
use Rattle.fs_lines.specs.declared.line.LineFault.{LineFault}
use Rattle.fs_lines.specs.Lines.{is_space, is_filled, words_of, word_bytes, each}
use Rattle.fs_lines.proofs.Escapes.{with_front, front_more}

-- a space in front
past_space : (b : ℕ) (line : List ℕ) → is_space b ≡ true → words_of (b ∷ line) ≡ words_of line
past_space b line space = ap (filter is_filled) (slice_split-cons_yes is_space b line space)

past_more : (b : ℕ) (line : List ℕ) (space : Bool) → is_space b ≡ space → words_of (drop (prefix_len is_space line) line) ≡ words_of line
    → words_of (drop (cond space (1 + prefix_len is_space line) 0) (b ∷ line)) ≡ words_of (b ∷ line)
past_more b line true is rest =
    let next : 1 + prefix_len is_space line ≡ suc (prefix_len is_space line) = omega arith in
    ap (λ n. words_of (drop n (b ∷ line))) next ∙ rest ∙ sym (past_space b line is)
past_more b line false is rest = refl

-- all spaces in front
pub past_spaces : (line : List ℕ) → words_of (drop (prefix_len is_space line) line) ≡ words_of line
past_spaces [] = refl
past_spaces (b ∷ line) = past_more b line (is_space b) refl (past_spaces line)

filled_first : (word : List ℕ) (parts : List (List ℕ)) → 0 < length word → filter is_filled (word ∷ parts) ≡ word ∷ filter is_filled parts
filled_first word parts some =
    let filled : (length word == 0) ≡ false = ne_eqb (length word) 0 (λ none. absurd (omega arith)) in
    ap (λ (empty : Bool). cond (not empty) (word ∷ filter is_filled parts) (filter is_filled parts)) filled

-- the word before a space, and the one before the end
word_and_more : (line : List ℕ) (n : ℕ) → n ≡ position_or_len is_space line → 0 < n → n < length line → words_of line ≡ take n line ∷ words_of (drop n line)
word_and_more line n is some inside =
    let front : 0 < length (take n line) = omega (arith, length-take n line) in
    let behind : words_of (drop n line) ≡ words_of (drop (n + 1) line) =
    ap words_of (drop_more line n 0 inside) ∙ past_space (get_or line n 0) (drop (n + 1) line) (subst (λ k. is_space (get_or line k 0) ≡ true) (sym is) (passes_at_first is_space line 0 (omega arith))) in
    subst (λ k. words_of line ≡ take k line ∷ words_of (drop (k + 1) line)) (sym is) (ap (filter is_filled) (slice_split_first is_space line 0 (omega arith))
    ∙ filled_first (before_first is_space line) (slice_split is_space (after_first is_space line)) (subst (λ k. 0 < length (take k line)) is front))
    ∙ ap (λ l. take n line ∷ l) (sym behind)

last_word : (line : List ℕ) (n : ℕ) → n ≡ position_or_len is_space line → 0 < n → length line ≤ n → words_of line ≡ take n line ∷ words_of (drop n line)
last_word line n is some all =
    let clean : All (λ x. is_space x ≡ false) line = λ k d below. fails_before_first is_space line k d (omega arith) in
    rw (take_all n line all, drop_all n line all)
    (ap (filter is_filled) (slice_split_none is_space line clean) ∙ filled_first line [] (omega (arith, prefix_len-le-length (λ x. not (is_space x)) line)))

begins_word : (line : List ℕ) → 0 < length line → is_space (get_or line 0 0) ≡ false → 0 < position_or_len is_space line
begins_word [] some other = absurd (omega arith)
begins_word (b ∷ line) some other = rw other (omega arith)

word_first : (line : List ℕ) (n : ℕ) → n ≡ position_or_len is_space line → 0 < n → words_of line ≡ take n line ∷ words_of (drop n line)
word_first line n is some = elim (cases_lt n (length line)) [
  | inl inside ↦ word_and_more line n is some inside
  | inr all ↦ last_word line n is some all
]

-- the line behind its spaces
begun_by : (line : List ℕ) → 0 < length (drop (prefix_len is_space line) line) → is_space (get_or (drop (prefix_len is_space line) line) 0 0) ≡ false
begun_by line some =
    let n : ℕ = prefix_len is_space line in
    let inside : prefix_len is_space line < length line = omega (arith, length-drop n line) in
    ap is_space (get_or-drop n line 0 0 ∙ ap (λ k. get_or line k 0) (omega arith)) ∙ prefix_len_stops is_space line 0 inside

pub no_word : (line begun : List ℕ) (start : ℕ) → start ≡ prefix_len is_space line → begun ≡ drop start line → length begun ≡ 0 → words_of line ≡ []
no_word line begun start spaces behind none = sym (past_spaces line) ∙ ap (λ n. words_of (drop n line)) (sym spaces) ∙ ap words_of (sym behind) ∙ wordless begun none
  where
    wordless : (text : List ℕ) → length text ≡ 0 → words_of text ≡ []
    wordless [] none = refl
    wordless (b ∷ text) none = absurd (omega arith)

pub first_word_is : (line begun word after : List ℕ) (start n : ℕ) → start ≡ prefix_len is_space line → begun ≡ drop start line → 0 < length begun
    → n ≡ position_or_len is_space begun → word ≡ take n begun → after ≡ drop n begun → (length after < length line) × (words_of line ≡ word ∷ words_of after)
first_word_is line begun word after start n spaces behind some is front back =
    let from : begun ≡ drop (prefix_len is_space line) line = behind ∙ ap (λ k. drop k line) spaces in
    let first : is_space (get_or begun 0 0) ≡ false = ap (λ l. is_space (get_or l 0 0)) from ∙ begun_by line (omega (arith, ap length from)) in
    let some_word : 0 < n = omega (arith, begins_word begun some first) in (
      omega (arith, length-drop n begun, length-drop start line, ap length back, ap length behind),
      sym (past_spaces line) ∙ ap words_of (sym from) ∙ word_first begun n is some_word ∙ rw (front, back) refl,
    )

-- ---- reading them

one_read : (word bytes : List ℕ) (words : List (List ℕ)) → word_bytes word ≡ Ok bytes → with_front (bytes ∷ []) (each word_bytes words) ≡ each word_bytes (word ∷ words)
one_read word bytes words said = rw said refl

-- one more word is read
pub reads_word : (old new : List (List ℕ)) (bytes word rest after : List ℕ) (said : Result (List (List ℕ)) LineFault)
    → with_front old (each word_bytes (words_of rest)) ≡ said → words_of rest ≡ word ∷ words_of after → word_bytes word ≡ Ok bytes → new ≡ old ++ bytes ∷ []
    → with_front new (each word_bytes (words_of after)) ≡ said
reads_word old new bytes word rest after said so_far cut read pushed =
    rw pushed
    (front_more old (bytes ∷ []) (each word_bytes (words_of after))
    ∙ ap (with_front old) (one_read word bytes (words_of after) read ∙ ap (each word_bytes) (sym cut)) ∙ so_far)

-- one that can't be read
pub word_fails : (front : List (List ℕ)) (word rest after : List ℕ) (fault : LineFault) (said : Result (List (List ℕ)) LineFault)
    → with_front front (each word_bytes (words_of rest)) ≡ said → words_of rest ≡ word ∷ words_of after → word_bytes word ≡ Err fault → said ≡ Err fault
word_fails front word rest after fault said so_far cut bad = sym so_far ∙ rw (cut, bad) refl

-- no more
pub all_read : (front : List (List ℕ)) (rest : List ℕ) (said : Result (List (List ℕ)) LineFault) → with_front front (each word_bytes (words_of rest)) ≡ said → words_of rest ≡ []
    → said ≡ Ok front
all_read front rest said so_far none = sym so_far ∙ rw none (ap Ok (append-nil front))

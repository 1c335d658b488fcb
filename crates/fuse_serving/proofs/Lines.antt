-- Lines of a text, and the numbers of a line.
--     lines_behind        the lines behind the end of one
--     named_line, last_named        a line that begins with a name
--     some_then        what follows of what was found
use Rattle.std.proofs.Common.{◌≡◌, ℕ, ◌+◌, ◌<◌, ◌≤◌, List, [], ◌∷◌, ◌++◌, length, map, take, drop, get_or, arith, refl, sym, ap, subst, ◌∙◌, take-append-drop, Some, None}
use Rattle.std.specs.Prelude.{zero, suc, Bool, true, false, Contains, Option, MatchOption, IfSome}
use Rattle.std.specs.List.{slice_split, slice_index, onto_first, position_or_len}
use Rattle.std.proofs.lemmas.Bool.{false_from_ne_true}
use Rattle.std.proofs.lemmas.List.{map-append, get_or_default, length-append}
use Rattle.std.proofs.lemmas.List.Splits.{slice_split-cons_yes, slice_split-cons_no, slice_split_none, slice_split_first}
use Rattle.std.proofs.lemmas.List.Sums.{position_or_len_is}
use Rattle.memchr.specs.Find.{IsFirstByte, is_byte}
use Rattle.fuse_serving.specs.Status.{ends_line, SaysNumber, SaysIds, no_word, empty_word, one_id}

first_line : (text : List ℕ) (n : ℕ) → IsFirstByte (is_byte 10) text (Some n) → slice_split ends_line text ≡ take n text ∷ slice_split ends_line (drop (n + 1) text)
first_line text n (first, passes) =
    let at : position_or_len ends_line text ≡ n =
    position_or_len_is ends_line text n 0 (omega (arith, first.high)) (λ k below. false_from_ne_true (ends_line (get_or text k 0)) (first.before k (omega arith) below)) (λ _. passes) in
    slice_split_first ends_line text 0 (omega (arith, at, first.high)) ∙ ap (λ i. take i text ∷ slice_split ends_line (drop (i + 1) text)) at

one_line : (text : List ℕ) → IsFirstByte (is_byte 10) text None → slice_split ends_line text ≡ text ∷ []
one_line text none =
    slice_split_none ends_line text (λ k e below. ap ends_line (get_or_default text k e 0 below) ∙ false_from_ne_true (ends_line (get_or text k 0)) (none k (omega arith) below))

at_first : (x : List ℕ) (xs : List (List ℕ)) → Contains (x ∷ xs) x
at_first x xs = (0, omega arith, refl)

behind_first : (x y : List ℕ) (xs : List (List ℕ)) → Contains xs y → Contains (x ∷ xs) y
behind_first x y xs (k, within, is) = (suc k, omega (arith, within), is)

past_first : (line : List ℕ) (parts : List (List ℕ)) → Contains (drop 1 parts) line → Contains parts line
past_first line [] among = among
past_first line (part ∷ parts) among = behind_first part line parts among

drop-onto_first : (x : ℕ) (parts : List (List ℕ)) → drop 1 (onto_first x parts) ≡ drop 1 parts
drop-onto_first x [] = refl
drop-onto_first x (part ∷ parts) = refl

by_first : (x : ℕ) (text line : List ℕ) (ends : Bool) → ends_line x ≡ ends → Contains (drop 1 (slice_split ends_line text)) line
    → Contains (drop 1 (slice_split ends_line (x ∷ text))) line
by_first x text line true e among =
    subst (λ (parts : List (List ℕ)). Contains (drop 1 parts) line) (sym (slice_split-cons_yes ends_line x text e)) (past_first line (slice_split ends_line text) among)
by_first x text line false e among =
    subst (λ (parts : List (List ℕ)). Contains (drop 1 parts) line) (sym (slice_split-cons_no ends_line x text e))
    (subst (λ (parts : List (List ℕ)). Contains parts line) (sym (drop-onto_first x (slice_split ends_line text))) among)

-- what stands behind the end of a line stands behind the first line
later_lines : (text : List ℕ) (at : ℕ) → at < length text → slice_index text at ≡ 10 → (line : List ℕ) → Contains (slice_split ends_line (drop (suc at) text)) line
    → Contains (drop 1 (slice_split ends_line text)) line
later_lines [] at below is line among = absurd (omega arith)
later_lines (x ∷ text) zero below is line among =
    subst (λ (parts : List (List ℕ)). Contains (drop 1 parts) line) (sym (slice_split-cons_yes ends_line x text (ap ends_line is))) among
later_lines (x ∷ text) (suc at) below is line among = by_first x text line (ends_line x) refl (later_lines text at (omega (arith, below)) is line among)

-- each line behind the end of one is a line of the text
pub lines_behind : (text : List ℕ) (at : ℕ) → at < length text → slice_index text at ≡ 10 → (line : List ℕ) → Contains (slice_split ends_line (drop (at + 1) text)) line
    → Contains (slice_split ends_line text) line
lines_behind text at below is line among =
    let next : at + 1 ≡ suc at = omega arith in
    past_first line (slice_split ends_line text) (later_lines text at below is line (subst (λ (n : ℕ). Contains (slice_split ends_line (drop n text)) line) next among))

-- the first line begins with a name, and ends there
pub named_line : (text line name said : List ℕ) (n : ℕ) → IsFirstByte (is_byte 10) text (Some n) → line ≡ take n text → line ≡ name ++ said
    → Contains (slice_split ends_line text) (name ++ said)
named_line text line name said n first is whole =
    subst (λ (parts : List (List ℕ)). Contains parts (name ++ said)) (sym (first_line text n first))
    (subst (λ (l : List ℕ). Contains (l ∷ slice_split ends_line (drop (n + 1) text)) (name ++ said)) (sym whole ∙ is) (at_first (name ++ said) (slice_split ends_line (drop (n + 1) text))))

-- nothing ends it
pub last_named : (text name said : List ℕ) → IsFirstByte (is_byte 10) text None → text ≡ name ++ said → Contains (slice_split ends_line text) (name ++ said)
last_named text name said none whole =
    subst (λ (parts : List (List ℕ)). Contains parts (name ++ said)) (sym (one_line text none))
    (subst (λ (l : List ℕ). Contains (l ∷ []) (name ++ said)) (sym whole) (at_first (name ++ said) []))

pub some_then : {X : Type 0} (A : Type 0) {P Q : X → Type 0} (found : Option X) → MatchOption found A P → ((x : X) → P x → Q x) → IfSome found Q
some_then A None said f = tt
some_then A (Some x) said f = f x said

pub if_some_then : {X : Type 0} {P Q : X → Type 0} (found : Option X) → IfSome found P → ((x : X) → P x → Q x) → IfSome found Q
if_some_then None said f = tt
if_some_then (Some x) said f = f x said

-- what begins with a name
pub whole_line : (line name rest : List ℕ) → take (length name) line ≡ name → rest ≡ drop (length name) line → line ≡ name ++ rest
whole_line line name rest front behind =
    sym (take-append-drop (length name) line) ∙ ap (λ (s : List ℕ). s ++ drop (length name) line) front ∙ ap (λ (s : List ℕ). name ++ s) (sym behind)

-- with one more there are no more than so many
pub one_longer : (ids new : List ℕ) (id most : ℕ) → new ≡ ids ++ id ∷ [] → length ids < most → length new ≤ most
one_longer ids new id most is lt = omega (arith, ap length is, length-append ids (id ∷ []), lt)

pub no_bytes : (xs : List ℕ) → length xs ≡ 0 → xs ≡ []
no_bytes [] none = refl
no_bytes (x ∷ xs) none = absurd (omega arith)

more_empty : (words : List (List ℕ)) (ids : List ℕ) → SaysIds words ids → SaysIds (words ++ [] ∷ []) ids
more_empty [] ids no_word = empty_word [] [] no_word
more_empty ([] ∷ words) ids (empty_word _ _ says) = empty_word (words ++ [] ∷ []) ids (more_empty words ids says)
more_empty (word ∷ words) (id ∷ ids) (one_id _ _ _ _ is says) = one_id word id (words ++ [] ∷ []) ids is (more_empty words ids says)

more_ids : (words : List (List ℕ)) (ids : List ℕ) (word : List ℕ) (id : ℕ) → SaysIds words ids → SaysNumber 32 10 word id
    → SaysIds (words ++ word ∷ []) (ids ++ id ∷ [])
more_ids [] ids word id no_word is = one_id word id [] [] is no_word
more_ids ([] ∷ words) ids word id (empty_word _ _ says) is = empty_word (words ++ word ∷ []) (ids ++ id ∷ []) (more_ids words ids word id says is)
more_ids (first ∷ words) (one ∷ ids) word id (one_id _ _ _ _ before says) is =
    one_id first one (words ++ word ∷ []) (ids ++ id ∷ []) before (more_ids words ids word id says is)

pub one_empty_more : {X : Type 0} (see : X → List ℕ) (xs : List X) (x : X) (ids : List ℕ) → SaysIds (map see xs) ids → see x ≡ []
    → SaysIds (map see (xs ++ x ∷ [])) ids
one_empty_more see xs x ids says is =
    rw (map-append see xs (x ∷ []), is) (more_empty (map see xs) ids says)

pub one_id_more : {X : Type 0} (see : X → List ℕ) (xs : List X) (x : X) (ids new : List ℕ) (id : ℕ) → SaysIds (map see xs) ids
    → SaysNumber 32 10 (see x) id → new ≡ ids ++ id ∷ [] → SaysIds (map see (xs ++ x ∷ [])) new
one_id_more see xs x ids new id says is pushed =
    rw (map-append see xs (x ∷ []), pushed) (more_ids (map see xs) ids (see x) id says is)

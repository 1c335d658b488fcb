-- Pieces of a text, one after another.
use Rattle.std.proofs.Common.{◌≡◌, ℕ, ◌<◌, true, false, List, [], ◌∷◌, ◌++◌, length, map, suc, zero, get_or, refl, sym, ap, ◌∙◌, subst, inl, inr, arith, append_assoc, append-nil, Bor}
use Rattle.std.proofs.lemmas.List.{map-append}
use Rattle.std.proofs.lemmas.Grind.{flat_map-append}
use Rattle.std.specs.List.{flat_map}
use Rattle.std.proofs.lemmas.Bool.{cases_Bool}
use Rattle.posix_acl.specs.declared.entry.Entry.{Entry}
use Rattle.posix_acl.specs.Text.{is_empty_piece, without_blanks, kept_pieces, line_pieces, IsEntryText, AreEntryTexts, AppendsEntries, IsNoText}

pub kept_pieces-append : (ps qs : List (List ℕ)) → kept_pieces (ps ++ qs) ≡ kept_pieces ps ++ kept_pieces qs
kept_pieces-append [] qs = refl
kept_pieces-append (p ∷ ps) qs =
    elim (cases_Bool (is_empty_piece (without_blanks p))) [
      | inl gone ↦ rw gone (kept_pieces-append ps qs)
      | inr there ↦ rw there (ap (λ xs. without_blanks p ∷ xs) (kept_pieces-append ps qs))
    ]

pub texts-append : (ps qs : List (List ℕ)) (es fs : List Entry) → AreEntryTexts ps es → AreEntryTexts qs fs → AreEntryTexts (ps ++ qs) (es ++ fs)
texts-append [] qs [] fs first second = second
texts-append [] qs (e ∷ es) fs first second = absurd first
texts-append (p ∷ ps) qs [] fs first second = absurd first
texts-append (p ∷ ps) qs (e ∷ es) fs first second = (first.0, texts-append ps qs es fs first.1 second)

front_texts : (ps qs : List (List ℕ)) (es : List Entry) → AreEntryTexts (ps ++ qs) es → (fs : List Entry) × AreEntryTexts ps fs
front_texts [] qs es are = ([], tt)
front_texts (p ∷ ps) qs [] are = absurd are
front_texts (p ∷ ps) qs (e ∷ es) are = let rest = front_texts ps qs es are.1 in (e ∷ rest.0, (are.0, rest.1))

back_texts : (ps qs : List (List ℕ)) (es : List Entry) → AreEntryTexts (ps ++ qs) es → (fs : List Entry) × AreEntryTexts qs fs
back_texts [] qs es are = (es, are)
back_texts (p ∷ ps) qs [] are = absurd are
back_texts (p ∷ ps) qs (e ∷ es) are = back_texts ps qs es are.1

first_bad : (p : List ℕ) (ps : List (List ℕ)) → ((e : Entry) → IsEntryText p e → ⊥) → IsNoText (p ∷ ps)
first_bad p ps bad [] are = are
first_bad p ps bad (e ∷ es) are = bad e are.0

others_bad : (p : List ℕ) (ps : List (List ℕ)) → IsNoText ps → IsNoText (p ∷ ps)
others_bad p ps bad [] are = are
others_bad p ps bad (e ∷ es) are = bad es are.1

-- one piece that is no entry, and the line is none
pub bad_piece : (ps : List (List ℕ)) (n : ℕ) (d : List ℕ) → n < length ps → is_empty_piece (without_blanks (get_or ps n d)) ≡ false
    → ((e : Entry) → IsEntryText (without_blanks (get_or ps n d)) e → ⊥) → IsNoText (kept_pieces ps)
bad_piece [] n d below there bad es are = absurd (omega arith)
bad_piece (p ∷ ps) zero d below there bad es are = first_bad (without_blanks p) (kept_pieces ps) bad es (rw there at are)
bad_piece (p ∷ ps) (suc n) d below there bad es are =
    elim (cases_Bool (is_empty_piece (without_blanks p))) [
      | inl gone ↦ bad_piece ps n d (omega arith) there bad es (rw gone at are)
      | inr kept ↦ others_bad (without_blanks p) (kept_pieces ps) (bad_piece ps n d (omega arith) there bad) es (rw kept at are)
    ]

-- one line that is none, and the text is none
pub bad_line : (lines : List (List ℕ)) (n : ℕ) (d : List ℕ) → n < length lines → IsNoText (line_pieces (get_or lines n d)) → IsNoText (flat_map line_pieces lines)
bad_line [] n d below bad es are = absurd (omega arith)
bad_line (l ∷ ls) zero d below bad es are = let front = front_texts (line_pieces l) (flat_map line_pieces ls) es are in bad front.0 front.1
bad_line (l ∷ ls) (suc n) d below bad es are =
    let back = back_texts (line_pieces l) (flat_map line_pieces ls) es are in bad_line ls n d (omega arith) bad back.0 back.1

map_push : (f : Bor (List ℕ) → List ℕ) (xs : List (Bor (List ℕ))) (x : Bor (List ℕ)) → map f (xs ++ x ∷ []) ≡ map f xs ++ f x ∷ []
map_push f xs x = map-append f xs (x ∷ [])

-- a piece with nothing in it adds nothing
pub empty_piece : (old new : List Entry) (seen : List (Bor (List ℕ))) (p : Bor (List ℕ)) → is_empty_piece (without_blanks p.now) ≡ true
    → AppendsEntries old new (kept_pieces (map (λ x. x.now) seen)) → AppendsEntries old new (kept_pieces (map (λ x. x.now) (seen ++ p ∷ [])))
empty_piece old new seen p gone so_far =
    let none : kept_pieces (p.now ∷ []) ≡ [] = rw gone refl in
    let same : kept_pieces (map (λ x. x.now) seen) ≡ kept_pieces (map (λ x. x.now) (seen ++ p ∷ [])) =
    sym (ap kept_pieces (map_push (λ x. x.now) seen p) ∙ kept_pieces-append (map (λ x. x.now) seen) (p.now ∷ []) ∙ rw none (append-nil (kept_pieces (map (λ x. x.now) seen)))) in
    subst (λ ps. AppendsEntries old new ps) same so_far

-- a piece that is an entry adds it
pub one_piece : (old new : List Entry) (seen : List (Bor (List ℕ))) (p : Bor (List ℕ)) (e : Entry) → is_empty_piece (without_blanks p.now) ≡ false
    → IsEntryText (without_blanks p.now) e → AppendsEntries old new (kept_pieces (map (λ x. x.now) seen))
    → AppendsEntries old (new ++ e ∷ []) (kept_pieces (map (λ x. x.now) (seen ++ p ∷ [])))
one_piece old new seen p e there is so_far =
    let one : kept_pieces (p.now ∷ []) ≡ without_blanks p.now ∷ [] = rw there refl in
    let same : kept_pieces (map (λ x. x.now) seen) ++ without_blanks p.now ∷ [] ≡ kept_pieces (map (λ x. x.now) (seen ++ p ∷ [])) =
    sym (ap kept_pieces (map_push (λ x. x.now) seen p) ∙ kept_pieces-append (map (λ x. x.now) seen) (p.now ∷ []) ∙ ap (λ qs. kept_pieces (map (λ x. x.now) seen) ++ qs) one) in (
      so_far.0 ++ e ∷ [],
      subst (λ ps. AreEntryTexts ps (so_far.0 ++ e ∷ [])) same (texts-append _ _ so_far.0 (e ∷ []) so_far.1 (is, tt)),
      ap (λ es. es ++ e ∷ []) so_far.2 ∙ append_assoc old so_far.0 (e ∷ []),
    )

flat_map_push : (f : List ℕ → List (List ℕ)) (xs : List (List ℕ)) (x : List ℕ) → flat_map f (xs ++ x ∷ []) ≡ flat_map f xs ++ f x
flat_map_push f xs x = flat_map-append f xs (x ∷ []) ∙ ap (λ ys. flat_map f xs ++ ys) (append-nil (f x))

pub one_line : (old new : List Entry) (seen : List (Bor (List ℕ))) (l : Bor (List ℕ)) → AppendsEntries old new (line_pieces l.now)
    → AreEntryTexts (flat_map line_pieces (map (λ x. x.now) seen)) old → AreEntryTexts (flat_map line_pieces (map (λ x. x.now) (seen ++ l ∷ []))) new
one_line old new seen l adds so_far =
    let same : flat_map line_pieces (map (λ x. x.now) seen) ++ line_pieces l.now ≡ flat_map line_pieces (map (λ x. x.now) (seen ++ l ∷ [])) =
    sym (ap (flat_map line_pieces) (map_push (λ x. x.now) seen l) ∙ flat_map_push line_pieces (map (λ x. x.now) seen) l.now) in
    rw adds.2 (subst (λ ps. AreEntryTexts ps (old ++ adds.0)) same (texts-append _ _ old adds.0 so_far adds.1))

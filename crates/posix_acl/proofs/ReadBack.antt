-- What is written is read back.
use Rattle.std.proofs.Common.{◌≡◌, ℕ, ◌+◌, ◌-◌, ◌%◌, ◌^◌, ◌<◌, ◌≤◌, Bool, true, false, List, [], ◌∷◌, ◌++◌, length, map, suc, zero, take, leb, eqb, not, cond, refl, sym, ap, ◌∙◌, subst, inl, arith, append_assoc, append-nil}
use Rattle.std.specs.List.{All, AllByRecursion, slice_split, flat_map, list_all, before_first, position_or_len}
use Rattle.std.specs.Fmt.{decimal}
use Rattle.std.proofs.Math.Seq.{take-length}
use Rattle.std.proofs.lemmas.Bool.{and_parts, and_from, leb-true, le-leb, ne_eqb, or_from, not-true}
use Rattle.std.proofs.lemmas.Fmt.{decimal_by_steps}
use Rattle.std.proofs.lemmas.List.Folds.{list_all-append}
use Rattle.std.proofs.lemmas.List.Splits.{slice_split_none, slice_split_at}
use Rattle.std.proofs.lemmas.List.Sums.{position_or_len_is}
use Rattle.posix_acl.specs.declared.entry.Perms.{Perms}
use Rattle.posix_acl.specs.declared.entry.Entry.{Entry}
use Rattle.posix_acl.specs.declared.entry.Tag.{Tag}
use Rattle.posix_acl.specs.declared.entry.Tag.TheVariants.{UserObj, User, GroupObj, Group, Mask, Other}
use Rattle.posix_acl.specs.declared.text.TextForm.{TextForm}
use Rattle.posix_acl.specs.declared.text.TextForm.TheVariants.{Long, Short}
use Rattle.posix_acl.specs.Entries.{is_named}
use Rattle.posix_acl.specs.AccessList.{AccessList, entries_of}
use Rattle.posix_acl.specs.Text.{word_of, qualifier_of, perms_text, entry_text, long_text, short_text, written_text, is_newline, is_comma, is_hash, is_colon, is_blank, is_empty_piece, without_front_blanks, without_back_blanks, without_blanks, kept_pieces, line_pieces, text_pieces, IsPermsText, AreFieldsOf, AreEntryFields, IsEntryText, AreEntryTexts, IsText}
use Rattle.posix_acl.proofs.Cuts.{front_done, back_done}

-- letters, digits, dashes and colons are at least 45, a comma is 44, and the other marks are less
abbrev from : ℕ → List ℕ → Bool
from low bs = list_all (λ b. leb low b) bs

from_append : (low : ℕ) (xs ys : List ℕ) → from low xs ≡ true → from low ys ≡ true → from low (xs ++ ys) ≡ true
from_append low xs ys a b = list_all-append (λ c. leb low c) xs ys ∙ and_from (from low xs) (from low ys) a b

from_lower : (low less : ℕ) → less ≤ low → (bs : List ℕ) → from low bs ≡ true → from less bs ≡ true
from_lower low less le [] all = refl
from_lower low less le (b ∷ bs) all =
    let parts = and_parts (leb low b) (from low bs) all in
    let at_least = leb-true low b parts.0 in
    and_from (leb less b) (from less bs) (le-leb less b (omega arith)) (from_lower low less le bs parts.1)

none_of : (p : ℕ → Bool) (low : ℕ) → ((b : ℕ) → low ≤ b → p b ≡ false) → (bs : List ℕ) → from low bs ≡ true → All (λ b. p b ≡ false) bs
none_of p low none [] all k d below = absurd (omega arith)
none_of p low none (b ∷ bs) all zero d below = none b (leb-true low b (and_parts (leb low b) (from low bs) all).0)
none_of p low none (b ∷ bs) all (suc k) d below = none_of p low none bs (and_parts (leb low b) (from low bs) all).1 k d (omega arith)

digits_from : (low : ℕ) → low ≤ 48 → (n : ℕ) → n < 2 ^ 64 → from low (decimal n) ≡ true
digits_from low le n fits =
    decimal_by_steps (λ m ds. from low ds ≡ true)
    (λ m small. and_from (leb low (48 + m)) true (le-leb low (48 + m) (omega arith)) refl)
    (λ m ds large before. from_append low ds ((48 + m % 10) ∷ []) before (and_from (leb low (48 + m % 10)) true (le-leb low (48 + m % 10) (omega arith)) refl))
    n fits

word_from : (tag : Tag) → from 59 (word_of tag) ≡ true
word_from UserObj = refl
word_from User = refl
word_from GroupObj = refl
word_from Group = refl
word_from Mask = refl
word_from Other = refl

perms_from : (p : Perms) → from 45 (perms_text p) ≡ true
perms_from p = bits p.read p.write p.execute
  where
    bits : (r w x : Bool) → from 45 (cond r 114 45 ∷ cond w 119 45 ∷ cond x 120 45 ∷ []) ≡ true
    bits true true true = refl
    bits true true false = refl
    bits true false true = refl
    bits true false false = refl
    bits false true true = refl
    bits false true false = refl
    bits false false true = refl
    bits false false false = refl

qualifier_from : (tag : Tag) (id : ℕ) → id < 2 ^ 32 → from 45 (qualifier_of tag id) ≡ true
qualifier_from UserObj id fits = refl
qualifier_from User id fits = digits_from 45 (omega arith) id (omega arith)
qualifier_from GroupObj id fits = refl
qualifier_from Group id fits = digits_from 45 (omega arith) id (omega arith)
qualifier_from Mask id fits = refl
qualifier_from Other id fits = refl

entry_from : (e : Entry) → e.id < 2 ^ 32 → from 45 (entry_text e) ≡ true
entry_from e fits =
    from_append 45 (word_of e.tag) _ (from_lower 59 45 (omega arith) (word_of e.tag) (word_from e.tag))
    (from_append 45 (qualifier_of e.tag e.id) (58 ∷ perms_text e.perms) (qualifier_from e.tag e.id fits) (perms_from e.perms))

not_this : (n low : ℕ) → n < low → (b : ℕ) → low ≤ b → eqb b n ≡ false
not_this n low lt b le = ne_eqb b n (λ same. absurd (omega arith))

not_blank : (b : ℕ) → 45 ≤ b → is_blank b ≡ false
not_blank b le = or_from (eqb b 32) (eqb b 9) (not_this 32 45 (omega arith) b le) (not_this 9 45 (omega arith) b le)

-- a text without a mark isn't cut there
uncut : (n low : ℕ) → n < low → (bs : List ℕ) → from low bs ≡ true → slice_split (λ b. eqb b n) bs ≡ bs ∷ []
uncut n low lt bs all = slice_split_none (λ b. eqb b n) bs (none_of (λ b. eqb b n) low (not_this n low lt) bs all)

no_comment : (bs : List ℕ) → from 44 bs ≡ true → before_first is_hash bs ≡ bs
no_comment bs all =
    let none : All (λ b. is_hash b ≡ false) bs = none_of is_hash 44 (not_this 35 44 (omega arith)) bs all in
    let at : position_or_len is_hash bs ≡ length bs =
    position_or_len_is is_hash bs (length bs) 0 (omega arith) (λ k lt. none k 0 lt) (λ lt. absurd (omega arith)) in
    ap (λ n. take n bs) at ∙ take-length bs

no_blanks : (bs : List ℕ) → from 45 bs ≡ true → 0 < length bs → without_blanks bs ≡ bs
no_blanks bs all some =
    let none : All (λ b. is_blank b ≡ false) bs = none_of is_blank 45 not_blank bs all in
    let start : without_front_blanks bs ≡ bs = front_done bs (none 0 0 some) in
    ap without_back_blanks start ∙ back_done bs some (none (length bs - 1) 0 (omega arith))

entry_some : (e : Entry) → 0 < length (entry_text e)
entry_some e = word_some e.tag
  where
    word_some : (tag : Tag) → 0 < length (word_of tag ++ (58 ∷ (qualifier_of e.tag e.id ++ (58 ∷ perms_text e.perms))))
    word_some UserObj = omega arith
    word_some User = omega arith
    word_some GroupObj = omega arith
    word_some Group = omega arith
    word_some Mask = omega arith
    word_some Other = omega arith

-- an entry whose id counts, or is 0, and has 32 bits
pub record IsReadable (e : Entry) : Type 0 where
  pub fits : e.id < 2 ^ 32
  pub plain : is_named e.tag ≡ false → e.id ≡ 0

abbrev pub AllReadable : List Entry → Type 0
AllReadable es = AllByRecursion IsReadable es

kept_one : (t : List ℕ) (ps : List (List ℕ)) → without_blanks t ≡ t → is_empty_piece t ≡ false → kept_pieces (t ∷ ps) ≡ t ∷ kept_pieces ps
kept_one t ps same there =
    let stays : is_empty_piece (without_blanks t) ≡ false = ap is_empty_piece same ∙ there in
    rw stays (ap (λ x. x ∷ kept_pieces ps) same)

not_empty : (t : List ℕ) → 0 < length t → is_empty_piece t ≡ false
not_empty t some = ne_eqb (length t) 0 (λ none. absurd (omega arith))

kept_texts : (es : List Entry) → AllReadable es → kept_pieces (map entry_text es) ≡ map entry_text es
kept_texts [] all = refl
kept_texts (e ∷ es) all =
    kept_one (entry_text e) (map entry_text es) (no_blanks (entry_text e) (entry_from e all.0.fits) (entry_some e)) (not_empty (entry_text e) (entry_some e))
    ∙ ap (λ ps. entry_text e ∷ ps) (kept_texts es all.1)

line_of_one : (t : List ℕ) → from 45 t ≡ true → 0 < length t → line_pieces t ≡ t ∷ []
line_of_one t all some =
    ap (λ l. kept_pieces (slice_split is_comma l)) (no_comment t (from_lower 45 44 (omega arith) t all))
    ∙ ap kept_pieces (uncut 44 45 (omega arith) t all)
    ∙ kept_one t [] (no_blanks t all some) (not_empty t some)

long_lines : (es : List Entry) → AllReadable es → slice_split is_newline (long_text es) ≡ map entry_text es ++ [] ∷ []
long_lines [] all = refl
long_lines (e ∷ es) all =
    let t = entry_text e in
    ap (slice_split is_newline) (append_assoc t (10 ∷ []) (long_text es))
    ∙ slice_split_at is_newline t 10 (long_text es) (none_of is_newline 45 (not_this 10 45 (omega arith)) t (entry_from e all.0.fits)) refl
    ∙ ap (λ ls. t ∷ ls) (long_lines es all.1)

long_pieces : (es : List Entry) → AllReadable es → flat_map line_pieces (map entry_text es ++ [] ∷ []) ≡ map entry_text es
long_pieces [] all = refl
long_pieces (e ∷ es) all =
    ap (λ ps. ps ++ flat_map line_pieces (map entry_text es ++ [] ∷ [])) (line_of_one (entry_text e) (entry_from e all.0.fits) (entry_some e))
    ∙ ap (λ ps. entry_text e ∷ ps) (long_pieces es all.1)

abbrev with_comma : Entry → List ℕ
with_comma e = 44 ∷ entry_text e

short_commas : (e : Entry) (es : List Entry) → IsReadable e → AllReadable es → slice_split is_comma (entry_text e ++ flat_map with_comma es) ≡ entry_text e ∷ map entry_text es
short_commas e [] is all = ap (slice_split is_comma) (append-nil (entry_text e)) ∙ uncut 44 45 (omega arith) (entry_text e) (entry_from e is.fits)
short_commas e (f ∷ fs) is all =
    slice_split_at is_comma (entry_text e) 44 (entry_text f ++ flat_map with_comma fs) (none_of is_comma 45 (not_this 44 45 (omega arith)) (entry_text e) (entry_from e is.fits)) refl
    ∙ ap (λ ps. entry_text e ∷ ps) (short_commas f fs all.0 all.1)

commas_from : (es : List Entry) → AllReadable es → from 44 (flat_map with_comma es) ≡ true
commas_from [] all = refl
commas_from (e ∷ es) all =
    from_append 44 (with_comma e) (flat_map with_comma es)
    (and_from (leb 44 44) (from 44 (entry_text e)) refl (from_lower 45 44 (omega arith) (entry_text e) (entry_from e all.0.fits))) (commas_from es all.1)

short_pieces : (e : Entry) (es : List Entry) → IsReadable e → AllReadable es → text_pieces (short_text (e ∷ es)) ≡ map entry_text (e ∷ es)
short_pieces e es is all =
    let t = entry_text e ++ flat_map with_comma es in
    let low : from 44 t ≡ true = from_append 44 (entry_text e) (flat_map with_comma es) (from_lower 45 44 (omega arith) (entry_text e) (entry_from e is.fits)) (commas_from es all) in
    ap (flat_map line_pieces) (uncut 10 44 (omega arith) t low)
    ∙ append-nil (line_pieces t)
    ∙ ap (λ l. kept_pieces (slice_split is_comma l)) (no_comment t low)
    ∙ ap kept_pieces (short_commas e es is all)
    ∙ kept_texts (e ∷ es) (is, all)

abbrev no_colon : List ℕ → Bool
no_colon bs = list_all (λ b. not (is_colon b)) bs

none_colon : (bs : List ℕ) → no_colon bs ≡ true → All (λ b. is_colon b ≡ false) bs
none_colon [] all k d below = absurd (omega arith)
none_colon (b ∷ bs) all zero d below = not-true (is_colon b) (and_parts (not (is_colon b)) (no_colon bs) all).0
none_colon (b ∷ bs) all (suc k) d below = none_colon bs (and_parts (not (is_colon b)) (no_colon bs) all).1 k d (omega arith)

digit_no_colon : (m : ℕ) → m < 10 → no_colon ((48 + m) ∷ []) ≡ true
digit_no_colon m small = let other : eqb (48 + m) 58 ≡ false = ne_eqb (48 + m) 58 (λ same. absurd (omega arith)) in rw other refl

digits_no_colon : (n : ℕ) → n < 2 ^ 64 → no_colon (decimal n) ≡ true
digits_no_colon n fits =
    decimal_by_steps (λ m ds. no_colon ds ≡ true) digit_no_colon
    (λ m ds large before. list_all-append (λ b. not (is_colon b)) ds ((48 + m % 10) ∷ []) ∙ and_from (no_colon ds) (no_colon ((48 + m % 10) ∷ [])) before (digit_no_colon (m % 10) (omega arith)))
    n fits

word_no_colon : (tag : Tag) → no_colon (word_of tag) ≡ true
word_no_colon UserObj = refl
word_no_colon User = refl
word_no_colon GroupObj = refl
word_no_colon Group = refl
word_no_colon Mask = refl
word_no_colon Other = refl

qualifier_no_colon : (tag : Tag) (id : ℕ) → id < 2 ^ 32 → no_colon (qualifier_of tag id) ≡ true
qualifier_no_colon UserObj id fits = refl
qualifier_no_colon User id fits = digits_no_colon id (omega arith)
qualifier_no_colon GroupObj id fits = refl
qualifier_no_colon Group id fits = digits_no_colon id (omega arith)
qualifier_no_colon Mask id fits = refl
qualifier_no_colon Other id fits = refl

abbrev letters_of : Bool → Bool → Bool → List ℕ
letters_of r w x = cond r 114 45 ∷ cond w 119 45 ∷ cond x 120 45 ∷ []

perms_no_colon : (r w x : Bool) → no_colon (letters_of r w x) ≡ true
perms_no_colon true true true = refl
perms_no_colon true true false = refl
perms_no_colon true false true = refl
perms_no_colon true false false = refl
perms_no_colon false true true = refl
perms_no_colon false true false = refl
perms_no_colon false false true = refl
perms_no_colon false false false = refl

abbrev perms_with : Bool → Bool → Bool → Perms
perms_with r w x = record { read = r; write = w; execute = x }

perms_read : (r w x : Bool) → IsPermsText (letters_of r w x) (perms_with r w x)
perms_read true true true = record { some = omega arith; few = omega arith; known = refl; read = refl; write = refl; execute = refl }
perms_read true true false = record { some = omega arith; few = omega arith; known = refl; read = refl; write = refl; execute = refl }
perms_read true false true = record { some = omega arith; few = omega arith; known = refl; read = refl; write = refl; execute = refl }
perms_read true false false = record { some = omega arith; few = omega arith; known = refl; read = refl; write = refl; execute = refl }
perms_read false true true = record { some = omega arith; few = omega arith; known = refl; read = refl; write = refl; execute = refl }
perms_read false true false = record { some = omega arith; few = omega arith; known = refl; read = refl; write = refl; execute = refl }
perms_read false false true = record { some = omega arith; few = omega arith; known = refl; read = refl; write = refl; execute = refl }
perms_read false false false = record { some = omega arith; few = omega arith; known = refl; read = refl; write = refl; execute = refl }

entry_fields : (e : Entry) → e.id < 2 ^ 32 → slice_split is_colon (entry_text e) ≡ word_of e.tag ∷ qualifier_of e.tag e.id ∷ perms_text e.perms ∷ []
entry_fields e fits =
    slice_split_at is_colon (word_of e.tag) 58 (qualifier_of e.tag e.id ++ (58 ∷ perms_text e.perms)) (none_colon (word_of e.tag) (word_no_colon e.tag)) refl
    ∙ ap (λ fs. word_of e.tag ∷ fs)
    (slice_split_at is_colon (qualifier_of e.tag e.id) 58 (perms_text e.perms) (none_colon (qualifier_of e.tag e.id) (qualifier_no_colon e.tag e.id fits)) refl
    ∙ ap (λ fs. qualifier_of e.tag e.id ∷ fs) (slice_split_none is_colon (perms_text e.perms) (none_colon (perms_text e.perms) (perms_no_colon e.perms.read e.perms.write e.perms.execute))))

reads_entry : (e : Entry) → IsReadable e → IsEntryText (entry_text e) e
reads_entry e is =
    let fields : AreFieldsOf (word_of e.tag) (qualifier_of e.tag e.id) (perms_text e.perms) e = record {
      word_is = inl refl;
      name_is = record { text = refl; fits = is.fits; none = is.plain };
      perms_are = perms_read e.perms.read e.perms.write e.perms.execute;
    } in
    subst (λ fs. AreEntryFields fs e) (sym (entry_fields e is.fits)) fields

reads_entries : (es : List Entry) → AllReadable es → AreEntryTexts (map entry_text es) es
reads_entries [] all = tt
reads_entries (e ∷ es) all = (reads_entry e all.0, reads_entries es all.1)

pub reads_written : (form : TextForm) (a : AccessList) → AllReadable (entries_of a) → IsText (written_text form a) (entries_of a)
reads_written Long a all =
    subst (λ ps. AreEntryTexts ps (entries_of a))
    (sym (ap (flat_map line_pieces) (long_lines (entries_of a) all) ∙ long_pieces (entries_of a) all)) (reads_entries (entries_of a) all)
reads_written Short a all =
    subst (λ ps. AreEntryTexts ps (entries_of a)) (sym (short_pieces _ _ all.0 all.1)) (reads_entries (entries_of a) all)

-- A text is read in one way.
use Rattle.std.proofs.Common.{◌≡◌, ℕ, ◌+◌, ◌*◌, Bool, true, false, List, [], ◌∷◌, get_or, cond, refl, sym, ap, ◌∙◌, inl, inr, arith}
use Rattle.std.proofs.lemmas.Fmt.{decimal_injective}
use Rattle.posix_acl.specs.declared.entry.Perms.{Perms}
use Rattle.posix_acl.specs.declared.entry.Entry.{Entry}
use Rattle.posix_acl.specs.declared.entry.Tag.{Tag}
use Rattle.posix_acl.specs.declared.entry.Tag.TheVariants.{UserObj, User, GroupObj, Group, Mask, Other}
use Rattle.posix_acl.specs.Entries.{is_named, entry}
use Rattle.posix_acl.specs.Text.{word_of, letter_of, IsWordOf, IsNameOf, IsPermsText, AreFieldsOf, AreEntryFields, AreEntryTexts, is_colon}
use Rattle.posix_acl.proofs.Ids.{named_alike}
use Rattle.std.specs.List.{slice_split}

bit_same : (a b : Bool) → cond {A = ℕ} a 1 0 ≡ cond b 1 0 → a ≡ b
bit_same true true same = refl
bit_same false false same = refl
bit_same true false same = absurd (omega arith)
bit_same false true same = absurd (omega arith)

abbrev perms : Bool → Bool → Bool → Perms
perms r w x = record { read = r; write = w; execute = x }

perms_same : (letters : List ℕ) (p q : Perms) → IsPermsText letters p → IsPermsText letters q → p ≡ q
perms_same letters p q a b =
    let r : p.read ≡ q.read = bit_same p.read q.read (sym a.read ∙ b.read) in
    let w : p.write ≡ q.write = bit_same p.write q.write (sym a.write ∙ b.write) in
    let x : p.execute ≡ q.execute = bit_same p.execute q.execute (sym a.execute ∙ b.execute) in
    let all : perms p.read p.write p.execute ≡ perms q.read q.write q.execute = rw (r, w, x) refl in
    all

abbrev initial : Tag → ℕ
initial UserObj = 117
initial User = 117
initial GroupObj = 103
initial Group = 103
initial Mask = 109
initial Other = 111

initials : (tag : Tag) → (get_or (word_of tag) 0 0 ≡ initial tag) × (get_or (letter_of tag) 0 0 ≡ initial tag)
initials UserObj = (refl, refl)
initials User = (refl, refl)
initials GroupObj = (refl, refl)
initials Group = (refl, refl)
initials Mask = (refl, refl)
initials Other = (refl, refl)

has_initial : (tag : Tag) (word : List ℕ) → IsWordOf tag word → get_or word 0 0 ≡ initial tag
has_initial tag word (inl e) = ap (λ w. get_or w 0 0) e ∙ (initials tag).0
has_initial tag word (inr e) = ap (λ w. get_or w 0 0) e ∙ (initials tag).1

-- a number for the initial and whether there is a name
abbrev kind : Tag → ℕ
kind tag = 2 * initial tag + cond (is_named tag) 1 0

kind_same : (a b : Tag) → kind a ≡ kind b → a ≡ b
kind_same UserObj UserObj same = refl
kind_same User User same = refl
kind_same GroupObj GroupObj same = refl
kind_same Group Group same = refl
kind_same Mask Mask same = refl
kind_same Other Other same = refl
kind_same a b same = absurd (omega arith)

pub tag_same : (a b : Tag) (word : List ℕ) → IsWordOf a word → IsWordOf b word → is_named a ≡ is_named b
    → a ≡ b
tag_same a b word is_a is_b named =
    let first : initial a ≡ initial b = sym (has_initial a word is_a) ∙ has_initial b word is_b in
    kind_same a b (ap (λ n. 2 * n + cond (is_named a) 1 0) first ∙ ap (λ n. 2 * initial b + cond n 1 0) named)

id_same : (tag : Tag) (i j : ℕ) (name : List ℕ) → IsNameOf tag i name → IsNameOf tag j name → i ≡ j
id_same UserObj i j name a b = a.none refl ∙ sym (b.none refl)
id_same User i j name a b = let x = a.fits in let y = b.fits in decimal_injective i j (omega arith) (omega arith) (sym a.text ∙ b.text)
id_same GroupObj i j name a b = a.none refl ∙ sym (b.none refl)
id_same Group i j name a b = let x = a.fits in let y = b.fits in decimal_injective i j (omega arith) (omega arith) (sym a.text ∙ b.text)
id_same Mask i j name a b = a.none refl ∙ sym (b.none refl)
id_same Other i j name a b = a.none refl ∙ sym (b.none refl)

pub fields_same : (word name letters : List ℕ) (e f : Entry) → AreFieldsOf word name letters e
    → AreFieldsOf word name letters f → e ≡ f
fields_same word name letters e f a b =
    let named : is_named e.tag ≡ is_named f.tag = named_alike e.tag e.id name a.name_is ∙ sym (named_alike f.tag f.id name b.name_is) in
    let tags : e.tag ≡ f.tag = tag_same e.tag f.tag word a.word_is b.word_is named in
    let ids : e.id ≡ f.id = id_same f.tag e.id f.id name (rw tags at a.name_is) b.name_is in
    let all : e.perms ≡ f.perms = perms_same letters e.perms f.perms a.perms_are b.perms_are in
    let same : entry e.tag e.id e.perms ≡ entry f.tag f.id f.perms = rw (tags, ids, all) refl in
    same

pub entry_same : (fields : List (List ℕ)) (e f : Entry) → AreEntryFields fields e → AreEntryFields fields f
    → e ≡ f
entry_same [] e f a b = absurd a
entry_same (word ∷ []) e f a b = absurd a
entry_same (word ∷ letters ∷ []) e f a b = fields_same word [] letters e f a.1 b.1
entry_same (word ∷ name ∷ letters ∷ []) e f a b = fields_same word name letters e f a b
entry_same (word ∷ name ∷ letters ∷ more ∷ fields) e f a b = absurd a

pub texts_same : (ps : List (List ℕ)) (es fs : List Entry) → AreEntryTexts ps es → AreEntryTexts ps fs → es ≡ fs
texts_same [] [] [] a b = refl
texts_same [] [] (f ∷ fs) a b = absurd b
texts_same [] (e ∷ es) fs a b = absurd a
texts_same (p ∷ ps) [] fs a b = absurd a
texts_same (p ∷ ps) (e ∷ es) [] a b = absurd b
texts_same (p ∷ ps) (e ∷ es) (f ∷ fs) a b =
    ap (λ x. x ∷ es) (entry_same (slice_split is_colon p) e f a.0 b.0) ∙ ap (λ xs. f ∷ xs) (texts_same ps es fs a.1 b.1)

-- What the calls promise of one another.
use Rattle.std.proofs.Common.{◌≡◌, ◌≢◌, ℕ, ◌*◌, ◌/◌, ◌%◌, ◌<◌, zero, suc, eqb, Bool, true, false, List, [], ◌∷◌, ◌++◌, map, cond, Option, Some, None, Result, Ok, Err, IfOk, IfErr, refl, sym, ap, ◌∙◌, subst, inl, inr, arith}
use Rattle.std.specs.List.Sorted.{IsPermutation}
use Rattle.std.proofs.lemmas.Bool.{cases_Bool, false≢true, eq-eqb}
use Rattle.std.proofs.lemmas.List.Sorted.{IsPermutation-sym, IsPermutation-trans}
use Rattle.posix_acl.specs.declared.entry.Perms.{Perms}
use Rattle.posix_acl.specs.declared.entry.Entry.{Entry}
use Rattle.posix_acl.specs.declared.entry.Tag.{Tag}
use Rattle.posix_acl.specs.declared.entry.Tag.TheVariants.{UserObj, User, GroupObj, Group, Mask, Other}
use Rattle.posix_acl.specs.declared.fault.AclFault.{AclFault}
use Rattle.posix_acl.specs.declared.fault.AclFault.TheVariants.{OutOfMemory, BadText, MissingBase, TwiceBase, TwiceQualifier, NoMask, TwoMasks, TooMany}
use Rattle.posix_acl.specs.declared.text.TextForm.{TextForm}
use Rattle.posix_acl.specs.Entries.{tag_number, is_named, perms_of, digit_of, entry, plain, plain_entries, numbers_of}
use Rattle.posix_acl.specs.AccessList.{AccessList, IsAcl, IdsFit, entries_of, named_entries, mask_entries, list_numbers, mode_bits, minimal}
use Rattle.posix_acl.specs.Faults.{first_fault, IsListOf}
use Rattle.posix_acl.specs.Stored.{access_list}
use Rattle.posix_acl.specs.Text.{written_text, IsText, text_pieces, SaysList, SaysFault, SaysFaulty, ReadsBack}
use Rattle.posix_acl.proofs.Canonical.{access_list-entries_of}
use Rattle.posix_acl.proofs.NoFault.{no_fault_in}
use Rattle.posix_acl.proofs.OneList.{one_list, behind_users, behind_groups}
use Rattle.posix_acl.proofs.OneReading.{texts_same}
use Rattle.posix_acl.proofs.ReadBack.{IsReadable, AllReadable, reads_written}
use Rattle.posix_acl.proofs.Repeats.{tag_injective}

-- entries make one list at most
pub one_made : (es : List Entry) (a b : AccessList) → IsListOf es a → IsListOf es b → a ≡ b
one_made es a b made_a made_b =
    one_list a b made_a.valid made_b.valid
    (IsPermutation-trans (entries_of a) (plain_entries es) (entries_of b) (IsPermutation-sym (plain_entries es) (entries_of a) made_a.same) made_b.same)

perms_back : (r w x : Bool) → perms_of (digit_of (record { read = r; write = w; execute = x })) ≡ record { read = r; write = w; execute = x }
perms_back true true true = refl
perms_back true true false = refl
perms_back true false true = refl
perms_back true false false = refl
perms_back false true true = refl
perms_back false true false = refl
perms_back false false true = refl
perms_back false false false = refl

pub perms_injective : (p q : Perms) → digit_of p ≡ digit_of q → p ≡ q
perms_injective p q same = sym (perms_back p.read p.write p.execute) ∙ ap perms_of same ∙ perms_back q.read q.write q.execute

pub numbers_injective : (e f : Entry) → numbers_of e ≡ numbers_of f → e ≡ f
numbers_injective e f same =
    let tags : e.tag ≡ f.tag = tag_injective e.tag f.tag (eq-eqb (tag_number e.tag) (tag_number f.tag) (ap (λ n. n.tag) same)) in
    let ids : e.id ≡ f.id = ap (λ n. n.id) same in
    let perms : e.perms ≡ f.perms = perms_injective e.perms f.perms (ap (λ n. n.perms) same) in
    let all : entry e.tag e.id e.perms ≡ entry f.tag f.id f.perms = rw (tags, ids, perms) refl in
    all

-- numbers tell their entries
pub entries_same : (es fs : List Entry) → map numbers_of es ≡ map numbers_of fs → es ≡ fs
entries_same [] [] same = refl
entries_same [] (f ∷ fs) same = absurd (cc)
entries_same (e ∷ es) [] same = absurd (cc)
entries_same (e ∷ es) (f ∷ fs) same =
    let heads : numbers_of e ≡ numbers_of f = cc in
    let tails : map numbers_of es ≡ map numbers_of fs = cc in
    ap (λ x. x ∷ es) (numbers_injective e f heads) ∙ ap (λ xs. f ∷ xs) (entries_same es fs tails)

-- a list's numbers determine it
pub one_of_numbers : (a b : AccessList) → list_numbers a ≡ list_numbers b → a ≡ b
one_of_numbers a b same =
    sym (access_list-entries_of a) ∙ ap access_list (entries_same (entries_of a) (entries_of b) same) ∙ access_list-entries_of b

readable-append : (xs ys : List Entry) → AllReadable xs → AllReadable ys → AllReadable (xs ++ ys)
readable-append [] ys first second = second
readable-append (x ∷ xs) ys first second = (first.0, readable-append xs ys first.1 second)

base_readable : (tag : Tag) (p : Perms) → IsReadable (entry tag 0 p)
base_readable tag p = record { fits = omega arith; plain = λ _. refl }

named_readable : (tag : Tag) → is_named tag ≡ true → (xs : List (ℕ × Perms)) → IdsFit xs → AllReadable (named_entries tag xs)
named_readable tag named [] fit = tt
named_readable tag named (x ∷ xs) fit =
    (record { fits = fit.0; plain = λ unnamed. absurd (false≢true (sym unnamed ∙ named)) }, named_readable tag named xs fit.1)

mask_readable : (mask : Option Perms) → AllReadable (mask_entries mask)
mask_readable None = tt
mask_readable (Some p) = (base_readable Mask p, tt)

all_readable : (a : AccessList) → IsAcl a → AllReadable (entries_of a)
all_readable a valid = (
  base_readable UserObj a.owner,
  readable-append (named_entries User a.users) (behind_users a) (named_readable User refl a.users valid.user_ids) (
    base_readable GroupObj a.group,
    readable-append (named_entries Group a.groups) (behind_groups a) (named_readable Group refl a.groups valid.group_ids)
        (readable-append (mask_entries a.mask) (entry Other 0 a.other ∷ []) (mask_readable a.mask) (base_readable Other a.other, tt)),
  ),
)

plain_readable : (es : List Entry) → AllReadable es → plain_entries es ≡ es
plain_readable [] all = refl
plain_readable (e ∷ es) all =
    let same : plain e ≡ e =
    elim (cases_Bool (is_named e.tag)) [
      | inl named ↦ rw named refl
      | inr unnamed ↦ let zero_id : e.id ≡ 0 = all.0.plain unnamed in rw (unnamed, ← zero_id) refl
    ] in
    ap (λ x. x ∷ plain_entries es) same ∙ ap (λ xs. e ∷ xs) (plain_readable es all.1)

-- a list's own entries, written and read
pub reads_back : (text : List ℕ) (a : AccessList) (form : TextForm) (result : Result AccessList AclFault) → IsAcl a → text ≡ written_text form a
    → IfOk result (SaysList text) → IfErr result (λ fault. fault ≢ OutOfMemory → SaysFault text fault) → ReadsBack a result
reads_back text a form (Ok b) valid same says faults =
    let all = all_readable a valid in
    let read : IsText text (entries_of a) = subst (λ t. IsText t (entries_of a)) (sym same) (reads_written form a all) in
    let entries : says.entries ≡ entries_of a = texts_same (text_pieces text) says.entries (entries_of a) says.read read in
    let given : plain_entries says.entries ≡ entries_of a = ap plain_entries entries ∙ plain_readable (entries_of a) all in
    let moved : IsPermutation (entries_of a) (entries_of b) = subst (λ es. IsPermutation es (entries_of b)) given says.made.same in
    sym (one_list a b valid says.made.valid moved)
reads_back text a form (Err fault) valid same says faults = only fault faults
  where
    all : AllReadable (entries_of a)
    all = all_readable a valid

    read : IsText text (entries_of a)
    read = subst (λ t. IsText t (entries_of a)) (sym same) (reads_written form a all)

    not_faulty : (f : AclFault) → SaysFaulty text f → ⊥
    not_faulty f says =
        let entries : says.entries ≡ entries_of a = texts_same (text_pieces text) says.entries (entries_of a) says.read read in
        let given : plain_entries says.entries ≡ entries_of a = ap plain_entries entries ∙ plain_readable (entries_of a) all in
        let found = sym says.first ∙ ap first_fault given ∙ no_fault_in a valid in
        absurd (cc)

    only : (f : AclFault) → (f ≢ OutOfMemory → SaysFault text f) → f ≡ OutOfMemory
    only OutOfMemory says = refl
    only BadText says = absurd (says (λ e. cc) (entries_of a) read)
    only MissingBase says = absurd (not_faulty MissingBase (says (λ e. cc)))
    only TwiceBase says = absurd (not_faulty TwiceBase (says (λ e. cc)))
    only TwiceQualifier says = absurd (not_faulty TwiceQualifier (says (λ e. cc)))
    only NoMask says = absurd (not_faulty NoMask (says (λ e. cc)))
    only TwoMasks says = absurd (not_faulty TwoMasks (says (λ e. cc)))
    only TooMany says = absurd (not_faulty TooMany (says (λ e. cc)))

pub bit_value : (b k : ℕ) → b < 2 → cond (eqb b 1) k 0 ≡ k * b
bit_value zero k below = omega arith
bit_value (suc zero) k below = omega arith
bit_value (suc (suc b)) k below = absurd (omega arith)

digit_of-perms_of : (d : ℕ) → digit_of (perms_of d) ≡ d % 8
digit_of-perms_of d =
    let high = bit_value (d / 4 % 2) 4 (omega arith) in
    let middle = bit_value (d / 2 % 2) 2 (omega arith) in
    let low = bit_value (d % 2) 1 (omega arith) in
    omega (arith, high, middle, low)

pub digit_back : (d : ℕ) → d < 8 → digit_of (perms_of d) ≡ d
digit_back d small = let digit = digit_of-perms_of d in omega (arith, digit, small)

-- the three base entries that a mode gives have its permission bits
pub mode_bits-minimal : (mode : ℕ) → mode_bits (minimal mode) ≡ mode % 512
mode_bits-minimal mode =
    let high = digit_of-perms_of (mode / 64) in
    let middle = digit_of-perms_of (mode / 8) in
    let low = digit_of-perms_of mode in
    omega (arith, high, middle, low)

-- and are a valid list
pub minimal_valid : (mode : ℕ) → IsAcl (minimal mode)
minimal_valid mode = record { users = tt; user_ids = tt; groups = tt; group_ids = tt; masked = λ lt. absurd (omega (arith, lt)); few = omega arith }

pub digit_small : (p : Perms) → digit_of p < 8
digit_small p = small p.read p.write p.execute
  where
    small : (r w x : Bool) → digit_of (record { read = r; write = w; execute = x }) < 8
    small true true true = omega arith
    small true true false = omega arith
    small true false true = omega arith
    small true false false = omega arith
    small false true true = omega arith
    small false true false = omega arith
    small false false true = omega arith
    small false false false = omega arith

pub own_plain : (a : AccessList) → IsAcl a → plain_entries (entries_of a) ≡ entries_of a
own_plain a valid = plain_readable (entries_of a) (all_readable a valid)

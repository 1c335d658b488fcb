-- Faults do not depend on the order of the entries.
use Rattle.std.proofs.Common.{◌≡◌, ℕ, Bool, ◌&&◌, List, [], ◌∷◌, nat_lt, cond, refl, sym, ap, ◌∙◌, inl, inr, zero, suc, arith}
use Rattle.std.specs.List.{All, list_any, find}
use Rattle.std.specs.List.Sorted.{IsPermutation}
use Rattle.std.proofs.lemmas.Bool.{cases_Bool}
use Rattle.std.proofs.lemmas.List.Sorted.{sum_by-IsPermutation, list_any-IsPermutation, length_permutation, All-permutation}
use Rattle.posix_acl.specs.declared.entry.Entry.{Entry}
use Rattle.posix_acl.specs.declared.entry.Tag.TheVariants.{UserObj, User, GroupObj, Group, Mask, Other}
use Rattle.posix_acl.specs.declared.entry.Tag.{Tag}
use Rattle.posix_acl.specs.declared.fault.AclFault.{AclFault}
use Rattle.posix_acl.specs.declared.fault.AclFault.TheVariants.{MissingBase, TwiceBase, TwiceQualifier, NoMask, TwoMasks, TooMany, OutOfMemory, BadText}
use Rattle.posix_acl.specs.Entries.{is_tag, is_named, plain, plain_entries}
use Rattle.posix_acl.specs.Faults.{count_tagged, count_qualified, has_fault, first_fault}
use Rattle.posix_acl.proofs.Sections.{ArePlain}

any_alike : (p q : Entry → Bool) → ((e : Entry) → p e ≡ q e) → (es : List Entry) → list_any p es ≡ list_any q es
any_alike p q alike [] = refl
any_alike p q alike (x ∷ xs) = rw (alike x, any_alike p q alike xs) refl

find_alike : (p q : AclFault → Bool) → ((f : AclFault) → p f ≡ q f) → (fs : List AclFault) → find p fs ≡ find q fs
find_alike p q alike [] = refl
find_alike p q alike (f ∷ fs) = rw (alike f, find_alike p q alike fs) refl

tags_alike : (xs ys : List Entry) → IsPermutation xs ys → (tag : Tag) → count_tagged tag ys ≡ count_tagged tag xs
tags_alike xs ys moved tag = sum_by-IsPermutation (λ e. cond (is_tag e.tag tag) 1 0) xs ys moved

names_alike : (xs ys : List Entry) → IsPermutation xs ys → (tag : Tag) (id : ℕ) → count_qualified tag id ys ≡ count_qualified tag id xs
names_alike xs ys moved tag id = sum_by-IsPermutation _ xs ys moved

faults_alike : (xs ys : List Entry) → IsPermutation xs ys → (fault : AclFault) → has_fault ys fault ≡ has_fault xs fault
faults_alike xs ys moved MissingBase = rw (tags_alike xs ys moved UserObj, tags_alike xs ys moved GroupObj, tags_alike xs ys moved Other) refl
faults_alike xs ys moved TwiceBase = rw (tags_alike xs ys moved UserObj, tags_alike xs ys moved GroupObj, tags_alike xs ys moved Other) refl
faults_alike xs ys moved TwiceQualifier =
    any_alike _ (λ e. is_named e.tag && nat_lt 1 (count_qualified e.tag e.id xs)) (λ e. ap (λ n. is_named e.tag && nat_lt 1 n) (names_alike xs ys moved e.tag e.id)) ys
    ∙ sym (list_any-IsPermutation (λ e. is_named e.tag && nat_lt 1 (count_qualified e.tag e.id xs)) xs ys moved)
faults_alike xs ys moved NoMask = rw (tags_alike xs ys moved Mask, tags_alike xs ys moved User, tags_alike xs ys moved Group) refl
faults_alike xs ys moved TwoMasks = rw (tags_alike xs ys moved Mask) refl
faults_alike xs ys moved TooMany = rw (length_permutation xs ys moved) refl
faults_alike xs ys moved OutOfMemory = refl
faults_alike xs ys moved BadText = refl

pub first_fault-IsPermutation : (xs ys : List Entry) → IsPermutation xs ys → first_fault ys ≡ first_fault xs
unfolding first_fault
first_fault-IsPermutation xs ys moved =
    find_alike (has_fault ys) (has_fault xs) (faults_alike xs ys moved) (MissingBase ∷ TwiceBase ∷ TwiceQualifier ∷ NoMask ∷ TwoMasks ∷ TooMany ∷ [])

plain_twice : (e : Entry) → plain (plain e) ≡ plain e
plain_twice e =
    elim (cases_Bool (is_named e.tag)) [ inl named ↦ rw named refl | inr unnamed ↦ rw unnamed refl ]

by_recursion : (es : List Entry) → All (λ e. plain e ≡ e) es → ArePlain es
by_recursion [] all = tt
by_recursion (x ∷ xs) all = (all 0 x (omega arith), by_recursion xs (λ k d below. all (suc k) d (omega arith)))

made_plain : (es : List Entry) → All (λ e. plain e ≡ e) (plain_entries es)
made_plain [] k d below = absurd (omega arith)
made_plain (x ∷ xs) zero d below = plain_twice x
made_plain (x ∷ xs) (suc k) d below = made_plain xs k d (omega arith)

pub still_plain : (es ys : List Entry) → IsPermutation (plain_entries es) ys → ArePlain ys
still_plain es ys moved = by_recursion ys (All-permutation (λ e. plain e ≡ e) (plain_entries es) ys moved (made_plain es))

-- The entries of a valid list have no fault.
use Rattle.std.proofs.Common.{◌≡◌, ℕ, ◌+◌, ◌^◌, ◌<◌, ◌≤◌, false, ◌&&◌, ◌||◌, List, [], ◌∷◌, ◌++◌, length, suc, zero, nat_lt, eqb, cond, Option, Some, None, IsSome, is_some, refl, ◌∙◌, inl, inr, arith}
use Rattle.std.specs.List.{AllByRecursion}
use Rattle.std.proofs.lemmas.Bool.{false_from_ne_true, or_from, le-ltb, cases_Bool, false≢true, ltb-true}
use Rattle.std.proofs.lemmas.List.Sums.{sum_by-append, sum_by-cons}
use Rattle.posix_acl.specs.declared.entry.Perms.{Perms}
use Rattle.posix_acl.specs.declared.entry.Entry.{Entry}
use Rattle.posix_acl.specs.declared.entry.Tag.{Tag}
use Rattle.posix_acl.specs.declared.entry.Tag.TheVariants.{UserObj, User, GroupObj, Group, Mask, Other}
use Rattle.posix_acl.specs.declared.fault.AclFault.TheVariants.{MissingBase, TwiceBase, TwiceQualifier, NoMask, TwoMasks, TooMany}
use Rattle.posix_acl.specs.Entries.{is_tag, entry}
use Rattle.posix_acl.specs.AccessList.{AccessList, IsAcl, IdsFit, entries_of, named_entries, mask_entries}
use Rattle.posix_acl.specs.Faults.{count_tagged, has_fault, first_fault}
use Rattle.posix_acl.specs.Order.{rank, IsOrdered, same_name}
use Rattle.posix_acl.proofs.Ordering.{FitsAll}
use Rattle.posix_acl.proofs.OneList.{IsStrict, strictly_ordered, behind_owner, behind_users, behind_group, behind_groups}
use Rattle.posix_acl.proofs.Repeats.{Apart, no_repeat, same_parts}
use Rattle.posix_acl.proofs.Sections.{length-entries_of}

count_append : (tag : Tag) (xs ys : List Entry) → count_tagged tag (xs ++ ys) ≡ count_tagged tag xs + count_tagged tag ys
count_append tag xs ys = sum_by-append (λ e. cond (is_tag e.tag tag) 1 0) xs ys

count_cons : (tag : Tag) (x : Entry) (xs : List Entry) → count_tagged tag (x ∷ xs) ≡ cond (is_tag x.tag tag) 1 0 + count_tagged tag xs
count_cons tag x xs = sum_by-cons (λ e. cond (is_tag e.tag tag) 1 0) x xs

count_named : (tag t : Tag) (xs : List (ℕ × Perms)) → count_tagged tag (named_entries t xs) ≡ cond (is_tag t tag) (length xs) 0
count_named tag t [] = elim (cases_Bool (is_tag t tag)) [ inl hit ↦ rw hit refl | inr miss ↦ rw miss refl ]
count_named tag t (x ∷ xs) =
    count_cons tag (entry t x.0 x.1) (named_entries t xs) ∙
    elim (cases_Bool (is_tag t tag)) [
      | inl hit ↦ let rest = count_named tag t xs in let r = rw hit at rest in rw hit (omega arith)
      | inr miss ↦ let rest = count_named tag t xs in let r = rw miss at rest in rw miss (omega arith)
    ]

-- how often a tag stands in the entries of a list
abbrev count_of : AccessList → Tag → ℕ
count_of a UserObj = 1
count_of a User = length a.users
count_of a GroupObj = 1
count_of a Group = length a.groups
count_of a Mask = cond (is_some a.mask) 1 0
count_of a Other = 1

masks : (mask : Option Perms) (tag : Tag) → count_tagged tag (mask_entries mask) ≡ cond (is_tag Mask tag) (cond (is_some mask) 1 0) 0
masks None UserObj = refl
masks None User = refl
masks None GroupObj = refl
masks None Group = refl
masks None Mask = refl
masks None Other = refl
masks (Some p) UserObj = refl
masks (Some p) User = refl
masks (Some p) GroupObj = refl
masks (Some p) Group = refl
masks (Some p) Mask = refl
masks (Some p) Other = refl

count_parts : (a : AccessList) (tag : Tag) → count_tagged tag (entries_of a)
    ≡ cond (is_tag UserObj tag) 1 0 + (cond (is_tag User tag) (length a.users) 0 + (cond (is_tag GroupObj tag) 1 0
    + (cond (is_tag Group tag) (length a.groups) 0 + (cond (is_tag Mask tag) (cond (is_some a.mask) 1 0) 0 + (cond (is_tag Other tag) 1 0 + 0)))))
count_parts a tag =
    let owner = count_cons tag (entry UserObj 0 a.owner) (behind_owner a) in
    let users = count_append tag (named_entries User a.users) (behind_users a) in
    let users_are = count_named tag User a.users in
    let group = count_cons tag (entry GroupObj 0 a.group) (behind_group a) in
    let groups = count_append tag (named_entries Group a.groups) (behind_groups a) in
    let groups_are = count_named tag Group a.groups in
    let mask = count_append tag (mask_entries a.mask) (entry Other 0 a.other ∷ []) in
    let mask_is = masks a.mask tag in
    let other = count_cons tag (entry Other 0 a.other) [] in
    rw (owner, users, users_are, group, groups, groups_are, mask, mask_is, other) refl

counted : (a : AccessList) (tag : Tag) → count_tagged tag (entries_of a) ≡ count_of a tag
counted a UserObj = count_parts a UserObj
counted a User = count_parts a User ∙ omega arith
counted a GroupObj = count_parts a GroupObj
counted a Group = count_parts a Group ∙ omega arith
counted a Mask = count_parts a Mask ∙ omega arith
counted a Other = count_parts a Other

weaker : (p : ℕ) (xs : List Entry) → AllByRecursion (λ y. p < rank y) xs → AllByRecursion (λ y. p ≤ rank y) xs
weaker p [] all = tt
weaker p (x ∷ xs) all = (let lt = all.0 in omega arith, weaker p xs all.1)

ordered_from : (xs : List Entry) → IsStrict xs → IsOrdered xs
ordered_from [] strict = tt
ordered_from (x ∷ xs) strict = (weaker (rank x) xs strict.0, ordered_from xs strict.1)

apart_from : (xs : List Entry) → IsStrict xs → Apart xs
apart_from [] strict k below = absurd (omega arith)
apart_from (x ∷ []) strict k below = absurd (omega arith)
apart_from (x ∷ y ∷ ys) strict zero below =
    false_from_ne_true (same_name x y) (λ same. let both = same_parts x y same in let lt = strict.0.0 in let a = both.1 in let b = both.2 in absurd (omega arith))
apart_from (x ∷ y ∷ ys) strict (suc k) below = apart_from (y ∷ ys) strict.1 k (omega arith)

fits_append : (xs ys : List Entry) → FitsAll xs → FitsAll ys → FitsAll (xs ++ ys)
fits_append [] ys first second k d below = second k d below
fits_append (x ∷ xs) ys first second zero d below = first 0 d (omega arith)
fits_append (x ∷ xs) ys first second (suc k) d below = fits_append xs ys (λ j e lt. first (suc j) e (omega arith)) second k d (omega arith)

fits_named : (tag : Tag) (xs : List (ℕ × Perms)) → IdsFit xs → FitsAll (named_entries tag xs)
fits_named tag [] fit k d below = absurd (omega arith)
fits_named tag (x ∷ xs) fit zero d below = fit.0
fits_named tag (x ∷ xs) fit (suc k) d below = fits_named tag xs fit.1 k d (omega arith)

fits_cons : (x : Entry) (xs : List Entry) → x.id < 2 ^ 32 → FitsAll xs → FitsAll (x ∷ xs)
fits_cons x xs first rest zero d below = first
fits_cons x xs first rest (suc k) d below = rest k d (omega arith)

fits_mask : (mask : Option Perms) → FitsAll (mask_entries mask)
fits_mask None k d below = absurd (omega arith)
fits_mask (Some p) zero d below = omega arith
fits_mask (Some p) (suc k) d below = absurd (omega arith)

pub entries_fit : (a : AccessList) → IsAcl a → FitsAll (entries_of a)
entries_fit a valid =
    fits_cons (entry UserObj 0 a.owner) _ (omega arith)
    (fits_append (named_entries User a.users) _ (fits_named User a.users valid.user_ids)
    (fits_cons (entry GroupObj 0 a.group) _ (omega arith)
    (fits_append (named_entries Group a.groups) _ (fits_named Group a.groups valid.group_ids)
    (fits_append (mask_entries a.mask) _ (fits_mask a.mask) (fits_cons (entry Other 0 a.other) [] (omega arith) (λ k d below. absurd (omega arith)))))))

masked_list : (a : AccessList) → IsAcl a → has_fault (entries_of a) NoMask ≡ false
masked_list a valid =
    rw (counted a Mask, counted a User, counted a Group)
    (none a.mask (length a.users) (length a.groups) valid.masked)
  where
    none : (mask : Option Perms) (m n : ℕ) → (0 < m + n → IsSome mask) → (eqb (cond (is_some mask) 1 0) 0 && (nat_lt 0 m || nat_lt 0 n)) ≡ false
    none (Some p) m n masked = refl
    none None m n masked =
        or_from (nat_lt 0 m) (nat_lt 0 n)
        (false_from_ne_true (nat_lt 0 m) (λ some. absurd (false≢true (masked (let lt = ltb-true 0 m some in omega arith)))))
        (false_from_ne_true (nat_lt 0 n) (λ some. absurd (false≢true (masked (let lt = ltb-true 0 n some in omega arith)))))

one_mask_at_most : (mask : Option Perms) → nat_lt 1 (cond (is_some mask) 1 0) ≡ false
one_mask_at_most None = refl
one_mask_at_most (Some p) = refl

pub no_fault_in : (a : AccessList) → IsAcl a → first_fault (entries_of a) ≡ None
unfolding first_fault
no_fault_in a valid =
    let base : has_fault (entries_of a) MissingBase ≡ false = rw (counted a UserObj, counted a GroupObj, counted a Other) refl in
    let once : has_fault (entries_of a) TwiceBase ≡ false = rw (counted a UserObj, counted a GroupObj, counted a Other) refl in
    let strict = strictly_ordered a valid in
    let names : has_fault (entries_of a) TwiceQualifier ≡ false =
    no_repeat (entries_of a) (ordered_from (entries_of a) strict) (entries_fit a valid) (apart_from (entries_of a) strict) in
    let masked : has_fault (entries_of a) NoMask ≡ false = masked_list a valid in
    let one_mask : has_fault (entries_of a) TwoMasks ≡ false = rw (counted a Mask) (one_mask_at_most a.mask) in
    let few : has_fault (entries_of a) TooMany ≡ false = le-ltb 32 (length (entries_of a)) (rw (length-entries_of a) valid.few) in
    rw (base, once, names, masked, one_mask, few) refl

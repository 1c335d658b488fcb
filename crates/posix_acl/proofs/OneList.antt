-- The entries of a valid list determine it, in whatever order they stand.
use Rattle.std.proofs.Common.{◌≡◌, ℕ, ◌+◌, ◌*◌, ◌^◌, ◌<◌, ◌≤◌, List, [], ◌∷◌, ◌++◌, length, suc, zero, get_or, Option, Some, None, refl, sym, ap, ◌∙◌, subst, inl, inr, ◌⊎◌, arith}
use Rattle.std.specs.List.{AllByRecursion, Contains}
use Rattle.std.specs.List.Sorted.{IsPermutation}
use Rattle.std.proofs.lemmas.List.Sorted.{Contains-permutation, IsPermutation-sym}
use Rattle.posix_acl.specs.declared.entry.Perms.{Perms}
use Rattle.posix_acl.specs.declared.entry.Entry.{Entry}
use Rattle.posix_acl.specs.declared.entry.Tag.{Tag}
use Rattle.posix_acl.specs.declared.entry.Tag.TheVariants.{UserObj, User, GroupObj, Group, Mask, Other}
use Rattle.posix_acl.specs.Entries.{tag_number, entry}
use Rattle.posix_acl.specs.AccessList.{AccessList, IsAcl, IdsRise, IdsFit, entries_of, named_entries, mask_entries}
use Rattle.posix_acl.specs.Order.{rank}
use Rattle.posix_acl.specs.Stored.{access_list}
use Rattle.posix_acl.proofs.Canonical.{access_list-entries_of}

-- each entry stands strictly before those that follow it
abbrev pub IsStrict : List Entry → Type 0
IsStrict [] = Unit {0}
IsStrict (x ∷ xs) = AllByRecursion (λ y. rank x < rank y) xs × IsStrict xs

abbrev AllFrom : ℕ → List Entry → Type 0
AllFrom low es = AllByRecursion (λ e. low ≤ rank e) es

before_all : (p low : ℕ) → p < low → (es : List Entry) → AllFrom low es → AllByRecursion (λ y. p < rank y) es
before_all p low lt [] from = tt
before_all p low lt (e ∷ es) from = (let le = from.0 in omega arith, before_all p low lt es from.1)

lower : (low less : ℕ) → less ≤ low → (es : List Entry) → AllFrom low es → AllFrom less es
lower low less le [] from = tt
lower low less le (e ∷ es) from = (let h = from.0 in omega arith, lower low less le es from.1)

put_before : (e : Entry) (low : ℕ) (es : List Entry) → rank e < low → AllFrom low es → IsStrict es → IsStrict (e ∷ es) × AllFrom (rank e) (e ∷ es)
put_before e low es lt from strict =
    ((before_all (rank e) low lt es from, strict), (omega arith, lower low (rank e) (omega arith) es from))

-- named entries of one tag before what stands behind the tag
before_named : (tag : Tag) (low id : ℕ) (p : Perms) → tag_number tag * 2 ^ 32 + 2 ^ 32 ≤ low → id < 2 ^ 32 → (xs : List (ℕ × Perms)) (es : List Entry)
    → AllByRecursion (λ y. id < y.0) xs → AllFrom low es → AllByRecursion (λ y. rank (entry tag id p) < rank y) (named_entries tag xs ++ es)
before_named tag low id p room fit [] es above from = before_all (rank (entry tag id p)) low (omega arith) es from
before_named tag low id p room fit (x ∷ xs) es above from =
    (let lt = above.0 in omega arith, before_named tag low id p room fit xs es above.1 from)

put_named : (tag : Tag) (low : ℕ) → tag_number tag * 2 ^ 32 + 2 ^ 32 ≤ low → (xs : List (ℕ × Perms)) → IdsRise xs → IdsFit xs → (es : List Entry)
    → AllFrom low es → IsStrict es → IsStrict (named_entries tag xs ++ es) × AllFrom (tag_number tag * 2 ^ 32) (named_entries tag xs ++ es)
put_named tag low room [] rise fit es from strict = (strict, lower low (tag_number tag * 2 ^ 32) (omega arith) es from)
put_named tag low room (x ∷ xs) rise fit es from strict =
    let rest = put_named tag low room xs rise.1 fit.1 es from strict in
    let small : x.0 < 2 ^ 32 = fit.0 in
    ((before_named tag low x.0 x.1 room small xs es rise.0 from, rest.0), (omega arith, rest.1))

put_mask : (mask : Option Perms) (es : List Entry) → AllFrom (32 * 2 ^ 32) es → IsStrict es
    → IsStrict (mask_entries mask ++ es) × AllFrom (16 * 2 ^ 32) (mask_entries mask ++ es)
put_mask None es from strict = (strict, lower (32 * 2 ^ 32) (16 * 2 ^ 32) (omega arith) es from)
put_mask (Some p) es from strict =
    let both = put_before (entry Mask 0 p) (32 * 2 ^ 32) es (omega arith) from strict in
    (both.0, lower (rank (entry Mask 0 p)) (16 * 2 ^ 32) (omega arith) (entry Mask 0 p ∷ es) both.1)

-- the entries of a list behind its groups, behind its owning group's, behind its users and behind its owner's
abbrev pub behind_groups : AccessList → List Entry
behind_groups a = mask_entries a.mask ++ entry Other 0 a.other ∷ []

abbrev pub behind_group : AccessList → List Entry
behind_group a = named_entries Group a.groups ++ behind_groups a

abbrev pub behind_users : AccessList → List Entry
behind_users a = entry GroupObj 0 a.group ∷ behind_group a

abbrev pub behind_owner : AccessList → List Entry
behind_owner a = named_entries User a.users ++ behind_users a

pub strictly_ordered : (a : AccessList) → IsAcl a → IsStrict (entries_of a)
strictly_ordered a valid =
    let last = put_mask a.mask (entry Other 0 a.other ∷ []) (omega arith, tt) (tt, tt) in
    let groups = put_named Group (16 * 2 ^ 32) (omega arith) a.groups valid.groups valid.group_ids (behind_groups a) last.1 last.0 in
    let group = put_before (entry GroupObj 0 a.group) (8 * 2 ^ 32) (behind_group a) (omega arith) groups.1 groups.0 in
    let low : AllFrom (4 * 2 ^ 32) (behind_users a) = lower (rank (entry GroupObj 0 a.group)) (4 * 2 ^ 32) (omega arith) (behind_users a) group.1 in
    let users = put_named User (4 * 2 ^ 32) (omega arith) a.users valid.users valid.user_ids (behind_users a) low group.0 in
    (put_before (entry UserObj 0 a.owner) (2 * 2 ^ 32) (behind_owner a) (omega arith) users.1 users.0).0

abbrev Among : Entry → List Entry → Type 0
Among e [] = ⊥
Among e (x ∷ xs) = (e ≡ x) ⊎ Among e xs

among_at : (xs : List Entry) (k : ℕ) (d : Entry) → k < length xs → Among (get_or xs k d) xs
among_at [] k d below = absurd (omega arith)
among_at (x ∷ xs) zero d below = inl refl
among_at (x ∷ xs) (suc k) d below = inr (among_at xs k d (omega arith))

among : (e : Entry) (xs : List Entry) → Contains xs e → Among e xs
among e xs has = subst (λ x. Among x xs) has.2 (among_at xs has.0 e has.1)

contained : (e : Entry) (xs : List Entry) → Among e xs → Contains xs e
contained e [] is = absurd is
contained e (x ∷ xs) (inl same) = (0, omega arith, sym same)
contained e (x ∷ xs) (inr later) = let rest = contained e xs later in (suc rest.0, (let lt = rest.1 in omega arith), rest.2)

far : (p : ℕ) (e : Entry) (xs : List Entry) → AllByRecursion (λ y. p < rank y) xs → Among e xs → p < rank e
far p e [] all is = absurd is
far p e (x ∷ xs) all (inl same) = rw same all.0
far p e (x ∷ xs) all (inr later) = far p e xs all.1 later

same_members : (xs ys : List Entry) → IsStrict xs → IsStrict ys → ((e : Entry) → Among e xs → Among e ys) → ((e : Entry) → Among e ys → Among e xs) → xs ≡ ys
same_members [] [] sx sy to from = refl
same_members [] (y ∷ ys) sx sy to from = absurd (from y (inl refl))
same_members (x ∷ xs) [] sx sy to from = absurd (to x (inl refl))
same_members (x ∷ xs) (y ∷ ys) sx sy to from =
    let heads : x ≡ y = first (to x (inl refl)) (from y (inl refl)) in
    ap (λ e. e ∷ xs) heads ∙ ap (λ es. y ∷ es)
    (same_members xs ys sx.1 sy.1
    (λ e is. tail e (rank x) x y ys heads (far (rank x) e xs sx.0 is) (to e (inr is)))
    (λ e is. tail e (rank y) y x xs (sym heads) (far (rank y) e ys sy.0 is) (from e (inr is))))
  where
    first : Among x (y ∷ ys) → Among y (x ∷ xs) → x ≡ y
    first (inl same) other = same
    first (inr later) (inl same) = sym same
    first (inr later) (inr earlier) =
        let a : rank y < rank x = far (rank y) x ys sy.0 later in
        let b : rank x < rank y = far (rank x) y xs sx.0 earlier in
        absurd (omega arith)

    tail : (e : Entry) (p : ℕ) (u v : Entry) (vs : List Entry) → u ≡ v → rank u < rank e → Among e (v ∷ vs) → Among e vs
    tail e p u v vs same lt (inl head) = let at : rank e ≡ rank u = ap rank (head ∙ sym same) in absurd (omega arith)
    tail e p u v vs same lt (inr later) = later

pub one_list : (a b : AccessList) → IsAcl a → IsAcl b → IsPermutation (entries_of a) (entries_of b) → a ≡ b
one_list a b valid_a valid_b moved =
    let same : entries_of a ≡ entries_of b =
    same_members (entries_of a) (entries_of b) (strictly_ordered a valid_a) (strictly_ordered b valid_b)
    (λ e is. among e (entries_of b) (Contains-permutation (entries_of a) (entries_of b) e moved (contained e (entries_of a) is)))
    (λ e is. among e (entries_of a) (Contains-permutation (entries_of b) (entries_of a) e (IsPermutation-sym (entries_of a) (entries_of b) moved) (contained e (entries_of b) is))) in
    sym (access_list-entries_of a) ∙ ap access_list same ∙ access_list-entries_of b

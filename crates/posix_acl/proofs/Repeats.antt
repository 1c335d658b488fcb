-- Names that repeat, where entries stand in canonical order.
use Rattle.std.proofs.Common.{◌≡◌, ℕ, ◌+◌, ◌*◌, ◌^◌, ◌<◌, ◌≤◌, Bool, true, false, ◌&&◌, List, [], ◌∷◌, length, zero, suc, get_or, nat_lt, eqb, cond, refl, sym, ap, ◌∙◌, inl, inr, arith, eqb-true, eq-eqb}
use Rattle.std.specs.List.{AllByRecursion, list_any}
use Rattle.std.proofs.lemmas.Bool.{false_from_ne_true, and_parts, and_from, cases_Bool, lt-ltb, le-ltb, or_left, or_right, or_from, false≢true, cases_order}
use Rattle.std.proofs.lemmas.List.Sums.{sum_by-cons}
use Rattle.posix_acl.specs.declared.entry.Entry.{Entry}
use Rattle.posix_acl.specs.declared.entry.Tag.{Tag}
use Rattle.posix_acl.specs.declared.entry.Tag.TheVariants.{UserObj, User, GroupObj, Group, Mask, Other}
use Rattle.posix_acl.specs.declared.fault.AclFault.TheVariants.{TwiceQualifier}
use Rattle.posix_acl.specs.Entries.{tag_number, is_tag, is_named}
use Rattle.posix_acl.specs.Faults.{count_qualified, has_fault}
use Rattle.posix_acl.specs.Order.{rank, IsOrdered, same_name}
use Rattle.posix_acl.proofs.Ordering.{FitsAll, blank}

pub tag_injective : (a b : Tag) → is_tag a b ≡ true → a ≡ b
tag_injective UserObj UserObj same = refl
tag_injective User User same = refl
tag_injective GroupObj GroupObj same = refl
tag_injective Group Group same = refl
tag_injective Mask Mask same = refl
tag_injective Other Other same = refl
tag_injective a b same = absurd (false≢true same)

-- whether an entry has the tag and the id
abbrev pub has_name : Tag → ℕ → Entry → Bool
has_name tag id e = is_tag e.tag tag && eqb e.id id

pub named_parts : (tag : Tag) (id : ℕ) (e : Entry) → has_name tag id e ≡ true → (tag_number e.tag ≡ tag_number tag) × (e.id ≡ id)
named_parts tag id e hit = let parts = and_parts _ _ hit in (eqb-true _ _ parts.0, eqb-true _ _ parts.1)

pub has_name_from : (tag : Tag) (id : ℕ) (e : Entry) → tag_number e.tag ≡ tag_number tag → e.id ≡ id → has_name tag id e ≡ true
has_name_from tag id e tags ids =
    and_from (is_tag e.tag tag) (eqb e.id id) (eq-eqb (tag_number e.tag) (tag_number tag) tags) (eq-eqb e.id id ids)

pub same_parts : (x y : Entry) → same_name x y ≡ true → (is_named x.tag ≡ true) × (tag_number x.tag ≡ tag_number y.tag) × (x.id ≡ y.id)
same_parts x y same =
    let named = and_parts (is_named x.tag) (is_tag x.tag y.tag && eqb x.id y.id) same in
    let both = and_parts (is_tag x.tag y.tag) (eqb x.id y.id) named.1 in
    (named.0, eqb-true (tag_number x.tag) (tag_number y.tag) both.0, eqb-true x.id y.id both.1)

pub count_head_miss : (tag : Tag) (id : ℕ) (x : Entry) (xs : List Entry) → has_name tag id x ≡ false → count_qualified tag id (x ∷ xs) ≡ count_qualified tag id xs
count_head_miss tag id x xs miss = sum_by-cons (λ e. cond (has_name tag id e) 1 0) x xs ∙ rw miss (omega arith)

pub count_head_hit : (tag : Tag) (id : ℕ) (x : Entry) (xs : List Entry) → has_name tag id x ≡ true → count_qualified tag id (x ∷ xs) ≡ 1 + count_qualified tag id xs
count_head_hit tag id x xs hit = sum_by-cons (λ e. cond (has_name tag id e) 1 0) x xs ∙ rw hit refl

-- what ranks above a name doesn't have it
none_after : (tag : Tag) (id : ℕ) (p : ℕ) → p ≡ tag_number tag * 2 ^ 32 + id → (ys : List Entry) → AllByRecursion (λ y. p < rank y) ys → count_qualified tag id ys ≡ 0
none_after tag id p at [] after = refl
none_after tag id p at (y ∷ ys) after =
    let miss : has_name tag id y ≡ false =
    false_from_ne_true _ (λ hit. let same = named_parts tag id y hit in let far = after.0 in absurd (omega arith)) in
    count_head_miss tag id y ys miss ∙ none_after tag id p at ys after.1

strictly : (x y : Entry) → rank x ≤ rank y → x.id < 2 ^ 32 → y.id < 2 ^ 32 → is_named x.tag ≡ true → same_name x y ≡ false → rank x < rank y
strictly x y le fx fy named differ =
    elim (cases_order (rank x) (rank y)) [
      | inl same ↦
          let tags : tag_number x.tag ≡ tag_number y.tag = omega arith in
          let ids : x.id ≡ y.id = omega arith in
          absurd (false≢true (sym differ ∙ and_from _ _ named (and_from _ _ (eq-eqb _ _ tags) (eq-eqb _ _ ids))))
      | inr rest ↦ elim rest [ inl lt ↦ lt | inr gt ↦ absurd (omega arith) ]
    ]

after_all : (p q : ℕ) (ys : List Entry) → p < q → AllByRecursion (λ y. q ≤ rank y) ys → AllByRecursion (λ y. p < rank y) ys
after_all p q [] lt all = tt
after_all p q (y ∷ ys) lt all = (let le = all.0 in omega arith, after_all p q ys lt all.1)

-- entries side by side have other names
abbrev pub Apart : List Entry → Type 0
Apart es = (k : ℕ) → suc k < length es → same_name (get_or es k blank) (get_or es (suc k) blank) ≡ false

none_behind : (tag : Tag) (id : ℕ) (x : Entry) (xs : List Entry) → IsOrdered (x ∷ xs) → FitsAll (x ∷ xs) → Apart (x ∷ xs) → is_named tag ≡ true → has_name tag id x ≡ true → count_qualified tag id xs ≡ 0
none_behind tag id x [] ordered fits apart named hit = refl
none_behind tag id x (y ∷ ys) ordered fits apart named hit =
    let same = named_parts tag id x hit in
    let x_named : is_named x.tag ≡ true = ap is_named (tag_injective x.tag tag (and_parts _ _ hit).0) ∙ named in
    let lt : rank x < rank y = strictly x y ordered.0.0 (fits 0 x (omega arith)) (fits 1 x (omega arith)) x_named (apart 0 (omega arith)) in
    none_after tag id (rank x) (omega arith) (y ∷ ys) (lt, after_all (rank x) (rank y) ys lt ordered.1.0)

pub tail_fits : (x : Entry) (xs : List Entry) → FitsAll (x ∷ xs) → FitsAll xs
tail_fits x xs fits = λ k d below. fits (suc k) d (omega arith)

at_most_once : (tag : Tag) (id : ℕ) (es : List Entry) → IsOrdered es → FitsAll es → Apart es → is_named tag ≡ true → count_qualified tag id es ≤ 1
at_most_once tag id [] ordered fits apart named = omega arith
at_most_once tag id (x ∷ xs) ordered fits apart named =
    elim (cases_Bool (has_name tag id x)) [
      | inl hit ↦ omega (arith, count_head_hit tag id x xs hit, none_behind tag id x xs ordered fits apart named hit)
      | inr miss ↦ omega (arith, count_head_miss tag id x xs miss, at_most_once tag id xs ordered.1 (tail_fits x xs fits) (λ k below. apart (suc k) (omega arith)) named)
    ]

none_passes : (p : Entry → Bool) → ((e : Entry) → p e ≡ false) → (es : List Entry) → list_any p es ≡ false
none_passes p miss [] = refl
none_passes p miss (x ∷ xs) = or_from _ _ (miss x) (none_passes p miss xs)

one_passes : (p : Entry → Bool) (tag : Tag) (id : ℕ) → ((e : Entry) → has_name tag id e ≡ true → p e ≡ true) → (es : List Entry) → 1 ≤ count_qualified tag id es → list_any p es ≡ true
one_passes p tag id passes [] counted = absurd (omega arith)
one_passes p tag id passes (x ∷ xs) counted =
    elim (cases_Bool (has_name tag id x)) [
      | inl hit ↦ or_left _ _ (passes x hit)
      | inr miss ↦ or_right _ _ (one_passes p tag id passes xs (omega (arith, count_head_miss tag id x xs miss)))
    ]

pub no_repeat : (es : List Entry) → IsOrdered es → FitsAll es → Apart es → has_fault es TwiceQualifier ≡ false
no_repeat es ordered fits apart =
    none_passes _ (λ e. false_from_ne_true _ (λ hit.
    let parts = and_parts _ _ hit in
    absurd (false≢true (sym (le-ltb 1 _ (at_most_once e.tag e.id es ordered fits apart parts.0)) ∙ parts.1)))) es

two_of_name : (es : List Entry) (k : ℕ) (d : Entry) → suc k < length es → same_name (get_or es k d) (get_or es (suc k) d) ≡ true → 2 ≤ count_qualified (get_or es k d).tag (get_or es k d).id es
two_of_name [] k d below same = absurd (omega arith)
two_of_name (x ∷ []) k d below same = absurd (omega arith)
two_of_name (x ∷ y ∷ ys) zero d below same =
    let both = same_parts x y same in
    let first : has_name x.tag x.id x ≡ true = has_name_from x.tag x.id x refl refl in
    let second : has_name x.tag x.id y ≡ true = has_name_from x.tag x.id y (sym both.1) (sym both.2) in
    omega (arith, count_head_hit x.tag x.id x (y ∷ ys) first, count_head_hit x.tag x.id y ys second)
two_of_name (x ∷ y ∷ ys) (suc k) d below same =
    let e = get_or (y ∷ ys) k d in
    let rest : 2 ≤ count_qualified e.tag e.id (y ∷ ys) = two_of_name (y ∷ ys) k d (omega arith) same in
    elim (cases_Bool (has_name e.tag e.id x)) [
      | inl hit ↦ omega (arith, count_head_hit e.tag e.id x (y ∷ ys) hit)
      | inr miss ↦ omega (arith, count_head_miss e.tag e.id x (y ∷ ys) miss)
    ]

pub repeat_found : (es : List Entry) (k : ℕ) (d : Entry) → suc k < length es → same_name (get_or es k d) (get_or es (suc k) d) ≡ true → has_fault es TwiceQualifier ≡ true
repeat_found es k d below same =
    let e = get_or es k d in
    let two : 2 ≤ count_qualified e.tag e.id es = two_of_name es k d below same in
    one_passes (λ x. is_named x.tag && nat_lt 1 (count_qualified x.tag x.id es)) e.tag e.id (λ x hit.
    let at = named_parts e.tag e.id x hit in
    let tags : x.tag ≡ e.tag = tag_injective x.tag e.tag (and_parts (is_tag x.tag e.tag) (eqb x.id e.id) hit).0 in
    let named : is_named x.tag ≡ true = ap is_named tags ∙ (same_parts e (get_or es (suc k) d) same).0 in
    let two_here : 1 < count_qualified x.tag x.id es = rw (tags, at.1) (omega arith) in
    and_from (is_named x.tag) (nat_lt 1 (count_qualified x.tag x.id es)) named (lt-ltb 1 (count_qualified x.tag x.id es) two_here)) es (omega arith)

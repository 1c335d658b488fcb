-- Entries in canonical order that have no fault are those of a list.
use Rattle.std.proofs.Common.{◌≡◌, ℕ, ◌+◌, ◌^◌, ◌<◌, ◌≤◌, Bool, true, false, ◌&&◌, ◌||◌, List, [], ◌∷◌, ◌++◌, length, zero, suc, ◌⊎◌, Option, Some, None, IsSome, is_some, nat_lt, eqb, cond, refl, sym, ap, ◌∙◌, inl, inr, arith, eqb-true, length-append}
use Rattle.std.proofs.lemmas.List.{length-map}
use Rattle.std.specs.List.{AllByRecursion, list_any, filter}
use Rattle.std.proofs.lemmas.Bool.{cases_lt, lt-ltb, false_from_ne_true, and_parts, and_from, and_cases, cases_Bool, or_parts, ltb-false, eqb-false, false≢true}
use Rattle.std.proofs.lemmas.List.Sums.{sum_by-cons, length-filter}
use Rattle.posix_acl.specs.declared.entry.Perms.{Perms}
use Rattle.posix_acl.specs.declared.entry.Entry.{Entry}
use Rattle.posix_acl.specs.declared.entry.Tag.{Tag}
use Rattle.posix_acl.specs.declared.entry.Tag.TheVariants.{UserObj, User, GroupObj, Group, Mask, Other}
use Rattle.posix_acl.specs.declared.fault.AclFault.TheVariants.{MissingBase, TwiceBase, TwiceQualifier, NoMask, TwoMasks, TooMany}
use Rattle.posix_acl.specs.Entries.{tag_number, is_tag, is_named, entry, plain}
use Rattle.posix_acl.specs.AccessList.{AccessList, IdsRise, IdsFit, entries_of, entry_count, named_entries, mask_entries}
use Rattle.posix_acl.specs.Stored.{perms_tagged, base_perms, qualified, access_list, IsCanonical}
use Rattle.posix_acl.specs.Faults.{count_tagged, count_qualified, has_fault, first_fault}
use Rattle.posix_acl.specs.Order.{rank, IsOrdered}
use Rattle.posix_acl.proofs.Ordering.{FitsAll}
use Rattle.posix_acl.proofs.Repeats.{tag_injective, has_name, has_name_from, count_head_hit, count_head_miss, tail_fits}

-- the entries with a tag
abbrev pub tagged : Tag → List Entry → List Entry
tagged tag es = filter (λ e. is_tag e.tag tag) es

abbrev sections : List Entry → List Entry
sections es =
    tagged UserObj es ++ (tagged User es ++ (tagged GroupObj es ++ (tagged Group es ++ (tagged Mask es ++ tagged Other es))))

abbrev From : ℕ → List Entry → Type 0
From n es = AllByRecursion (λ y. n ≤ tag_number y.tag) es

lacks : (tag : Tag) (n : ℕ) → tag_number tag < n → (es : List Entry) → From n es → tagged tag es ≡ []
lacks tag n below [] above = refl
lacks tag n below (y ∷ ys) above =
    let miss : is_tag y.tag tag ≡ false =
    false_from_ne_true (is_tag y.tag tag) (λ hit. let at = eqb-true (tag_number y.tag) (tag_number tag) hit in let le = above.0 in absurd (omega arith)) in
    rw miss (lacks tag n below ys above.1)

-- an entry before the others stands in front of their sections
in_front : (tag : Tag) (id : ℕ) (perms : Perms) (es : List Entry) → From (tag_number tag) es → sections es ≡ es → sections (entry tag id perms ∷ es) ≡ entry tag id perms ∷ es
in_front UserObj id perms es above same = ap (λ xs. entry UserObj id perms ∷ xs) same
in_front User id perms es above same =
    let a : tagged UserObj es ≡ [] = lacks UserObj 2 (omega arith) es above in
    rw a (ap (λ xs. entry User id perms ∷ xs) (rw a at same))
in_front GroupObj id perms es above same =
    let a : tagged UserObj es ≡ [] = lacks UserObj 4 (omega arith) es above in
    let b : tagged User es ≡ [] = lacks User 4 (omega arith) es above in
    rw (a, b) (ap (λ xs. entry GroupObj id perms ∷ xs) (rw (a, b) at same))
in_front Group id perms es above same =
    let a : tagged UserObj es ≡ [] = lacks UserObj 8 (omega arith) es above in
    let b : tagged User es ≡ [] = lacks User 8 (omega arith) es above in
    let d : tagged GroupObj es ≡ [] = lacks GroupObj 8 (omega arith) es above in
    rw (a, b, d) (ap (λ xs. entry Group id perms ∷ xs) (rw (a, b, d) at same))
in_front Mask id perms es above same =
    let a : tagged UserObj es ≡ [] = lacks UserObj 16 (omega arith) es above in
    let b : tagged User es ≡ [] = lacks User 16 (omega arith) es above in
    let d : tagged GroupObj es ≡ [] = lacks GroupObj 16 (omega arith) es above in
    let f : tagged Group es ≡ [] = lacks Group 16 (omega arith) es above in
    rw (a, b, d, f) (ap (λ xs. entry Mask id perms ∷ xs) (rw (a, b, d, f) at same))
in_front Other id perms es above same =
    let a : tagged UserObj es ≡ [] = lacks UserObj 32 (omega arith) es above in
    let b : tagged User es ≡ [] = lacks User 32 (omega arith) es above in
    let d : tagged GroupObj es ≡ [] = lacks GroupObj 32 (omega arith) es above in
    let f : tagged Group es ≡ [] = lacks Group 32 (omega arith) es above in
    let g : tagged Mask es ≡ [] = lacks Mask 32 (omega arith) es above in
    rw (a, b, d, f, g) (ap (λ xs. entry Other id perms ∷ xs) (rw (a, b, d, f, g) at same))

tags_rise : (x : Entry) → x.id < 2 ^ 32 → (es : List Entry) → FitsAll es → AllByRecursion (λ y. rank x ≤ rank y) es → From (tag_number x.tag) es
tags_rise x fit [] fits after = tt
tags_rise x fit (y ∷ ys) fits after =
    (let le = after.0 in let y_fits : y.id < 2 ^ 32 = fits 0 y (omega arith) in omega arith, tags_rise x fit ys (tail_fits y ys fits) after.1)

sections_same : (es : List Entry) → IsOrdered es → FitsAll es → sections es ≡ es
sections_same [] ordered fits = refl
sections_same (x ∷ xs) ordered fits =
    in_front x.tag x.id x.perms xs (tags_rise x (fits 0 x (omega arith)) xs (tail_fits x xs fits) ordered.0) (sections_same xs ordered.1 (tail_fits x xs fits))

-- ids that don't count are 0
abbrev pub ArePlain : List Entry → Type 0
ArePlain es = AllByRecursion (λ e. plain e ≡ e) es

tag_count_hit : (tag : Tag) (x : Entry) (xs : List Entry) → is_tag x.tag tag ≡ true → count_tagged tag (x ∷ xs) ≡ 1 + count_tagged tag xs
tag_count_hit tag x xs hit = sum_by-cons (λ e. cond (is_tag e.tag tag) 1 0) x xs ∙ rw hit refl

tag_count_miss : (tag : Tag) (x : Entry) (xs : List Entry) → is_tag x.tag tag ≡ false → count_tagged tag (x ∷ xs) ≡ count_tagged tag xs
tag_count_miss tag x xs miss = sum_by-cons (λ e. cond (is_tag e.tag tag) 1 0) x xs ∙ rw miss (omega arith)

none_tagged : (tag : Tag) (es : List Entry) → count_tagged tag es ≡ 0 → (tagged tag es ≡ []) × (perms_tagged tag es ≡ None)
none_tagged tag [] zero_of = (refl, refl)
none_tagged tag (x ∷ xs) zero_of =
    elim (cases_Bool (is_tag x.tag tag)) [
      | inl hit ↦ absurd (omega (arith, tag_count_hit tag x xs hit))
      | inr miss ↦
          let rest = none_tagged tag xs (omega (arith, tag_count_miss tag x xs miss)) in
          (rw miss rest.0, rw miss rest.1)
    ]

plain_id : (e : Entry) → is_named e.tag ≡ false → plain e ≡ e → 0 ≡ e.id
plain_id e unnamed same = let ids : cond (is_named e.tag) e.id 0 ≡ e.id = ap (λ x. x.id) same in rw unnamed at ids

one_tagged : (tag : Tag) → is_named tag ≡ false → (es : List Entry) → ArePlain es → count_tagged tag es ≡ 1
    → (perms_tagged tag es ≡ Some (base_perms (perms_tagged tag es))) × (tagged tag es ≡ entry tag 0 (base_perms (perms_tagged tag es)) ∷ [])
one_tagged tag unnamed [] plains counted = absurd (omega arith)
one_tagged tag unnamed (x ∷ xs) plains counted =
    elim (cases_Bool (is_tag x.tag tag)) [
      | inl hit ↦
          let tag_is : x.tag ≡ tag = tag_injective x.tag tag hit in
          let id_is : 0 ≡ x.id = plain_id x (ap is_named tag_is ∙ unnamed) plains.0 in
          let rest = none_tagged tag xs (omega (arith, tag_count_hit tag x xs hit)) in
          let shape : x ∷ [] ≡ entry tag 0 x.perms ∷ [] = rw (← tag_is, id_is) refl in
          (rw hit refl, rw (hit, rest.0) shape)
      | inr miss ↦
          let rest = one_tagged tag unnamed xs plains.1 (omega (arith, tag_count_miss tag x xs miss)) in
          (rw miss rest.0, rw miss rest.1)
    ]

named_section : (tag : Tag) (es : List Entry) → tagged tag es ≡ named_entries tag (qualified tag es)
named_section tag [] = refl
named_section tag (x ∷ xs) =
    elim (cases_Bool (is_tag x.tag tag)) [
      | inl hit ↦
          let tag_is : x.tag ≡ tag = tag_injective x.tag tag hit in
          let shape : x ≡ entry tag x.id x.perms = rw (← tag_is) refl in
          let rest = named_section tag xs in
          rw hit (ap (λ e. e ∷ tagged tag xs) shape ∙ ap (λ es. entry tag x.id x.perms ∷ es) rest)
      | inr miss ↦ rw miss (named_section tag xs)
    ]

mask_section : (es : List Entry) → ArePlain es → count_tagged Mask es ≤ 1 → tagged Mask es ≡ mask_entries (perms_tagged Mask es)
mask_section es plains few =
    elim (cases_zero (count_tagged Mask es) few) [
      | inl none ↦ let at = none_tagged Mask es none in rw (at.0, at.1) refl
      | inr one ↦ let at = one_tagged Mask refl es plains one in at.1 ∙ ap mask_entries (sym at.0)
    ]
  where
    cases_zero : (n : ℕ) → n ≤ 1 → (n ≡ 0) ⊎ (n ≡ 1)
    cases_zero zero le = inl refl
    cases_zero (suc n) le = inr (omega arith)

base_section : (tag : Tag) → is_named tag ≡ false → (es : List Entry) → ArePlain es → count_tagged tag es ≡ 1 → tagged tag es ≡ entry tag 0 (base_perms (perms_tagged tag es)) ∷ []
base_section tag unnamed es plains one = (one_tagged tag unnamed es plains one).1

-- the parts of having no fault
pub record NoFault (es : List Entry) : Type 0 where
  pub base : has_fault es MissingBase ≡ false
  pub once : has_fault es TwiceBase ≡ false
  pub names : has_fault es TwiceQualifier ≡ false
  pub masked : has_fault es NoMask ≡ false
  pub one_mask : has_fault es TwoMasks ≡ false
  pub few : has_fault es TooMany ≡ false

passed : {F : Type 0} (b : Bool) (f : F) (rest : Option F) → cond b (Some f) rest ≡ None → (b ≡ false) × (rest ≡ None)
passed false f rest found = (refl, found)
passed true f rest found = absurd (cc)

pub no_fault : (es : List Entry) → first_fault es ≡ None → NoFault es
unfolding first_fault
no_fault es found =
    let a = passed (has_fault es MissingBase) MissingBase _ found in
    let b = passed (has_fault es TwiceBase) TwiceBase _ a.1 in
    let d = passed (has_fault es TwiceQualifier) TwiceQualifier _ b.1 in
    let f = passed (has_fault es NoMask) NoMask _ d.1 in
    let g = passed (has_fault es TwoMasks) TwoMasks _ f.1 in
    let h = passed (has_fault es TooMany) TooMany _ g.1 in
    record { base = a.0; once = b.0; names = d.0; masked = f.0; one_mask = g.0; few = h.0 }

record Counts (es : List Entry) : Type 0 where
  owner : count_tagged UserObj es ≡ 1
  group : count_tagged GroupObj es ≡ 1
  other : count_tagged Other es ≡ 1
  mask : count_tagged Mask es ≤ 1

exactly_one : (n : ℕ) → eqb n 0 ≡ false → nat_lt 1 n ≡ false → n ≡ 1
exactly_one zero some one = absurd (cc)
exactly_one (suc n) some one = let le : suc n ≤ 1 = ltb-false 1 (suc n) one in omega arith

counts_of : (es : List Entry) → NoFault es → Counts es
counts_of es none =
    let a = or_parts (eqb (count_tagged UserObj es) 0 || eqb (count_tagged GroupObj es) 0) (eqb (count_tagged Other es) 0) none.base in
    let b = or_parts (eqb (count_tagged UserObj es) 0) (eqb (count_tagged GroupObj es) 0) a.0 in
    let d = or_parts (nat_lt 1 (count_tagged UserObj es) || nat_lt 1 (count_tagged GroupObj es)) (nat_lt 1 (count_tagged Other es)) none.once in
    let f = or_parts (nat_lt 1 (count_tagged UserObj es)) (nat_lt 1 (count_tagged GroupObj es)) d.0 in
    record {
      owner = exactly_one (count_tagged UserObj es) b.0 f.0;
      group = exactly_one (count_tagged GroupObj es) b.1 f.1;
      other = exactly_one (count_tagged Other es) a.1 d.1;
      mask = ltb-false 1 (count_tagged Mask es) none.one_mask;
    }

canonical_from : (es : List Entry) → IsOrdered es → FitsAll es → ArePlain es → Counts es → es ≡ entries_of (access_list es)
canonical_from es ordered fits plains counts =
    sym (sections_same es ordered fits)
    ∙ rw (
      base_section UserObj refl es plains counts.owner,
      named_section User es,
      base_section GroupObj refl es plains counts.group,
      named_section Group es,
      mask_section es plains counts.mask,
      base_section Other refl es plains counts.other,
    ) refl

length_named : (tag : Tag) (es : List Entry) → length (qualified tag es) ≡ count_tagged tag es
length_named tag es =
    sym (length-map (qualified tag es) (λ x. entry tag x.0 x.1)) ∙ ap length (sym (named_section tag es)) ∙ length-filter (λ e. is_tag e.tag tag) es

-- the ids behind an entry of the same tag are above its own
ids_above : (tag : Tag) (x : Entry) → is_tag x.tag tag ≡ true → (ys : List Entry) → AllByRecursion (λ y. rank x ≤ rank y) ys → count_qualified tag x.id ys ≡ 0 → AllByRecursion (λ y. x.id < y.0) (qualified tag ys)
ids_above tag x same [] after none = tt
ids_above tag x same (y ∷ ys) after none =
    elim (cases_Bool (is_tag y.tag tag)) [
      | inl hit ↦
          elim (cases_Bool (has_name tag x.id y)) [
            | inl twice ↦ absurd (omega (arith, count_head_hit tag x.id y ys twice))
            | inr other ↦
                let tags : tag_number y.tag ≡ tag_number x.tag = eqb-true (tag_number y.tag) (tag_number tag) hit ∙ sym (eqb-true (tag_number x.tag) (tag_number tag) same) in
                let differ : y.id ≡ x.id → ⊥ = λ e. false≢true (sym other ∙ has_name_from tag x.id y (eqb-true (tag_number y.tag) (tag_number tag) hit) e) in
                let le = after.0 in
                let above : x.id < y.id = omega arith in
                rw hit (above, ids_above tag x same ys after.1 (sym (count_head_miss tag x.id y ys other) ∙ none))
          ]
      | inr miss ↦
          let other : has_name tag x.id y ≡ false = rw miss refl in
          rw miss (ids_above tag x same ys after.1 (sym (count_head_miss tag x.id y ys other) ∙ none))
    ]

ids_rise : (tag : Tag) (es : List Entry) → IsOrdered es → ((id : ℕ) → count_qualified tag id es ≤ 1) → IdsRise (qualified tag es)
ids_rise tag [] ordered once = tt
ids_rise tag (x ∷ xs) ordered once =
    elim (cases_Bool (is_tag x.tag tag)) [
      | inl hit ↦
          let first : has_name tag x.id x ≡ true = has_name_from tag x.id x (eqb-true (tag_number x.tag) (tag_number tag) hit) refl in
          let none : count_qualified tag x.id xs ≡ 0 = omega (arith, once x.id, count_head_hit tag x.id x xs first) in
          rw hit (ids_above tag x hit xs ordered.0 none, ids_rise tag xs ordered.1 (λ id. fewer id))
      | inr miss ↦ rw miss (ids_rise tag xs ordered.1 (λ id. fewer id))
    ]
  where
    fewer : (id : ℕ) → count_qualified tag id xs ≤ 1
    fewer id =
        elim (cases_Bool (has_name tag id x)) [
          | inl hit ↦ omega (arith, once id, count_head_hit tag id x xs hit)
          | inr miss ↦ omega (arith, once id, count_head_miss tag id x xs miss)
        ]

ids_fit : (tag : Tag) (es : List Entry) → FitsAll es → IdsFit (qualified tag es)
ids_fit tag [] fits = tt
ids_fit tag (x ∷ xs) fits =
    elim (cases_Bool (is_tag x.tag tag)) [
      | inl hit ↦ let fit : x.id < 2 ^ 32 = fits 0 x (omega arith) in rw hit (fit, ids_fit tag xs (tail_fits x xs fits))
      | inr miss ↦ rw miss (ids_fit tag xs (tail_fits x xs fits))
    ]

any_hit : (p : Entry → Bool) (tag : Tag) (id : ℕ) → ((e : Entry) → has_name tag id e ≡ true → p e ≡ true) → (es : List Entry) → list_any p es ≡ false → count_qualified tag id es ≡ 0
any_hit p tag id passes [] none = refl
any_hit p tag id passes (x ∷ xs) none =
    let parts = or_parts (p x) (list_any p xs) none in
    elim (cases_Bool (has_name tag id x)) [
      | inl hit ↦ absurd (false≢true (sym parts.0 ∙ passes x hit))
      | inr miss ↦ count_head_miss tag id x xs miss ∙ any_hit p tag id passes xs parts.1
    ]

-- where no name repeats, each stands once at most
once_each : (tag : Tag) → is_named tag ≡ true → (es : List Entry) → has_fault es TwiceQualifier ≡ false → (id : ℕ) → count_qualified tag id es ≤ 1
once_each tag is_name es none id =
    elim (cases_lt 1 (count_qualified tag id es)) [
      | inl two ↦
          let never : count_qualified tag id es ≡ 0 =
          any_hit (λ e. is_named e.tag && nat_lt 1 (count_qualified e.tag e.id es)) tag id (λ e hit.
          let both = and_parts (is_tag e.tag tag) (eqb e.id id) hit in
          let tag_is : e.tag ≡ tag = tag_injective e.tag tag both.0 in
          let id_is : e.id ≡ id = eqb-true e.id id both.1 in
          and_from (is_named e.tag) (nat_lt 1 (count_qualified e.tag e.id es)) (ap is_named tag_is ∙ is_name)
          (lt-ltb 1 (count_qualified e.tag e.id es) (rw (tag_is, id_is) two))) es none in
          absurd (omega arith)
      | inr le ↦ le
    ]

mask_there : (es : List Entry) → 0 < count_tagged Mask es → IsSome (perms_tagged Mask es)
mask_there [] some = absurd (omega arith)
mask_there (x ∷ xs) some =
    elim (cases_Bool (is_tag x.tag Mask)) [
      | inl hit ↦ rw hit refl
      | inr miss ↦ let more : 0 < count_tagged Mask xs = omega (arith, tag_count_miss Mask x xs miss) in rw miss (mask_there xs more)
    ]

masked_from : (es : List Entry) → has_fault es NoMask ≡ false → 0 < count_tagged User es + count_tagged Group es → 0 < count_tagged Mask es
masked_from es none some =
    elim (and_cases (eqb (count_tagged Mask es) 0) (nat_lt 0 (count_tagged User es) || nat_lt 0 (count_tagged Group es)) none) [
      | inl there ↦ let ne = eqb-false (count_tagged Mask es) 0 there in omega arith
      | inr nobody ↦
          let both = or_parts (nat_lt 0 (count_tagged User es)) (nat_lt 0 (count_tagged Group es)) nobody in
          let users = ltb-false 0 (count_tagged User es) both.0 in
          let groups = ltb-false 0 (count_tagged Group es) both.1 in
          absurd (omega arith)
    ]

length_mask : (mask : Option Perms) → length (mask_entries mask) ≡ cond (is_some mask) 1 0
length_mask None = refl
length_mask (Some p) = refl

pub length-entries_of : (a : AccessList) → length (entries_of a) ≡ entry_count a
length-entries_of a =
    simp (length-append, length-map, length_mask a.mask) (omega arith)

pub valid_from : (es : List Entry) → IsOrdered es → FitsAll es → ArePlain es → first_fault es ≡ None → IsCanonical es
valid_from es ordered fits plains found =
    let none = no_fault es found in
    let counts = counts_of es none in
    let same = canonical_from es ordered fits plains counts in
    record {
      canonical = same;
      valid = record {
        users = ids_rise User es ordered (once_each User refl es none.names);
        user_ids = ids_fit User es fits;
        groups = ids_rise Group es ordered (once_each Group refl es none.names);
        group_ids = ids_fit Group es fits;
        masked = λ some. mask_there es (masked_from es none.masked (omega (arith, length_named User es, length_named Group es)));
        few =
            let le : length es ≤ 32 = ltb-false 32 (length es) none.few in
            omega (arith, ap length same, length-entries_of (access_list es));
      };
    }

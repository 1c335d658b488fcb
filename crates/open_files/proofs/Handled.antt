-- The handles of a slab are a table, and their counts.
--     at_handle, handles_filled, handles_emptied        what a handle is for; one is added, or taken away
--     counts_set        the counts are right again
--     count-added, count-removed, own_removed, others_removed        how many there are for an inode then
--     count_few        no more than there are handles
--     some_open, some_besides        what the counts say of an inode
--     set_lookup, on_ok, settled        one count is set
use Rattle.std.proofs.Common.{◌≡◌, ◌≢◌, ℕ, ◌+◌, ◌≤◌, Bool, true, false, not, ◌||◌, ◌==◌, cond, List, [], ◌∷◌, length, get_or, Option, None, Some, refl, sym, ap, ◌∙◌, arith, inl, inr}
use Rattle.std.specs.Prelude.{nat_eq, nat_lt, if◌then◌else◌, unwrap_or, Result, Ok, Err, IsOk, OnOk, OnErr}
use Rattle.std.specs.List.{list_any}
use Rattle.std.specs.Map.{lookup}
use Rattle.std.specs.Ordering.{nat_cmp}
use Rattle.std.proofs.lemmas.Bool.{cases_eq, eq-eqb, ne_eqb, lt-ltb, le-ltb}
use Rattle.std.proofs.lemmas.List.Sums.{sum_by-cons}
use Rattle.slab.specs.Slab.{entries_from}
use Rattle.fs_layout.specs.Maps.{get, with_entry, without, IsMap}
use Rattle.fs_layout.proofs.MapLaws.{summand, sum-with_entry}
use Rattle.fs_model.specs.Processes.{Descriptor, Openings}
use Rattle.fs_model.proofs.StepsProcesses.{without-IsMap}
use Rattle.open_files.specs.Handles.{count_for, counted_in, recounted, count_of_handle, own_found, AreCounted}
use Rattle.open_files.proofs.Slots.{at_slot, Writes, filled, emptied, absent, put_back, gone_there}

zero-plus : (n : ℕ) → 0 + n ≡ n
zero-plus n = omega arith

-- ---- the table

pub at_handle : (slots : List (Option Descriptor)) (h : ℕ) → get nat_cmp (entries_from 0 slots) h ≡ get_or slots h None
at_handle slots h = ap (get nat_cmp (entries_from 0 slots)) (sym (zero-plus h)) ∙ at_slot 0 slots h

pub handles_filled : (old new : List (Option Descriptor)) (h : ℕ) (d : Descriptor) → Writes old new h (Some d)
    → entries_from 0 new ≡ with_entry nat_cmp (entries_from 0 old) h d
handles_filled old new h d w = filled 0 old new h d w ∙ ap (λ n. with_entry nat_cmp (entries_from 0 old) n d) (zero-plus h)

pub handles_emptied : (old new : List (Option Descriptor)) (h : ℕ) → Writes old new h None
    → entries_from 0 new ≡ without nat_cmp (entries_from 0 old) h
handles_emptied old new h w = emptied 0 old new h w ∙ ap (λ n. without nat_cmp (entries_from 0 old) n) (zero-plus h)

-- ---- how many there are for an inode

abbrev pub is_for : ℕ → ℕ × Descriptor → Bool
is_for n e = e.1.ino == n

abbrev pub one_for : ℕ → ℕ × Descriptor → ℕ
one_for n e = cond (is_for n e) 1 0

-- one more
pub count-added : (n : ℕ) (m : Openings) (h : ℕ) (d : Descriptor) → IsMap nat_cmp m → get nat_cmp m h ≡ None
    → count_for n (with_entry nat_cmp m h d) ≡ count_for n m + cond (d.ino == n) 1 0
count-added n m h d rising none =
    let both = sum-with_entry (one_for n) m h d rising in
    let nothing : summand (one_for n) h (get nat_cmp m h) ≡ 0 = ap (summand (one_for n) h) none in
    omega (arith, both, nothing)

-- one less
pub count-removed : (n : ℕ) (m : Openings) (h : ℕ) (d : Descriptor) → IsMap nat_cmp m → get nat_cmp m h ≡ Some d
    → count_for n m ≡ count_for n (without nat_cmp m h) + cond (d.ino == n) 1 0
count-removed n m h d rising there =
    ap (count_for n) (sym (put_back m h d rising there))
    ∙ count-added n (without nat_cmp m h) h d (without-IsMap m h rising) (gone_there m h rising)

module _ (m : Openings) (h : ℕ) (d : Descriptor) (ino : ℕ) (same : ino ≡ d.ino) (rising : IsMap nat_cmp m) where
  pub own_removed : get nat_cmp m h ≡ Some d → count_for ino m ≡ count_for ino (without nat_cmp m h) + 1
  own_removed there = count-removed ino m h d rising there ∙ ap (λ b. count_for ino (without nat_cmp m h) + cond b 1 0) (eq-eqb d.ino ino (sym same))

  pub others_removed : get nat_cmp m h ≡ Some d → (n : ℕ) → n ≢ ino → count_for n (without nat_cmp m h) ≡ count_for n m
  others_removed there n ne =
      let other : (d.ino == n) ≡ false = ne_eqb d.ino n (λ e. ne (sym (same ∙ e))) in
      let nothing : one_for n (h, d) ≡ 0 = ap (λ (b : Bool). cond b 1 0) other in
      omega (arith, count-removed n m h d rising there, nothing)

  pub own_added : get nat_cmp m h ≡ None → count_for ino (with_entry nat_cmp m h d) ≡ count_for ino m + 1
  own_added none = count-added ino m h d rising none ∙ ap (λ b. count_for ino m + cond b 1 0) (eq-eqb d.ino ino (sym same))

  pub others_added : get nat_cmp m h ≡ None → (n : ℕ) → n ≢ ino → count_for n (with_entry nat_cmp m h d) ≡ count_for n m
  others_added none n ne =
      let other : (d.ino == n) ≡ false = ne_eqb d.ino n (λ e. ne (sym (same ∙ e))) in
      let nothing : one_for n (h, d) ≡ 0 = ap (λ (b : Bool). cond b 1 0) other in
      omega (arith, count-added n m h d rising none, nothing)

pub count_few : (n : ℕ) (m : Openings) → count_for n m ≤ length m
count_few n [] = omega arith
count_few n (e ∷ m) =
    let few = count_few n m in
    let more = sum_by-cons (one_for n) e m in
    let one = most (is_for n e) in
    omega (arith, few, more, one)
  where
    most : (b : Bool) → cond b 1 0 ≤ 1
    most true = omega arith
    most false = omega arith

-- ---- what they say

-- there is one
pub some_open : (n : ℕ) (m : Openings) → not (nat_eq (count_for n m) 0) ≡ list_any (is_for n) m
some_open n [] = refl
some_open n (e ∷ m) = go (is_for n e) refl (some_open n m) ∙ refl
  where
    go : (b : Bool) → is_for n e ≡ b → not (nat_eq (count_for n m) 0) ≡ list_any (is_for n) m
        → not (nat_eq (count_for n (e ∷ m)) 0) ≡ (is_for n e || list_any (is_for n) m)
    go true is ih =
        let more = sum_by-cons (one_for n) e m in
        let one : one_for n e ≡ 1 = ap (λ b. cond b 1 0) is in
        ap not (ne_eqb (count_for n (e ∷ m)) 0 (λ none. omega (arith, more, one, none))) ∙ ap (λ b. b || list_any (is_for n) m) (sym is)
    go false is ih =
        let more = sum_by-cons (one_for n) e m in
        let none : one_for n e ≡ 0 = ap (λ b. cond b 1 0) is in
        let same : count_for n (e ∷ m) ≡ count_for n m = omega (arith, more, none) in
        ap (λ k. not (nat_eq k 0)) same ∙ ih ∙ ap (λ b. b || list_any (is_for n) m) (sym is)

more_than : (c k : ℕ) → nat_lt c (k + c) ≡ not (nat_eq k 0)
more_than c k = elim (cases_eq k 0) [
  | inl e ↦ le-ltb c (k + c) (omega (arith, e)) ∙ sym (ap not (eq-eqb k 0 e))
  | inr ne ↦ lt-ltb c (k + c) (omega (arith, ne)) ∙ sym (ap not (ne_eqb k 0 ne))
]

-- there is one besides
pub some_besides : (n : ℕ) (m : Openings) (h : ℕ) → IsMap nat_cmp m → nat_lt (count_of_handle m h n) (count_for n m) ≡ list_any (is_for n) (without nat_cmp m h)
some_besides n m h rising = go (get nat_cmp m h) refl
  where
    no_more : (k : ℕ) → k + 0 ≡ k
    no_more k = omega arith

    go : (o : Option Descriptor) → get nat_cmp m h ≡ o → nat_lt (count_of_handle m h n) (count_for n m) ≡ list_any (is_for n) (without nat_cmp m h)
    go None e =
        ap (λ o. nat_lt (own_found n o) (count_for n m)) e
        ∙ ap (nat_lt 0) (sym (no_more (count_for n m)))
        ∙ more_than 0 (count_for n m) ∙ some_open n m ∙ ap (list_any (is_for n)) (absent m h rising e)
    go (Some d) e =
        ap (λ o. nat_lt (own_found n o) (count_for n m)) e
        ∙ ap (nat_lt (own_found n (Some d))) (count-removed n m h d rising e)
        ∙ more_than (cond (d.ino == n) 1 0) (count_for n (without nat_cmp m h)) ∙ some_open n (without nat_cmp m h)

-- ---- one count is set

pub counts_set : (m now : Openings) (old new : List (ℕ × ℕ)) (ino count : ℕ) → AreCounted m old → ((n : ℕ) → counted_in new n ≡ recounted old ino count n)
    → count ≡ count_for ino now → ((n : ℕ) → n ≢ ino → count_for n now ≡ count_for n m) → AreCounted now new
counts_set m now old new ino count are is same others = record {
  each = λ n. elim (cases_eq ino n) [
    | inl e ↦ is n ∙ ap (λ b. if b then count else counted_in old n) (eq-eqb ino n e) ∙ same ∙ ap (λ k. count_for k now) e
    | inr ne ↦ is n ∙ ap (λ b. if b then count else counted_in old n) (ne_eqb ino n ne) ∙ are.each n ∙ sym (others n (λ f. ne (sym f)))
  ];
}

pub set_lookup : (es fs : List (ℕ × ℕ)) (ino count : ℕ) (w : Option ℕ) → unwrap_or w 0 ≡ count
    → ((q : ℕ) → lookup (nat_eq q) fs ≡ cond (nat_eq ino q) w (lookup (nat_eq q) es)) → (n : ℕ) → counted_in fs n ≡ recounted es ino count n
set_lookup es fs ino count w is each n = ap (λ o. unwrap_or o 0) (each n) ∙ go (nat_eq ino n)
  where
    go : (b : Bool) → unwrap_or (cond b w (lookup (nat_eq n) es)) 0 ≡ (if b then count else counted_in es n)
    go true = is
    go false = refl

pub on_ok : {T E P : Type 0} (r : Result T E) → IsOk r → OnOk r P → P
on_ok (Ok x) is holds = holds
on_ok (Err e) is holds = absurd (let no : false ≡ true = is in cc)

-- what an error would say isn't so
pub settled : {T E P Q : Type 0} (r : Result T E) → OnOk r P → OnErr r Q → (Q → ⊥) → P
settled (Ok x) holds says never = holds
settled (Err e) holds says never = absurd (never says)

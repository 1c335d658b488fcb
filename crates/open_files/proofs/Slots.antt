-- Slots in a row are a finite map from numbers: what stands at a number, one slot written, the least unused number,
-- and a test of all values.
use Rattle.std.proofs.Common.{◌≡◌, ◌≢◌, ℕ, zero, suc, ◌+◌, ◌-◌, ◌<◌, ◌≤◌, Bool, true, false, not, ◌&&◌, ◌||◌, ◌==◌, cond, List, [], ◌∷◌, length, set, take, drop, get_or, Option, None, Some, refl, sym, ap, ◌∙◌, arith, inl, inr}
use Rattle.std.specs.Prelude.{nat_le, nat_lt}
use Rattle.std.specs.List.{list_any, position_from}
use Rattle.std.specs.Ordering.{nat_cmp, eq_by_cmp, is_eq, is_lt}
use Rattle.std.specs.FinMap.{is_sorted}
use Rattle.std.specs.declared.cmp.Ordering.{Ordering}
use Rattle.std.specs.declared.cmp.Ordering.TheVariants.{Less, Equal, Greater}
use Rattle.std.specs.FinMap.Entries.{below_all, by_order}
use Rattle.std.proofs.lemmas.Bool.Decides.{nat_tests}
use Rattle.std.proofs.lemmas.Bool.{cases_eq}
use Rattle.std.proofs.lemmas.List.{get_or-set_same, get_or-set_other, get_or_past}
use Rattle.slab.specs.Slab.{entries_from}
use Rattle.fs_layout.specs.Maps.{get, with_entry, without, IsMap}
use Rattle.fs_layout.proofs.FirstEntries.{at_other, at_same, left, right, lower, tied, ties, apart}
use Rattle.fs_layout.proofs.MapLaws.{same_map, get-with_entry, with_entry-IsMap}
use Rattle.fs_model.specs.Processes.{least_unused}
use Rattle.fs_model.proofs.StepsProcesses.{without-IsMap}
use Rattle.fs_model.proofs.Swept.{kept, get-filter}

or_swap : (a b c : Bool) → (a || (b || c)) ≡ (b || (a || c))
or_swap true true c = refl
or_swap true false c = refl
or_swap false true c = refl
or_swap false false c = refl

or_joins : (a b c : Bool) → (a || (b || c)) ≡ ((a || b) || c)
or_joins true b c = refl
or_joins false b c = refl

le_sucs : (a b : ℕ) → nat_le (suc a) (suc b) ≡ nat_le a b
le_sucs a b = go (nat_le a b) refl
  where
    go : (t : Bool) → nat_le a b ≡ t → nat_le (suc a) (suc b) ≡ t
    go true e = let le : a ≤ b = grind (arith, nat_tests) in grind (arith, nat_tests)
    go false e = let gt : b < a = grind (arith, nat_tests) in grind (arith, nat_tests)

module _ {X : Type 0} where
  -- ---- what stands at a number

  pub low : (k : ℕ) (slots : List (Option X)) (q : ℕ) → q < k → get nat_cmp (entries_from k slots) q ≡ None
  low k [] q lt = refl
  low k (None ∷ slots) q lt = low (k + 1) slots q (omega arith)
  low k (Some x ∷ slots) q lt = at_other (k, x) (entries_from (k + 1) slots) q (omega arith) ∙ low (k + 1) slots q (omega arith)

  pub at_slot : (k : ℕ) (slots : List (Option X)) (i : ℕ) → get nat_cmp (entries_from k slots) (k + i) ≡ get_or slots i None
  at_slot k [] i = refl
  at_slot k (None ∷ slots) zero = low (k + 1) slots (k + 0) (omega arith)
  at_slot k (None ∷ slots) (suc i) =
      let same : k + suc i ≡ (k + 1) + i = omega arith in
      ap (get nat_cmp (entries_from (k + 1) slots)) same ∙ at_slot (k + 1) slots i
  at_slot k (Some x ∷ slots) zero =
      let same : k + 0 ≡ k = omega arith in
      ap (get nat_cmp ((k, x) ∷ entries_from (k + 1) slots)) same ∙ at_same (k, x) (entries_from (k + 1) slots)
  at_slot k (Some x ∷ slots) (suc i) =
      let same : k + suc i ≡ (k + 1) + i = omega arith in
      at_other (k, x) (entries_from (k + 1) slots) (k + suc i) (omega arith)
      ∙ ap (get nat_cmp (entries_from (k + 1) slots)) same ∙ at_slot (k + 1) slots i

  -- ---- the numbers rise

  below_rest : (x k : ℕ) (slots : List (Option X)) → x < k → below_all nat_cmp x (entries_from k slots) ≡ true
  below_rest x k [] lt = refl
  below_rest x k (None ∷ slots) lt = below_rest x (k + 1) slots (omega arith)
  below_rest x k (Some v ∷ slots) lt =
      let less : is_lt (nat_cmp x k) ≡ true = grind (arith, nat_tests) in
      ap (λ b. b && below_all nat_cmp x (entries_from (k + 1) slots)) less ∙ below_rest x (k + 1) slots (omega arith)

  pub slots_rise : (k : ℕ) (slots : List (Option X)) → IsMap nat_cmp (entries_from k slots)
  slots_rise k [] = refl
  slots_rise k (None ∷ slots) = slots_rise (k + 1) slots
  slots_rise k (Some x ∷ slots) =
      ap (λ b. b && is_sorted nat_cmp (entries_from (k + 1) slots)) (below_rest k (k + 1) slots (omega arith)) ∙ slots_rise (k + 1) slots

  -- ---- one slot is written

  -- two maps of slots are the same where they have the same at each slot
  same_below : (k : ℕ) (slots : List (Option X)) (m : List (ℕ × X)) → ((q : ℕ) → q < k → get nat_cmp m q ≡ None)
      → ((j : ℕ) → get nat_cmp m (k + j) ≡ get_or slots j None) → (q : ℕ) → get nat_cmp (entries_from k slots) q ≡ get nat_cmp m q
  same_below k slots m under at q = go (nat_lt q k) refl
    where
      go : (b : Bool) → nat_lt q k ≡ b → get nat_cmp (entries_from k slots) q ≡ get nat_cmp m q
      go true e = let lt : q < k = grind (arith, nat_tests) in low k slots q lt ∙ sym (under q lt)
      go false e =
          let le : k ≤ q = grind (arith, nat_tests) in
          let here : q ≡ k + (q - k) = omega arith in
          ap (get nat_cmp (entries_from k slots)) here ∙ at_slot k slots (q - k) ∙ sym (at (q - k)) ∙ ap (get nat_cmp m) (sym here)

  -- the new slots have this at i, and elsewhere what the old ones have
  pub record Writes (old new : List (Option X)) (i : ℕ) (slot : Option X) : Type 0 where
    pub here : get_or new i None ≡ slot
    pub others : (j : ℕ) → j ≢ i → get_or new j None ≡ get_or old j None

  pub filled : (k : ℕ) (old new : List (Option X)) (i : ℕ) (x : X) → Writes old new i (Some x)
      → entries_from k new ≡ with_entry nat_cmp (entries_from k old) (k + i) x
  filled k old new i x w =
      same_map (entries_from k new) (with_entry nat_cmp (entries_from k old) (k + i) x) (slots_rise k new)
      (with_entry-IsMap (entries_from k old) (k + i) x (slots_rise k old))
      (same_below k new (with_entry nat_cmp (entries_from k old) (k + i) x)
      (λ q lt. get-with_entry (entries_from k old) (k + i) x q
      ∙ ap (λ b. cond b (Some x) (get nat_cmp (entries_from k old) q)) (apart q (k + i) (omega arith)) ∙ low k old q lt)
      (λ j. get-with_entry (entries_from k old) (k + i) x (k + j) ∙ at j))
    where
      at : (j : ℕ) → cond (eq_by_cmp nat_cmp (k + j) (k + i)) (Some x) (get nat_cmp (entries_from k old) (k + j)) ≡ get_or new j None
      at j = elim (cases_eq j i) [
        | inl e ↦
            ap (λ b. cond b (Some x) (get nat_cmp (entries_from k old) (k + j))) (ties (k + j) (k + i) (ap (λ n. k + n) e))
            ∙ sym (ap (λ n. get_or new n None) e ∙ w.here)
        | inr ne ↦
            ap (λ b. cond b (Some x) (get nat_cmp (entries_from k old) (k + j))) (apart (k + j) (k + i) (omega arith))
            ∙ at_slot k old j ∙ sym (w.others j ne)
      ]

  kept_other : (n : ℕ) (q : ℕ) (o : Option X) → q ≢ n → kept (λ e. not (eq_by_cmp nat_cmp n e.0)) q o ≡ o
  kept_other n q None ne = refl
  kept_other n q (Some x) ne = ap (λ b. cond (not b) (Some x) None) (apart n q (λ e. ne (sym e)))

  kept_here : (n : ℕ) (q : ℕ) (o : Option X) → q ≡ n → kept (λ e. not (eq_by_cmp nat_cmp n e.0)) q o ≡ None
  kept_here n q None e = refl
  kept_here n q (Some x) e = ap (λ b. cond (not b) (Some x) None) (ties n q (sym e))

  pub get-without : (m : List (ℕ × X)) (n q : ℕ) → IsMap nat_cmp m
      → get nat_cmp (without nat_cmp m n) q ≡ kept (λ e. not (eq_by_cmp nat_cmp n e.0)) q (get nat_cmp m q)
  get-without m n q h = get-filter (λ e. not (eq_by_cmp nat_cmp n e.0)) m h q

  pub emptied : (k : ℕ) (old new : List (Option X)) (i : ℕ) → Writes old new i None
      → entries_from k new ≡ without nat_cmp (entries_from k old) (k + i)
  emptied k old new i w =
      same_map (entries_from k new) (without nat_cmp (entries_from k old) (k + i)) (slots_rise k new)
      (without-IsMap (entries_from k old) (k + i) (slots_rise k old))
      (same_below k new (without nat_cmp (entries_from k old) (k + i))
      (λ q lt. get-without (entries_from k old) (k + i) q (slots_rise k old)
      ∙ kept_other (k + i) q (get nat_cmp (entries_from k old) q) (omega arith) ∙ low k old q lt)
      (λ j. get-without (entries_from k old) (k + i) (k + j) (slots_rise k old) ∙ at j))
    where
      at : (j : ℕ) → kept (λ e. not (eq_by_cmp nat_cmp (k + i) e.0)) (k + j) (get nat_cmp (entries_from k old) (k + j)) ≡ get_or new j None
      at j = elim (cases_eq j i) [
        | inl e ↦
            kept_here (k + i) (k + j) (get nat_cmp (entries_from k old) (k + j)) (ap (λ n. k + n) e)
            ∙ sym (ap (λ n. get_or new n None) e ∙ w.here)
        | inr ne ↦
            kept_other (k + i) (k + j) (get nat_cmp (entries_from k old) (k + j)) (omega arith)
            ∙ at_slot k old j ∙ sym (w.others j ne)
      ]

  -- where nothing stands, nothing goes
  pub absent : (m : List (ℕ × X)) (n : ℕ) → IsMap nat_cmp m → get nat_cmp m n ≡ None → m ≡ without nat_cmp m n
  absent m n h none = same_map m (without nat_cmp m n) h (without-IsMap m n h) (λ q. sym (get-without m n q h ∙ at q))
    where
      at : (q : ℕ) → kept (λ e. not (eq_by_cmp nat_cmp n e.0)) q (get nat_cmp m q) ≡ get nat_cmp m q
      at q = elim (cases_eq q n) [
        | inl e ↦ kept_here n q (get nat_cmp m q) e ∙ sym (ap (get nat_cmp m) e ∙ none)
        | inr ne ↦ kept_other n q (get nat_cmp m q) ne
      ]

  -- what went is put back
  pub put_back : (m : List (ℕ × X)) (n : ℕ) (x : X) → IsMap nat_cmp m → get nat_cmp m n ≡ Some x → with_entry nat_cmp (without nat_cmp m n) n x ≡ m
  put_back m n x h there =
      same_map (with_entry nat_cmp (without nat_cmp m n) n x) m (with_entry-IsMap (without nat_cmp m n) n x (without-IsMap m n h)) h
      (λ q. get-with_entry (without nat_cmp m n) n x q ∙ at q)
    where
      at : (q : ℕ) → cond (eq_by_cmp nat_cmp q n) (Some x) (get nat_cmp (without nat_cmp m n) q) ≡ get nat_cmp m q
      at q = elim (cases_eq q n) [
        | inl e ↦ ap (λ b. cond b (Some x) (get nat_cmp (without nat_cmp m n) q)) (ties q n e) ∙ sym (ap (get nat_cmp m) e ∙ there)
        | inr ne ↦
            ap (λ b. cond b (Some x) (get nat_cmp (without nat_cmp m n) q)) (apart q n ne)
            ∙ get-without m n q h ∙ kept_other n q (get nat_cmp m q) ne
      ]

  pub gone_there : (m : List (ℕ × X)) (n : ℕ) → IsMap nat_cmp m → get nat_cmp (without nat_cmp m n) n ≡ None
  gone_there m n h = get-without m n n h ∙ kept_here n n (get nat_cmp m n) refl

  -- ---- the least unused number

  least_above : (k j : ℕ) (slots : List (Option X)) → k < j → least_unused k (entries_from j slots) ≡ k
  least_above k j [] lt = refl
  least_above k j (None ∷ slots) lt = least_above k (j + 1) slots (omega arith)
  least_above k j (Some x ∷ slots) lt =
      let other : (j == k) ≡ false = grind (arith, nat_tests) in
      ap (λ b. cond b (least_unused (k + 1) (entries_from (j + 1) slots)) k) other

  few_entries : (k : ℕ) (slots : List (Option X)) → length (entries_from k slots) ≤ length slots
  few_entries k [] = omega arith
  few_entries k (None ∷ slots) = omega (arith, few_entries (k + 1) slots)
  few_entries k (Some x ∷ slots) = omega (arith, few_entries (k + 1) slots)

  abbrev pub lowest_from : ℕ → List (Option X) → Option ℕ
  lowest_from k slots = cond (nat_le (length slots) (length (entries_from k slots))) None (Some (least_unused k (entries_from k slots)))

  pub first_empty : (test : Option X → Bool) → test None ≡ true → ((x : X) → test (Some x) ≡ false) → (k : ℕ) (slots : List (Option X))
      → position_from test k slots ≡ lowest_from k slots
  first_empty test at_none at_some k [] = refl
  first_empty test at_none at_some k (None ∷ slots) =
      let room : nat_le (length (None ∷ slots)) (length (entries_from (k + 1) slots)) ≡ false =
      (let few = few_entries (k + 1) slots in grind (arith, nat_tests)) in
      ap (λ b. cond b (Some k) (position_from test (k + 1) slots)) at_none
      ∙ sym (ap (λ b. cond b None (Some (least_unused k (entries_from (k + 1) slots)))) room ∙ ap Some (least_above k (k + 1) slots (omega arith)))
  first_empty test at_none at_some k (Some x ∷ slots) =
      let same : (k == k) ≡ true = grind (arith, nat_tests) in
      ap (λ b. cond b (Some k) (position_from test (k + 1) slots)) (at_some x)
      ∙ first_empty test at_none at_some (k + 1) slots
      ∙ sym (ap (λ b. cond b None (Some (cond (k == k) (least_unused (k + 1) (entries_from (k + 1) slots)) k)))
      (le_sucs (length slots) (length (entries_from (k + 1) slots)))
      ∙ ap (λ b. cond (nat_le (length slots) (length (entries_from (k + 1) slots))) None
      (Some (cond b (least_unused (k + 1) (entries_from (k + 1) slots)) k))) same)

  -- ---- a test of all values

  -- whatever number the first slot has
  pub any_value : (test : X → Bool) (j k : ℕ) (slots : List (Option X))
      → list_any (λ (e : ℕ × X). test e.1) (entries_from j slots) ≡ list_any (λ (e : ℕ × X). test e.1) (entries_from k slots)
  any_value test j k [] = refl
  any_value test j k (None ∷ slots) = any_value test (j + 1) (k + 1) slots
  any_value test j k (Some x ∷ slots) = ap (λ b. test x || b) (any_value test (j + 1) (k + 1) slots)

  -- the values at other numbers are those that stay without one
  pub any_other : (test : X → Bool) (own k : ℕ) (slots : List (Option X))
      → list_any (λ (e : ℕ × X). not (e.0 == own) && test e.1) (entries_from k slots)
      ≡ list_any (λ (e : ℕ × X). test e.1) (without nat_cmp (entries_from (k + 1) slots) (own + 1))
  any_other test own k [] = refl
  any_other test own k (None ∷ slots) = any_other test own (k + 1) slots
  any_other test own k (Some x ∷ slots) = elim (cases_eq k own) [
    | inl e ↦
        let here : (k == own) ≡ true = grind (arith, nat_tests) in
        ap (λ b. (not b && test x) || list_any (λ (e : ℕ × X). not (e.0 == own) && test e.1) (entries_from (k + 1) slots)) here
        ∙ any_other test own (k + 1) slots
        ∙ sym (ap (λ b. list_any (λ (e : ℕ × X). test e.1) (cond (not b) ((k + 1, x) ∷ without nat_cmp (entries_from (k + 1 + 1) slots) (own + 1))
        (without nat_cmp (entries_from (k + 1 + 1) slots) (own + 1)))) (ties (own + 1) (k + 1) (omega arith)))
    | inr ne ↦
        let there : (k == own) ≡ false = grind (arith, nat_tests) in
        ap (λ b. (not b && test x) || list_any (λ (e : ℕ × X). not (e.0 == own) && test e.1) (entries_from (k + 1) slots)) there
        ∙ ap (λ b. test x || b) (any_other test own (k + 1) slots)
        ∙ sym (ap (λ b. list_any (λ (e : ℕ × X). test e.1) (cond (not b) ((k + 1, x) ∷ without nat_cmp (entries_from (k + 1 + 1) slots) (own + 1))
        (without nat_cmp (entries_from (k + 1 + 1) slots) (own + 1)))) (apart (own + 1) (k + 1) (omega arith)))
  ]

  -- what stands only above a number stays without it
  high : (n b : ℕ) (m : List (ℕ × X)) → n ≤ b → below_all nat_cmp b m ≡ true → without nat_cmp m n ≡ m
  high n b [] le h = refl
  high n b (e ∷ m) le h =
      let above : b < e.0 = lower b e.0 (left _ _ h) in
      ap (λ t. cond (not t) (e ∷ without nat_cmp m n) (without nat_cmp m n)) (apart n e.0 (omega arith))
      ∙ ap (λ t. e ∷ t) (high n b m le (right _ _ h))

  -- of a map with one value set: that value, or another one
  pub any_with_entry : (test : X → Bool) (m : List (ℕ × X)) (n : ℕ) (x : X) → IsMap nat_cmp m
      → list_any (λ (e : ℕ × X). test e.1) (with_entry nat_cmp m n x) ≡ (test x || list_any (λ (e : ℕ × X). test e.1) (without nat_cmp m n))
  any_with_entry test [] n x h = refl
  any_with_entry test (e ∷ m) n x h = go (nat_cmp n e.0) refl (any_with_entry test m n x (right _ _ h))
    where
      go : (o : Ordering) → nat_cmp n e.0 ≡ o
          → list_any (λ (e : ℕ × X). test e.1) (with_entry nat_cmp m n x) ≡ (test x || list_any (λ (e : ℕ × X). test e.1) (without nat_cmp m n))
          → list_any (λ (e : ℕ × X). test e.1) (by_order o ((n, x) ∷ e ∷ m) ((e.0, x) ∷ m) (e ∷ with_entry nat_cmp m n x))
          ≡ (test x || list_any (λ (e : ℕ × X). test e.1) (without nat_cmp (e ∷ m) n))
      go Less c ih =
          let under : n < e.0 = lower n e.0 (ap is_lt c) in
          sym (ap (λ b. test x || list_any (λ (e : ℕ × X). test e.1) (cond (not b) (e ∷ without nat_cmp m n) (without nat_cmp m n))) (ap is_eq c)
          ∙ ap (λ t. test x || (test e.1 || list_any (λ (e : ℕ × X). test e.1) t)) (high n e.0 m (omega arith) (left _ _ h)))
      go Equal c ih =
          let same : n ≡ e.0 = tied n e.0 (ap is_eq c) in
          sym (ap (λ b. test x || list_any (λ (e : ℕ × X). test e.1) (cond (not b) (e ∷ without nat_cmp m n) (without nat_cmp m n))) (ap is_eq c)
          ∙ ap (λ t. test x || list_any (λ (e : ℕ × X). test e.1) t) (high n e.0 m (omega arith) (left _ _ h)))
      go Greater c ih =
          ap (λ b. test e.1 || b) ih ∙ or_swap (test e.1) (test x) (list_any (λ (e : ℕ × X). test e.1) (without nat_cmp m n))
          ∙ sym (ap (λ b. test x || list_any (λ (e : ℕ × X). test e.1) (cond (not b) (e ∷ without nat_cmp m n) (without nat_cmp m n))) (ap is_eq c))

  -- ---- slots that are set

  pub within : (slots : List (Option X)) (i : ℕ) (x : X) → get_or slots i None ≡ Some x → i < length slots
  within slots i x e = grind (arith, get_or_past)

  pub set_writes : (slots : List (Option X)) (i : ℕ) (slot : Option X) → i < length slots → Writes slots (set slots i slot) i slot
  set_writes slots i slot lt = record {
    here = get_or-set_same slots i slot None lt;
    others = λ j ne. get_or-set_other slots i j slot None ne;
  }

  -- ---- a test of all slots

  abbrev pub holds : (X → Bool) → Option X → Bool
  holds test None = false
  holds test (Some x) = test x

  pub any_slot : (test : X → Bool) (k : ℕ) (slots : List (Option X))
      → list_any (holds test) slots ≡ list_any (λ (e : ℕ × X). test e.1) (entries_from k slots)
  any_slot test k [] = refl
  any_slot test k (None ∷ slots) = any_slot test (k + 1) slots
  any_slot test k (Some x ∷ slots) = ap (λ b. test x || b) (any_slot test (k + 1) slots)

  -- with one slot emptied: those before it, and those after it
  pub any_split : (test : X → Bool) (i : ℕ) (slots : List (Option X)) → i < length slots
      → list_any (holds test) (set slots i None) ≡ (list_any (holds test) (take i slots) || list_any (holds test) (drop (suc i) slots))
  any_split test i [] lt = absurd (omega arith)
  any_split test zero (slot ∷ slots) lt = refl
  any_split test (suc i) (slot ∷ slots) lt =
      ap (λ b. holds test slot || b) (any_split test i slots (omega arith))
      ∙ or_joins (holds test slot) (list_any (holds test) (take i slots)) (list_any (holds test) (drop (suc i) slots))

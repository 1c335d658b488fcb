-- Which content of a sector a stop picks, from the contents that steps replaced.
use Rattle.std.proofs.Common.{◌≢◌, ◌-◌}
use Rattle.std.proofs.Common.{◌≡◌, inl, inr, ⊎_elim, ℕ, suc, ◌+◌, ◌<◌, ◌≤◌, ◌%◌, List, [], ◌∷◌, ◌++◌, length, drop, refl, sym, ◌∙◌, ap, arith, slice_set, get_or, get_or-set_other, length-append}
use Rattle.std.specs.Prelude.{Bool, true, false, nat_eq, min, if◌then◌else◌}
use Rattle.std.proofs.lemmas.Bool.{cases_eq}
use Rattle.std.proofs.lemmas.Bool.Decides.{eqb_tells}
use Rattle.std.proofs.lemmas.Grind.{get_or-set_at}
use Rattle.std.proofs.lemmas.List.{at_drop_more, at_drop_all, nil_from_length}
use Rattle.sector_disk.specs.Disk.{Image, sector}
use Rattle.sector_disk.specs.Record.{Held}
use Rattle.sector_disk.specs.Picks.{writes_to, choices, written_before, IsPicked}
use Rattle.sector_disk.specs.Steps.{before, events_of, held_before, replaced_of}
use Rattle.sector_disk.specs.declared.history.Step.{Step}
use Rattle.sector_disk.specs.declared.history.Step.TheVariants.{Replaced, Settled}
use Rattle.sector_disk.proofs.Undone.{length-before}

-- so many writes of the sector are counted, and the others are still to come
abbrev pub IsCounted : List Step → ℕ → ℕ → ℕ → Type 0
IsCounted steps n i count = (count ≤ i) × (count + length (replaced_of (drop i steps) n) ≡ length (replaced_of steps n))

-- the content that is looked for is the one of number `left` among those still to come
pub record IsLeft (steps : List Step) (n number : ℕ) (last : List ℕ) (i left : ℕ) : Type 0 where
  pub same : get_or (replaced_of (drop i steps) n ++ last ∷ []) left [] ≡ get_or (replaced_of steps n ++ last ∷ []) number []
  pub few : left ≤ length (replaced_of (drop i steps) n)

-- ---- what the steps from one on replaced in a sector
module _ (steps : List Step) (n i : ℕ) (below : i < length steps) where
  first_of : (step : Step) → get_or steps i (Replaced 0 []) ≡ step
      → replaced_of (drop i steps) n ≡ replaced_of (step ∷ drop (i + 1) steps) n
  first_of step is =
      at_drop_more (λ l. replaced_of l n) steps i (Replaced 0 []) below
      ∙ ap (λ (s : Step). replaced_of (s ∷ drop (i + 1) steps) n) is

  module _ (k : ℕ) (content : List ℕ) (is : get_or steps i (Replaced 0 []) ≡ Replaced k content) where
    abbrev rest : List (List ℕ)
    rest = replaced_of (drop (i + 1) steps) n

    abbrev with_it : Bool → List (List ℕ)
    with_it b = if b then content ∷ rest else rest

    if_written : (b : Bool) → nat_eq k n ≡ b → replaced_of (drop i steps) n ≡ with_it b
    if_written b same = first_of (Replaced k content) is ∙ ap with_it same

    pub one_more : k ≡ n → replaced_of (drop i steps) n ≡ content ∷ replaced_of (drop (i + 1) steps) n
    one_more here = if_written true (⊎_elim (λ same. same.0) (λ other. absurd (other.1 here)) (eqb_tells k n))

    pub none_more : k ≢ n → replaced_of (drop i steps) n ≡ replaced_of (drop (i + 1) steps) n
    none_more other =
        if_written false (⊎_elim (λ same. absurd (other same.1)) (λ none. none.0) (eqb_tells k n))

  pub sync_more : get_or steps i (Replaced 0 []) ≡ Settled
      → replaced_of (drop i steps) n ≡ replaced_of (drop (i + 1) steps) n
  sync_more is = first_of Settled is

module _ {steps : List Step} {n number : ℕ} {last : List ℕ} {i left : ℕ}
    (so : IsLeft steps n number last i left) where
  pub left_found : (content : List ℕ) (others : List (List ℕ))
      → replaced_of (drop i steps) n ≡ content ∷ others → left ≡ 0
      → content ≡ get_or (replaced_of steps n ++ last ∷ []) number []
  left_found content others more none =
      ap (λ (l : List (List ℕ)). get_or (l ++ last ∷ []) 0 []) (sym more)
      ∙ ap (λ j. get_or (replaced_of (drop i steps) n ++ last ∷ []) j []) (sym none) ∙ so.same

  pub left_passed : (content : List ℕ) (next : ℕ)
      → replaced_of (drop i steps) n ≡ content ∷ replaced_of (drop (i + 1) steps) n → left ≢ 0
      → next ≡ left - 1 → IsLeft steps n number last (i + 1) next
  left_passed content next more some is =
      let few = so.few in
      let after : suc next ≡ left = omega (arith, some, is) in
      record {
        same =
            ap (λ (l : List (List ℕ)). get_or (l ++ last ∷ []) (suc next) []) (sym more)
            ∙ ap (λ j. get_or (replaced_of (drop i steps) n ++ last ∷ []) j []) after ∙ so.same;
        few = omega (arith, few, after, ap (λ (l : List (List ℕ)). length l) more);
      }

  pub left_stays : (next : ℕ) → replaced_of (drop i steps) n ≡ replaced_of (drop (i + 1) steps) n
      → next ≡ left → IsLeft steps n number last (i + 1) next
  left_stays next same is =
      let few = so.few in
      record {
        same =
            ap (λ (l : List (List ℕ)). get_or (l ++ last ∷ []) next []) (sym same)
            ∙ ap (λ j. get_or (replaced_of (drop i steps) n ++ last ∷ []) j []) is ∙ so.same;
        few = omega (arith, few, is, ap (λ (l : List (List ℕ)). length l) same);
      }

  pub left_none : length steps ≤ i → last ≡ get_or (replaced_of steps n ++ last ∷ []) number []
  left_none past =
      let none = at_drop_all (λ l. replaced_of l n) steps i past in
      let few = so.few in
      let zero : 0 ≡ left = omega (arith, few, ap (λ (l : List (List ℕ)). length l) none) in
      ap (λ (l : List (List ℕ)). get_or (l ++ last ∷ []) 0 []) (sym none)
      ∙ ap (λ j. get_or (replaced_of (drop i steps) n ++ last ∷ []) j []) zero ∙ so.same

-- ---- what a stop picks from
pub choices_replaced : (seen : Image) (steps : List Step) (n : ℕ) → n < length seen → choices (held_before seen steps) n ≡ replaced_of steps n ++ sector seen n ∷ []
choices_replaced seen [] n below = refl
choices_replaced seen (Settled ∷ steps) n below = choices_replaced seen steps n below
choices_replaced seen (Replaced k content ∷ steps) n below =
    let was = before seen steps in
    let later = writes_to (events_of seen steps) n in
    let others = replaced_of steps n in
    let written : Bool → List (List ℕ) = λ b. if b then sector was k ∷ later else later in
    let replaced : Bool → List (List ℕ) = λ b. if b then content ∷ others else others in
    ⊎_elim
    (λ here.
    let at_sector : n ≡ k = sym here.1 in
    ap (λ (c : List ℕ). c ∷ written (nat_eq k n)) (get_or-set_at was k n content [] at_sector (omega (arith, below, at_sector, length-before seen steps)))
    ∙ ap (λ (b : Bool). content ∷ written b) here.0 ∙ ap (λ j. content ∷ sector was j ∷ later) here.1
    ∙ ap (λ (l : List (List ℕ)). content ∷ l) (choices_replaced seen steps n below)
    ∙ ap (λ (b : Bool). replaced b ++ sector seen n ∷ []) (sym here.0))
    (λ other.
    ap (λ (c : List ℕ). c ∷ written (nat_eq k n)) (get_or-set_other was k n content [] (λ same. other.1 (sym same)))
    ∙ ap (λ (b : Bool). sector was n ∷ written b) other.0 ∙ choices_replaced seen steps n below
    ∙ ap (λ (b : Bool). replaced b ++ sector seen n ∷ []) (sym other.0))
    (eqb_tells k n)

-- the next byte picks one of the contents of each of the first n sectors
pub record PicksSo (seen image : Image) (steps : List Step) (choice : List ℕ) (n picked : ℕ) : Type 0 where
  pub count : picked ≡ written_before (held_before seen steps) n
  pub few : picked ≤ n
  pub each : (k : ℕ) → k < n → k < length seen
      → sector image k ≡ get_or (choices (held_before seen steps) k) (get_or choice (written_before (held_before seen steps) k) 0 % length (choices (held_before seen steps) k)) []

pub picks_none : (seen : Image) (steps : List Step) (choice : List ℕ) → PicksSo seen seen steps choice 0 0
picks_none seen steps choice = record { count = refl; few = omega arith; each = λ k below fits. absurd (omega (arith, below)) }

-- as many contents as writes, and one more
choices_count : (seen : Image) (steps : List Step) (n : ℕ) → n < length seen → length (choices (held_before seen steps) n) ≡ length (replaced_of steps n) + 1
choices_count seen steps n below =
    ap (λ (l : List (List ℕ)). length l) (choices_replaced seen steps n below) ∙ length-append (replaced_of steps n) (sector seen n ∷ [])

writes_count : (seen : Image) (steps : List Step) (n : ℕ) → n < length seen → length (writes_to (events_of seen steps) n) ≡ length (replaced_of steps n)
writes_count seen steps n below = omega (arith, choices_count seen steps n below)

picks_seen : (seen image : Image) (steps : List Step) (n : ℕ) (number : ℕ) (content : List ℕ) → n < length seen → sector image n ≡ sector seen n
    → content ≡ get_or (replaced_of steps n ++ sector image n ∷ []) number [] → content ≡ get_or (choices (held_before seen steps) n) number []
picks_seen seen image steps n number content below rest is =
    is ∙ ap (λ (c : List ℕ). get_or (replaced_of steps n ++ c ∷ []) number []) rest ∙ ap (λ (l : List (List ℕ)). get_or l number []) (sym (choices_replaced seen steps n below))

written_more : (held : Held) (n : ℕ) → written_before held (n + 1) ≡ written_before held n + min 1 (length (writes_to held.pending n))
written_more held n = ap (λ m. written_before held m) (let next : n + 1 ≡ suc n = omega arith in next)

-- a sector that was written
pub picks_written : (seen image later : Image) (steps : List Step) (choice : List ℕ) (n picked count byte number : ℕ) (content : List ℕ) → n < length seen → length image ≡ length seen
    → sector image n ≡ sector seen n → count ≡ length (replaced_of steps n) → 0 < count → byte ≡ get_or choice picked 0 → number ≡ byte % (count + 1)
    → content ≡ get_or (replaced_of steps n ++ sector image n ∷ []) number [] → later ≡ slice_set image n content → PicksSo seen image steps choice n picked
    → PicksSo seen later steps choice (n + 1) (picked + 1)
picks_written seen image later steps choice n picked count byte number content below size rest counted some byte_is number_is content_is put so = record {
  count = omega (arith, so.count, written_more (held_before seen steps) n, writes_count seen steps n below, counted, some);
  few = let few = so.few in omega (arith, few);
  each = λ k early fits. elim (cases_eq k n) [
    | inl here ↦
        let held = held_before seen steps in
        let picks : number ≡ get_or choice (written_before held n) 0 % length (choices held n) =
        number_is ∙ ap (λ b. b % (count + 1)) (byte_is ∙ ap (λ j. get_or choice j 0) so.count)
        ∙ ap (λ m. get_or choice (written_before held n) 0 % m) (let same : count + 1 ≡ length (choices held n) = omega (arith, counted, choices_count seen steps n below) in same) in
        ap (λ (i : Image). sector i k) put ∙ get_or-set_at image n k content [] here (omega (arith, fits, size, here)) ∙ picks_seen seen image steps n number content below rest content_is
        ∙ ap (λ j. get_or (choices held n) j []) picks
        ∙ ap (λ j. get_or (choices held j) (get_or choice (written_before held j) 0 % length (choices held j)) []) (sym here)
    | inr other ↦ ap (λ (i : Image). sector i k) put ∙ get_or-set_other image n k content [] other ∙ so.each k (omega (arith, early, other)) fits
  ];
}

-- and one that wasn't
pub picks_past : (seen image : Image) (steps : List Step) (choice : List ℕ) (n picked count : ℕ) → n < length seen
    → sector image n ≡ sector seen n → count ≡ length (replaced_of steps n) → count ≡ 0 → PicksSo seen image steps choice n picked → PicksSo seen image steps choice (n + 1) picked
picks_past seen image steps choice n picked count below rest counted none so = record {
  count = omega (arith, so.count, written_more (held_before seen steps) n, writes_count seen steps n below, counted, none);
  few = let few = so.few in omega (arith, few);
  each = λ k early fits. elim (cases_eq k n) [
    | inl here ↦
        let held = held_before seen steps in
        let one : length (choices held n) ≡ 1 = omega (arith, choices_count seen steps n below, counted, none) in
        let empty : replaced_of steps n ≡ [] = nil_from_length (replaced_of steps n) (sym counted ∙ none) in
        let first : get_or choice (written_before held n) 0 % length (choices held n) ≡ 0 = ap (λ m. get_or choice (written_before held n) 0 % m) one ∙ omega arith in
        ap (λ j. sector image j) here ∙ rest
        ∙ sym (ap (λ j. get_or (choices held n) j []) first ∙ ap (λ (l : List (List ℕ)). get_or l 0 []) (choices_replaced seen steps n below ∙ ap (λ (l : List (List ℕ)). l ++ sector seen n ∷ []) empty))
        ∙ ap (λ j. get_or (choices held j) (get_or choice (written_before held j) 0 % length (choices held j)) []) (sym here)
    | inr other ↦ so.each k (omega (arith, early, other)) fits
  ];
}

-- so all are picked
pub picks_all : (seen image : Image) (steps : List Step) (choice : List ℕ) (n picked : ℕ) → length image ≡ length seen → length seen ≤ n → PicksSo seen image steps choice n picked
    → IsPicked (held_before seen steps) choice image
picks_all seen image steps choice n picked size end so = record {
  size = size ∙ sym (length-before seen steps);
  each = λ k below. so.each k (omega (arith, below, end, length-before seen steps)) (omega (arith, below, length-before seen steps));
}

-- Steps that follow one another.
use Rattle.std.proofs.Common.{◌≡◌, ℕ, ◌+◌, ◌<◌, ◌≤◌, sym, ap, subst, ◌∙◌, refl, arith, inl, inr}
use Rattle.std.specs.Prelude.{nat_lt, if◌then◌else◌}
use Rattle.std.proofs.lemmas.Bool.{cases_eq, cases_lt, le-ltb, lt-ltb}
use Rattle.bit_alloc.specs.Chains.{IsChain}

-- ---- places
-- what stands there up to place i, and then something else
abbrev with_next : {A : Type 0} → (ℕ → A) → ℕ → (ℕ → A) → ℕ → A
with_next before i after j = if nat_lt i j then after j else before j

up_to : {A : Type 0} (before after : ℕ → A) (i j : ℕ) → j ≤ i → with_next before i after j ≡ before j
up_to before after i j le = rw (le-ltb i j le) refl

past : {A : Type 0} (before after : ℕ → A) (i j : ℕ) → i < j → with_next before i after j ≡ after j
past before after i j lt = rw (lt-ltb i j lt) refl

-- ---- chains
-- no step
pub chain_none : {A : Type 0} {Step : ℕ → A → A → Type 0} {from : ℕ} {x : A} → IsChain Step from from x x
chain_none {x = x} = record { until = λ i. x; first = refl; last = refl; each = λ i low high. absurd (omega (arith, low, high)) }

-- the steps say something else too
pub chain_weaker : {A : Type 0} {Step Other : ℕ → A → A → Type 0} {from end : ℕ} {old new : A} → ((i : ℕ) (x y : A) → i < end → Step i x y → Other i x y) → IsChain Step from end old new
    → IsChain Other from end old new
chain_weaker says c = record { until = c.until; first = c.first; last = c.last; each = λ i low high. says i (c.until i) (c.until (i + 1)) high (c.each i low high) }

-- those up to a place, and then the next
pub chain_joined : {A : Type 0} {Step : ℕ → A → A → Type 0} {from next end : ℕ} {old mid new : A} → IsChain Step from next old mid → from ≤ next → next < end → IsChain Step next end mid new
    → IsChain Step from end old new
chain_joined {A} {Step} {from} {next} {end} a low more b =
    let before : ℕ → A = a.until in
    let after : ℕ → A = b.until in
    record {
      until = with_next before next after;
      first = up_to before after next from low ∙ a.first;
      last = past before after next end more ∙ b.last;
      each = λ j ge lt. elim (cases_lt j next) [
        | inl earlier ↦
            subst (λ (y : A). Step j (with_next before next after j) y) (sym (up_to before after next (j + 1) (omega (arith, earlier))))
            (subst (λ (x : A). Step j x (before (j + 1))) (sym (up_to before after next j (omega (arith, earlier)))) (a.each j ge earlier))
        | inr later ↦
            subst (λ (y : A). Step j (with_next before next after j) y) (sym (past before after next (j + 1) (omega (arith, later))))
            (subst (λ (x : A). Step j x (after (j + 1))) (sym (here j later)) (b.each j later lt))
      ];
    }
  where
    here : (j : ℕ) → next ≤ j → with_next a.until next b.until j ≡ b.until j
    here j later = elim (cases_eq j next) [
      | inl e ↦ up_to a.until b.until next j (omega (arith, e)) ∙ ap a.until e ∙ a.last ∙ sym b.first ∙ ap b.until (sym e)
      | inr ne ↦ past a.until b.until next j (omega (arith, later, ne))
    ]

-- one step
chain_of_one : {A : Type 0} {Step : ℕ → A → A → Type 0} (i : ℕ) (old new : A) → Step i old new → IsChain Step i (i + 1) old new
chain_of_one {A} {Step} i old new step = record {
  until = with_next (λ j. old) i (λ j. new);
  first = up_to (λ j. old) (λ j. new) i i (omega arith);
  last = past (λ j. old) (λ j. new) i (i + 1) (omega arith);
  each = λ j ge lt.
      let is : i ≡ j = omega (arith, ge, lt) in
      subst (λ (m : ℕ). Step m (with_next (λ j. old) i (λ j. new) m) (with_next (λ j. old) i (λ j. new) (m + 1))) is
      (subst (λ (y : A). Step i (with_next (λ j. old) i (λ j. new) i) y) (sym (past (λ j. old) (λ j. new) i (i + 1) (omega arith)))
      (subst (λ (x : A). Step i x new) (sym (up_to (λ j. old) (λ j. new) i i (omega arith))) step));
}

-- one step more
pub chain_one : {A : Type 0} {Step : ℕ → A → A → Type 0} {from i : ℕ} {old mid new : A} → IsChain Step from i old mid → from ≤ i → Step i mid new → IsChain Step from (i + 1) old new
chain_one {i = i} {mid = mid} {new} so_far low step = chain_joined so_far low (omega arith) (chain_of_one i mid new step)

-- Readers and writers that remember whether a call of them has failed.
--     Remembers        what one call does
--     FailsWhere        one has failed exactly where something is told
use Rattle.std.specs.Prelude.{◌≡◌, Bool, IsTrue, Result, MatchResult}

-- A call that fails is remembered, and no other one.
abbrev pub Remembers : {T E : Type 0} → Bool → Bool → Result T E → Type 0
Remembers old new result = MatchResult result (λ _. new ≡ old) (λ _. IsTrue new)

-- One has failed where this is told; and else none has failed since.
pub record FailsWhere (old new : Bool) (Told : Type 0) : Type 0 where
  pub failed : Told → IsTrue new
  pub same : (Told → ⊥) → new ≡ old

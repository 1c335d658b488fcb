-- Steps that follow one another.
--     IsChain        each begins where the one before it ends
use Rattle.std.specs.Prelude.{◌≡◌, ℕ, ◌+◌, ◌<◌, ◌≤◌}

-- a step for each place from `from` on, before place `end`, that lead from old to new
pub record IsChain {A : Type 0} (Step : ℕ → A → A → Type 0) (from end : ℕ) (old new : A) : Type 0 where
  -- what there is once the steps before place i are done
  pub until : ℕ → A
  pub first : until from ≡ old
  pub last : until end ≡ new
  pub each : (i : ℕ) → from ≤ i → i < end → Step i (until i) (until (i + 1))

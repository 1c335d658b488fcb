use Rattle.std.proofs.Common.{◌≡◌, ◌<◌, ℕ, Contains, None, get_or}
use Rattle.free_counts.specs.Known.{count_known}
use Rattle.free_counts.proofs.FreeCounts.forget.Given as goal

abbrev pub invariant-loop-n : goal.invariant-loop-n
invariant-loop-n l = record {
  here : (k : ℕ) → k < l.n-index → count_known l.self (get_or l.sectors k 0) ≡ None;
  others : (n : ℕ) → (Contains l.sectors n → ⊥) → count_known l.self n ≡ count_known l.initial.self n;
}

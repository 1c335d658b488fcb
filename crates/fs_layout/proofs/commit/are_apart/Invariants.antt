use Rattle.std.proofs.Common.{◌≡◌, ◌<◌, ℕ, get_or}
use Rattle.fs_layout.proofs.commit.are_apart.Given as goal

abbrev pub invariant-loop-i : goal.invariant-loop-i
invariant-loop-i l = (a b d : ℕ) → a < b → b < l.i → get_or l.targets a d ≡ get_or l.targets b d → ⊥

abbrev pub invariant-loop-j : goal.invariant-loop-j
invariant-loop-j l = (a d : ℕ) → a < l.j → get_or l.targets a d ≡ get_or l.targets l.i d → ⊥

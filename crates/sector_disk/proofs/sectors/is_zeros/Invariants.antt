use Rattle.std.proofs.Common.{◌≡◌, ◌<◌, ℕ, get_or, IsTrue, ◌↔◌}
use Rattle.sector_disk.proofs.sectors.is_zeros.Given as goal

abbrev pub invariant-loop-byte : goal.invariant-loop-byte
invariant-loop-byte l = IsTrue l.zero ↔ ((i : ℕ) → i < l.byte-index → get_or l.content i 0 ≡ 0)

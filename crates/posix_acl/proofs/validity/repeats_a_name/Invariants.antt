use Rattle.std.proofs.Common.{◌≡◌, ℕ, suc, ◌<◌, false, get_or}
use Rattle.posix_acl.specs.Order.{same_name}
use Rattle.posix_acl.proofs.Ordering.{blank}
use Rattle.posix_acl.proofs.validity.repeats_a_name.Given as goal

-- neighbours so far have different names
abbrev pub invariant-loop-next : goal.invariant-loop-next
invariant-loop-next l = (k : ℕ) → suc k < l.next → same_name (get_or l.sorted k blank) (get_or l.sorted (suc k) blank) ≡ false

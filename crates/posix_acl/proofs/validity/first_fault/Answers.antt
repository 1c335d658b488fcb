use Rattle.std.proofs.Common.{rules}
use Rattle.posix_acl.specs.Faults.{first_fault}
use Rattle.posix_acl.proofs.validity.first_fault.Goals as goal

pub returns-then-sorted-gt-MAX_ENTRIES : goal.returns-then-sorted-gt-MAX_ENTRIES
unfolding first_fault
returns-then-sorted-gt-MAX_ENTRIES c = search rules

pub returns-else-sorted-gt-MAX_ENTRIES : goal.returns-else-sorted-gt-MAX_ENTRIES
unfolding first_fault
returns-else-sorted-gt-MAX_ENTRIES c = search rules

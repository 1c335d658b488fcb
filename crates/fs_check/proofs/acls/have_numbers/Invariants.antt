use Rattle.std.proofs.Common.{◌≡◌, take, map}
use Rattle.posix_acl.specs.Entries.{numbers_of}
use Rattle.fs_check.proofs.acls.have_numbers.Given as goal

abbrev pub invariant-loop-i : goal.invariant-loop-i
invariant-loop-i l = map numbers_of (take l.i l.entries) ≡ take l.i l.numbers

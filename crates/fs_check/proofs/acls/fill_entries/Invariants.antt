use Rattle.std.proofs.Common.{◌≡◌, take, map}
use Rattle.posix_acl.specs.Entries.{numbers_of}
use Rattle.fs_check.proofs.acls.fill_entries.Given as goal

abbrev pub invariant-loop-one : goal.invariant-loop-one
invariant-loop-one l = map numbers_of l.entries.items ≡ take l.one-index l.numbers

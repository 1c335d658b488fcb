use Rattle.std.proofs.Common.{◌≡◌, take, map}
use Rattle.posix_acl.specs.Entries.{numbers_of}
use Rattle.inode_table.proofs.sectors.acl_of.Given as goal

abbrev pub invariant-loop-numbers : goal.invariant-loop-numbers
invariant-loop-numbers l = map numbers_of l.entries.items ≡ take l.numbers-index l.numbers-items

use Rattle.std.proofs.Common.{◌≡◌, take, map, length}
use Rattle.posix_acl.specs.Entries.{numbers_of}
use Rattle.inode_table.proofs.sectors.sector_of.Given as goal

abbrev pub invariant-loop-i : goal.invariant-loop-i
invariant-loop-i l = record { len : length l.numbers ≡ 32; so_far : take l.i l.numbers ≡ map numbers_of (take l.i l.entries) }

use Rattle.std.proofs.Common.{◌≡◌, map, vec_len}
use Rattle.posix_acl.specs.Entries.{numbers_of}
use Rattle.fuse_protocol.specs.AclValues.{first_numbers}
use Rattle.fuse_protocol.proofs.acl_value.read_acl_value.Given as goal

abbrev pub invariant-loop-i : goal.invariant-loop-i
invariant-loop-i l = record { len : vec_len l.entries ≡ l.i; numbers : map numbers_of l.entries.items ≡ first_numbers l.value l.i }

use Rattle.std.proofs.Common.{◌≡◌, ◌+◌, ◌*◌, ◌≤◌, ◌++◌, take, vec_len, vec_capacity}
use Rattle.fuse_protocol.specs.Bytes.{bytes_of_u64s}
use Rattle.fuse_protocol.proofs.bytes.push_u64s.Given as goal

abbrev pub invariant-loop-x : goal.invariant-loop-x
invariant-loop-x l = record {
  items : l.to.items ≡ l.initial.to.items ++ bytes_of_u64s (take l.x-index l.xs);
  len : vec_len l.to ≡ vec_len l.initial.to + 8 * l.x-index;
  capacity : vec_capacity l.initial.to ≤ vec_capacity l.to;
}

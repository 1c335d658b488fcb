use Rattle.std.proofs.Common.{◌≡◌, ◌++◌, take}
use Rattle.fuse_protocol.specs.Bytes.{bytes_of_u16s}
use Rattle.fuse_protocol.proofs.bytes.push_u16s.Given as goal

abbrev pub invariant-loop-x : goal.invariant-loop-x
invariant-loop-x l = l.to.items ≡ l.initial.to.items ++ bytes_of_u16s (take l.x-index l.xs)

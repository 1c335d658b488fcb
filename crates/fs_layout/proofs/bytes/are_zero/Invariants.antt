use Rattle.std.proofs.Common.{◌≡◌, take}
use Rattle.fs_layout.specs.Bytes.{are_zero}
use Rattle.fs_layout.proofs.bytes.are_zero.Given as goal

abbrev pub invariant-loop-byte : goal.invariant-loop-byte
invariant-loop-byte l = l.zero ≡ are_zero (take l.byte-index l.from)

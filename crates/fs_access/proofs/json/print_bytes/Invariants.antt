use Rattle.std.proofs.Common.{take}
use Rattle.std.specs.List.{flat_map}
use Rattle.std.specs.Io.KnownBytes.{Appends}
use Rattle.fs_access.specs.Objects.{quoted_byte}
use Rattle.fs_access.proofs.json.print_bytes.Given as goal

abbrev pub invariant-loop-byte : goal.invariant-loop-byte
invariant-loop-byte g l = Appends (g.O.Write.contents l.initial.out) (g.O.Write.contents l.out) (flat_map quoted_byte (take l.byte-index l.bytes))

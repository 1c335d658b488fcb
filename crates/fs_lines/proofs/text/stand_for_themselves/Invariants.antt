use Rattle.std.proofs.Common.{◌≡◌, take}
use Rattle.std.specs.List.{list_all}
use Rattle.fs_lines.specs.Texts.{stands_for_itself}
use Rattle.fs_lines.proofs.text.stand_for_themselves.Given as goal

abbrev pub invariant-loop-byte : goal.invariant-loop-byte
invariant-loop-byte l = l.all ≡ list_all stands_for_itself (take l.byte-index l.bytes)

use Rattle.std.proofs.Common.{◌≡◌, take}
use Rattle.std.specs.List.{list_all}
use Rattle.fs_lines.specs.Lines.{is_printable}
use Rattle.fs_lines.proofs.parse.is_clean.Given as goal

abbrev pub invariant-loop-byte : goal.invariant-loop-byte
invariant-loop-byte l = l.clean ≡ list_all is_printable (take l.byte-index l.line)

use Rattle.std.proofs.Common.{◌≡◌, ◌++◌, length, string_bytes}
use Rattle.fs_lines.specs.Texts.{bytes_text}
use Rattle.fs_lines.proofs.text.push_bytes.Given as goal

abbrev pub invariant-loop-rest : goal.invariant-loop-rest
invariant-loop-rest l = string_bytes l.text ++ bytes_text l.rest ≡ string_bytes l.initial.text ++ bytes_text l.fn.bytes

abbrev pub decreases-loop-rest : goal.decreases-loop-rest
decreases-loop-rest l = length l.rest

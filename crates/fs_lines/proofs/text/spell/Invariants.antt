use Rattle.std.proofs.Common.{◌≡◌, ◌*◌, ◌≤◌, length, take}
use Rattle.fs_lines.specs.Texts.{bytes_text}
use Rattle.fs_lines.proofs.text.spell.Given as goal

abbrev pub invariant-loop-byte : goal.invariant-loop-byte
invariant-loop-byte l = (l.len ≤ 3 * l.byte-index) × (take l.len l.text ≡ bytes_text (take l.byte-index l.bytes)) × (length l.text ≡ length l.initial.text)

use Rattle.std.proofs.Common.{◌≡◌, length}
use Rattle.fs_lines.specs.Lines.{unescaped}
use Rattle.fs_lines.proofs.Escapes.{with_front}
use Rattle.fs_lines.proofs.words.unescaped.Given as goal

abbrev pub invariant-loop-at : goal.invariant-loop-at
invariant-loop-at l = with_front l.bytes.items (unescaped l.rest) ≡ unescaped l.fn.text

abbrev pub decreases-loop-at : goal.decreases-loop-at
decreases-loop-at l = length l.rest

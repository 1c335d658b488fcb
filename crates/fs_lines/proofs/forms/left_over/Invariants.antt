use Rattle.std.proofs.Common.{◌≡◌, take}
use Rattle.fs_lines.specs.Words.{left_over, flag_letters}
use Rattle.fs_lines.proofs.forms.left_over.Given as goal

abbrev pub invariant-loop-letter : goal.invariant-loop-letter
invariant-loop-letter l = l.rest ≡ left_over (take l.letter-index flag_letters) l.fn.word

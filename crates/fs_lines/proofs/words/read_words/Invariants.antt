use Rattle.std.proofs.Common.{◌≡◌, length}
use Rattle.fs_lines.specs.Lines.{each, word_bytes, words_of}
use Rattle.fs_lines.proofs.Escapes.{with_front}
use Rattle.fs_lines.proofs.words.read_words.Given as goal

abbrev pub invariant-loop-word : goal.invariant-loop-word
invariant-loop-word l = with_front l.words.items (each word_bytes (words_of l.rest)) ≡ each word_bytes (words_of l.fn.line)

abbrev pub decreases-loop-word : goal.decreases-loop-word
decreases-loop-word l = length l.rest

-- Faults of lines, and what they come from.
use Rattle.std.proofs.Common.{◌≡◌, ◌≢◌, ◌⊎◌, inl, inr, refl, true, List, [], ℕ, Result, Err, sym, ap, subst, ◌∙◌}
use Rattle.fs_shell.specs.declared.answer.Answer.TheVariants.{Fault}
use Rattle.fs_lines.specs.declared.line.Line.{Line}
use Rattle.fs_lines.specs.declared.line.LineFault.{LineFault}
use Rattle.fs_lines.specs.declared.line.LineFault.TheVariants.{TooLong, BadByte, BadEscape, UnknownCommand, WordCount, BadNumber, BadAcl, OutOfMemory}
use Rattle.fs_lines.specs.Commands.{has_words, LineSays}
use Rattle.fs_shell.specs.Runs.{LineAnswers, is_faulty, lacks_memory}

wants_memory : (fault : LineFault) → (fault ≡ OutOfMemory) ⊎ (fault ≢ OutOfMemory)
wants_memory TooLong = inr (λ e. cc)
wants_memory BadByte = inr (λ e. cc)
wants_memory BadEscape = inr (λ e. cc)
wants_memory UnknownCommand = inr (λ e. cc)
wants_memory WordCount = inr (λ e. cc)
wants_memory BadNumber = inr (λ e. cc)
wants_memory BadAcl = inr (λ e. cc)
wants_memory OutOfMemory = inl refl

-- a fault is answered for what is wrong, or for want of memory
pub answers_fault : (line : List ℕ) (fault : LineFault) (read : Result Line LineFault)
    → read ≡ Err fault → (fault ≢ OutOfMemory → LineSays line (Err fault)) → (read ≡ Err OutOfMemory → has_words line ≡ true)
    → LineAnswers line (Fault fault) [] []
answers_fault line fault read is said memory =
    elim (wants_memory fault) [
      | inl lost ↦ subst (λ (f : LineFault). LineAnswers line (Fault f) [] []) (sym lost) (lacks_memory (memory (is ∙ ap Err lost)))
      | inr other ↦ is_faulty fault (said other)
    ]

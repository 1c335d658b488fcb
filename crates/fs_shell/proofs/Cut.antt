-- A line that is too long may be cut after the byte that makes it so.
use Rattle.std.proofs.Common.{◌≡◌, ℕ, ◌<◌, nat_lt, true, List, length, take, Result, Err, refl, sym, ap, subst, ◌∙◌, inl, inr, arith, length-take, take_all}
use Rattle.std.proofs.lemmas.Bool.{cases_Bool, true≢false}
use borrow.Author.Tests.{ltb-false, ltb-true, lt-ltb}
use Rattle.fs_model.specs.declared.event.Event.{Event}
use Rattle.fs_model.specs.declared.event.EventReply.{EventReply}
use Rattle.fs_shell.specs.declared.answer.Answer.{Answer}
use Rattle.fs_lines.specs.declared.line.Line.{Line}
use Rattle.fs_lines.specs.declared.line.LineFault.{LineFault}
use Rattle.fs_lines.specs.declared.line.LineFault.TheVariants.{TooLong}
use Rattle.fs_lines.specs.Commands.{has_words, line_value, IsSaid, LineSays}
use Rattle.fs_shell.specs.Scripts.{kept_front}
use Rattle.fs_shell.specs.Runs.{LineAnswers, is_blank, is_faulty, is_performed, lacks_memory}

too_long : (line : List ℕ) → nat_lt 4096 (length line) ≡ true → line_value line ≡ Err TooLong
unfolding line_value
too_long line long = rw long refl

pub cut_value : (whole : List ℕ) → line_value (kept_front whole) ≡ line_value whole
cut_value whole =
    elim (cases_Bool (nat_lt 4097 (length whole))) [
      | inl long ↦
          let above : 4097 < length whole = ltb-true _ _ long in
          let more : nat_lt 4096 (length whole) ≡ true = lt-ltb 4096 (length whole) (omega arith) in
          let full : nat_lt 4096 (length (take 4097 whole)) ≡ true = lt-ltb 4096 (length (take 4097 whole)) (omega (arith, length-take 4097 whole)) in
          too_long (kept_front whole) full ∙ sym (too_long whole more)
      | inr short ↦ ap line_value (take_all 4097 whole (ltb-false _ _ short))
    ]

-- one that is read word by word wasn't cut
cut_words : (whole : List ℕ) → has_words (kept_front whole) ≡ true → has_words whole ≡ true
cut_words whole has =
    elim (cases_Bool (nat_lt 4097 (length whole))) [
      | inl long ↦
          let above : 4097 < length whole = ltb-true _ _ long in
          let full : nat_lt 4096 (length (take 4097 whole)) ≡ true = lt-ltb 4096 (length (take 4097 whole)) (omega (arith, length-take 4097 whole)) in
          absurd (true≢false (sym (rw full at has)))
      | inr short ↦ sym (ap has_words (take_all 4097 whole (ltb-false _ _ short))) ∙ has
    ]

cut_says : (line whole : List ℕ) (result : Result Line LineFault) → line ≡ kept_front whole → LineSays line result → LineSays whole result
cut_says line whole result kept says = subst (λ said. IsSaid said result) (ap line_value kept ∙ cut_value whole) says

pub cut_answers : (line whole : List ℕ) (answer : Answer) (es : List Event) (replies : List EventReply) → line ≡ kept_front whole
    → LineAnswers line answer es replies → LineAnswers whole answer es replies
cut_answers line whole _ _ _ kept (is_blank says) = is_blank (cut_says line whole _ kept says)
cut_answers line whole _ _ _ kept (is_faulty fault says) = is_faulty fault (cut_says line whole _ kept says)
cut_answers line whole _ _ _ kept (lacks_memory has) = lacks_memory (cut_words whole (ap has_words (sym kept) ∙ has))
cut_answers line whole _ _ _ kept (is_performed e reply says) = is_performed e reply (cut_says line whole _ kept says)

use Rattle.std.proofs.Common.{◌≡◌, ℕ, Bool, List, length, get_or, Option, None, Some, sym, ◌∙◌, arith}
use Rattle.std.specs.List.{position_or_len}
use Rattle.std.specs.Option.{unwrap_or}
use Rattle.std.proofs.lemmas.Bool.{false_from_ne_true}
use Rattle.std.proofs.lemmas.List.Sums.{position_or_len_is}
use Rattle.memchr.specs.Find.{IsFirstByte, is_byte}
use Rattle.fs_lines.proofs.places.len_before.Goals as goal

before : (test : ℕ → Bool) (text : List ℕ) (place : Option ℕ) → IsFirstByte test text place → unwrap_or place (length text) ≡ position_or_len test text
before test text None none =
    sym (position_or_len_is test text (length text) 0 (omega arith) (λ k below. false_from_ne_true (test (get_or text k 0)) (none k (omega arith) below)) (λ no. absurd (omega arith)))
before test text (Some n) (first, passes) =
    sym (position_or_len_is test text n 0 (omega (arith, first.high)) (λ k below. false_from_ne_true (test (get_or text k 0)) (first.before k (omega arith) below)) (λ _. passes))

pub returns-clause-count : goal.returns-clause-count
returns-clause-count c = c.unwrap_or.ensures ∙ before (is_byte c.args.byte) c.args.text.now c.memchr.result c.memchr.ensures

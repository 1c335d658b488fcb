use Rattle.std.proofs.Common.{refl, arith, rules, inl, inr}
use Rattle.fs_lines.proofs.Escapes.{escape_read, no_escape}
use Rattle.fs_lines.proofs.words.first_escape.Goals as goal
use Rattle.fs_lines.proofs.words.first_escape.Goals.{in_default-via-then-text-lt3, in_default-via-in-92+then-is_hex_digit+else-is_hex_digit-2, in_default-via-in-92+else-is_hex_digit, in_default-via-else-text-lt3+in_default-1}

pub returns-in-92-clause-ok : goal.returns-in-92-clause-ok
returns-in-92-clause-ok c =
    escape_read c.args.text.now _ _ (omega arith) (omega arith) (cc) (cc) c.hex_value.ensures.value c.hex_value-in-92.ensures.value

pub returns-in_default-clause-err : goal.returns-in_default-clause-err
returns-in_default-clause-err c = (
  refl,
  no_escape c.args.text.now c.requires (λ long first. elim c.in_default.branch [
    | in_default-via-then-text-lt3 w ↦ absurd (search rules)
    | in_default-via-in-92+then-is_hex_digit+else-is_hex_digit-2 w ↦ inr cc
    | in_default-via-in-92+else-is_hex_digit w ↦ inl cc
    | in_default-via-else-text-lt3+in_default-1 w ↦ absurd (search rules)
  ]),
)

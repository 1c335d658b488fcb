use Rattle.std.proofs.Common.{arith, Some}
use Rattle.std.proofs.lemmas.Str.Pattern.{strip_suffix_char}
use Rattle.fs_command.proofs.Splits.{at_kibi, at_mebi, at_gibi}
use Rattle.fs_command.proofs.size.parts.Goals as goal

pub returns-in-Some-clause-only : goal.returns-in-Some-clause-only
returns-in-Some-clause-only c =
    at_kibi c.args.text.now c.in-Some.digits.now (strip_suffix_char 75 c.args.text.now (Some c.in-Some.digits) c.in-Some.ensures.cases (omega arith))

pub returns-in-Some-strip_suffix-clause-only : goal.returns-in-Some-strip_suffix-clause-only
returns-in-Some-strip_suffix-clause-only c =
    at_mebi c.args.text.now c.in-Some-strip_suffix.digits.now
    (strip_suffix_char 77 c.args.text.now (Some c.in-Some-strip_suffix.digits) c.in-Some-strip_suffix.ensures.cases (omega arith))

pub returns-in-Some-strip_suffix-2-clause-only : goal.returns-in-Some-strip_suffix-2-clause-only
returns-in-Some-strip_suffix-2-clause-only c =
    at_gibi c.args.text.now c.in-Some-strip_suffix-2.digits.now
    (strip_suffix_char 71 c.args.text.now (Some c.in-Some-strip_suffix-2.digits) c.in-Some-strip_suffix-2.ensures.cases (omega arith))

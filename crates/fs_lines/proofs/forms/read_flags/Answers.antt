use Rattle.std.specs.Prelude.{◌≡◌, ◌==◌, true, length}
use Rattle.std.proofs.Common.{rules}
use Rattle.fs_lines.specs.Words.{left_over, flag_letters}
use Rattle.fs_lines.proofs.Letters.{flags_read}
use Rattle.fs_lines.proofs.forms.read_flags.Goals as goal

pub returns : goal.returns
returns c =
    let none : (length (left_over flag_letters c.args.word.now) == 0) ≡ true = search rules in
    flags_read c.args.word.now c.contains-read.result c.contains-write.result c.contains.result c.contains-2.result c.contains-3.result c.contains-4.result
    c.contains-5.result c.contains-6.result _ none c.contains-read.ensures.value c.contains-write.ensures.value c.contains.ensures.value
    c.contains-2.ensures.value c.contains-3.ensures.value c.contains-4.ensures.value c.contains-5.ensures.value c.contains-6.ensures.value

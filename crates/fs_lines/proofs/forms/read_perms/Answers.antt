use Rattle.std.proofs.Common.{◌∙◌}
use Rattle.fs_lines.proofs.Letters.{letters_value}
use Rattle.fs_lines.proofs.forms.read_perms.Goals as goal

pub returns : goal.returns
returns c = c.ok_or.ensures.value ∙ letters_value c.args.word.now c.from_letters.result c.from_letters.ensures.found c.from_letters.ensures.only

use Rattle.fs_lines.proofs.OneMeaning.{one_thing}
use Rattle.fs_lines.proofs.laws.a_line_says_one_thing.Goals as goal

pub returns : goal.returns
returns c = one_thing

use Rattle.std.proofs.Common.{rules}
use Rattle.fs_info.proofs.printing.print_size_members.Goals as goal

pub returns : goal.returns
returns g c = rw (← c.number.ensures) (search rules)

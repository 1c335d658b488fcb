use Rattle.std.proofs.Common.{rules}
use Rattle.fs_access.proofs.json.print_error.Goals as goal

pub returns : goal.returns
returns g c = rw (← c.name-name.ensures, ← c.number-number.ensures) (search rules)

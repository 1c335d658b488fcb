use Rattle.std.proofs.Common.{rules}
use Rattle.fs_access.proofs.json.print_granted.Goals as goal

pub returns : goal.returns
returns g c = rw (← c.in_ok-rule.ensures) (search rules)

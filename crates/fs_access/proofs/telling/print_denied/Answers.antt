use Rattle.std.proofs.Common.{rules}
use Rattle.fs_access.proofs.telling.print_denied.Goals as goal

pub returns : goal.returns
returns g c = rw (← c.in_ok-place.ensures, ← c.in_ok-needed.ensures, ← c.in_ok-keeper.ensures) (search rules)

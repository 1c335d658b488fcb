use Rattle.std.proofs.Common.{arith}
use Rattle.std.proofs.lemmas.Grind.{common_steps}
use Rattle.posix_acl.proofs.acl.Acl.is_extended.Goals as goal

pub returns : goal.returns
returns c = grind (arith, common_steps)

use Rattle.std.proofs.Common.{rules}
use Rattle.posix_acl.proofs.acl.Acl.owner.Goals as goal

pub returns : goal.returns
returns c = search rules

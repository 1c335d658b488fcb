use Rattle.std.proofs.Common.{rules}
use Rattle.posix_acl.proofs.Classes.{other_read}
use Rattle.posix_acl.proofs.acl.Acl.other.Goals as goal

pub returns : goal.returns
returns c = other_read _ _ _ _ c.self.view_is c.self.invariant (search rules) c.index.ensures

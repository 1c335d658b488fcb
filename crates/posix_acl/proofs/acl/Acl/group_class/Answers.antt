use Rattle.std.proofs.Common.{rules}
use Rattle.posix_acl.proofs.Classes.{class_read}
use Rattle.posix_acl.proofs.acl.Acl.group_class.Goals as goal

pub returns : goal.returns
returns c = class_read _ _ _ _ c.self.view_is c.self.invariant (search rules) c.index.ensures

use Rattle.std.proofs.Common.{rules}
use Rattle.posix_acl.proofs.acl.Acl.write_text.Goals as goal

pub returns-clause-ok : goal.returns-clause-ok
returns-clause-ok c = search rules

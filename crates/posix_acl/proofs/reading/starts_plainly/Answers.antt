use Rattle.std.proofs.Common.{rules}
use Rattle.posix_acl.proofs.reading.starts_plainly.Goals as goal

pub returns-in-48 : goal.returns-in-48
returns-in-48 c = search rules

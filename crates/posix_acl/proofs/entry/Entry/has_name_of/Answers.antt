use Rattle.std.proofs.Common.{rules}
use Rattle.posix_acl.proofs.entry.Entry.has_name_of.Goals as goal

pub returns-then-is : goal.returns-then-is
returns-then-is c = search rules

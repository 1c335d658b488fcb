use Rattle.std.proofs.Common.{rules}
use Rattle.posix_acl.proofs.entry.Tag.from_number.Goals as goal

pub returns-in-16-clause-found : goal.returns-in-16-clause-found
returns-in-16-clause-found c = search rules

pub returns-in-16-clause-only : goal.returns-in-16-clause-only
returns-in-16-clause-only c = search rules

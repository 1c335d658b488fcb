use Rattle.std.proofs.Common.{rules}
use Rattle.posix_acl.proofs.entry.Entry.from_numbers.Goals as goal

pub returns-clause-found : goal.returns-clause-found
returns-clause-found c = search rules

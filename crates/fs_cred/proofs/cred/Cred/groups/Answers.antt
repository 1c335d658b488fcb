use Rattle.std.proofs.Common.{rules}
use Rattle.fs_cred.proofs.cred.Cred.groups.Goals as goal

pub returns-clause-all : goal.returns-clause-all
returns-clause-all c = search rules

pub returns-clause-valid : goal.returns-clause-valid
returns-clause-valid c = search rules

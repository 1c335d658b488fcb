use Rattle.std.proofs.Common.{rules}
use Rattle.fs_cred.proofs.ownership.may_chown.Goals as goal

pub returns-clause-allowed : goal.returns-clause-allowed
returns-clause-allowed c = search rules

pub returns-clause-computed : goal.returns-clause-computed
returns-clause-computed c = search rules

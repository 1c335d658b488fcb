use Rattle.std.proofs.Common.{rules}
use Rattle.fs_layout.proofs.commit.Commit.targets.Goals as goal

pub returns-clause-value : goal.returns-clause-value
returns-clause-value c = search rules

use Rattle.std.proofs.Common.{rules}
use Rattle.fs_cred.proofs.access.refused.Goals as goal

pub returns : goal.returns
returns c = search rules

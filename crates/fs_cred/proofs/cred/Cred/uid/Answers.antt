use Rattle.std.proofs.Common.{rules}
use Rattle.fs_cred.proofs.cred.Cred.uid.Goals as goal

pub returns : goal.returns
returns c = search rules

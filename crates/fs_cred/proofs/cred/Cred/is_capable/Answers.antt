use Rattle.std.proofs.Common.{rules}
use Rattle.fs_cred.proofs.cred.Cred.is_capable.Goals as goal

pub returns : goal.returns
returns c = search rules

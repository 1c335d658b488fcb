use Rattle.std.proofs.Common.{rules}
use Rattle.fs_cred.proofs.errno.Errno.number.Goals as goal

pub returns-6 : goal.returns-6
returns-6 c = search rules

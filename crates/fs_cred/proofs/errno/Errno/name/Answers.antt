use Rattle.std.proofs.Common.{rules}
use Rattle.fs_cred.proofs.errno.Errno.name.Goals as goal

pub returns-in-EACCES : goal.returns-in-EACCES
returns-in-EACCES c = search rules

use Rattle.std.proofs.Common.{rules}
use Rattle.fs_cred.proofs.refusal.Need.errno.Goals as goal

pub returns-in-Own : goal.returns-in-Own
returns-in-Own c = search rules

use Rattle.std.proofs.Common.{rules}
use Rattle.fs_cred.proofs.access.past_mask.Goals as goal

pub returns-in_default : goal.returns-in_default
returns-in_default c = search rules

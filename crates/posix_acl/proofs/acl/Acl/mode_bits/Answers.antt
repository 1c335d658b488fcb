use Rattle.std.proofs.Common.{rules}
use Rattle.posix_acl.proofs.acl.Acl.mode_bits.Goals as goal

pub returns : goal.returns
returns c = search rules

use Rattle.std.proofs.Common.{rules}
use Rattle.fs_layout.proofs.slot.is_name.Goals as goal

pub returns : goal.returns
returns c = search rules

use Rattle.std.proofs.Common.{rules}
use Rattle.fs_layout.proofs.slot.Slot.name.Goals as goal

pub returns-clause-value : goal.returns-clause-value
returns-clause-value c = search rules

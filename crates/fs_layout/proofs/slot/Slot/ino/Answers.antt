use Rattle.std.proofs.Common.{rules}
use Rattle.fs_layout.proofs.slot.Slot.ino.Goals as goal

pub returns : goal.returns
returns c = search rules

use Rattle.std.proofs.Common.{arith}
use Rattle.std.proofs.lemmas.Grind.{common_steps}
use Rattle.fs_layout.specs.Bytes.{u16_of}
use Rattle.fs_check.proofs.bitmaps.kind_field.Goals as goal

pub returns : goal.returns
unfolding u16_of
returns c = grind (arith, common_steps)

use Rattle.std.proofs.Common.{refl}
use Rattle.fs_check.proofs.TriedBits.{right_bit}
use Rattle.fs_check.proofs.bitmaps.is_right_bit.Goals as goal

pub returns : goal.returns
returns c = λ m read there. right_bit _ m _ _ _ c.has_bit.result c.is_taken.result _ refl read there c.has_bit.ensures c.is_taken.ensures

use Rattle.bit_alloc.proofs.Soundness.{free_kept}
use Rattle.bit_alloc.proofs.laws.inodes_take_no_sector.Goals as goal

pub returns : goal.returns
returns c = free_kept

use Rattle.fs_model.proofs.Taken.{free_within_bounds}
use Rattle.fs_model.proofs.laws.free_sectors_are_within_bounds.Goals as goal

pub returns : goal.returns
returns c = free_within_bounds

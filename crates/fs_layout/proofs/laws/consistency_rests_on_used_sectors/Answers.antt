use Rattle.fs_layout.proofs.Agree.{agree_consistent}
use Rattle.fs_layout.proofs.laws.consistency_rests_on_used_sectors.Goals as goal

pub returns : goal.returns
returns c = λ p old new h same. agree_consistent h same

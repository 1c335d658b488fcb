use Rattle.fs_layout.proofs.Fresh.{small_disk, fresh, fresh_is_consistent}
use Rattle.fs_layout.proofs.laws.some_image_is_consistent.Goals as goal

pub returns : goal.returns
returns c = (small_disk, fresh, fresh_is_consistent)

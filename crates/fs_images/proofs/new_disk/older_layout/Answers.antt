use Rattle.fs_images.proofs.MakingRefusals.{layouts_are_new}
use Rattle.fs_images.proofs.new_disk.older_layout.Goals as goal

pub returns-clause-value : goal.returns-clause-value
returns-clause-value c = c.geometry_of.ensures.value

pub returns-clause-of_new_disk : goal.returns-clause-of_new_disk
returns-clause-of_new_disk c = layouts_are_new _ _ _ _ c.geometry_of.ensures.value

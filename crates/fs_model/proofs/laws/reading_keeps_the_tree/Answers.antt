use Rattle.fs_model.proofs.Readings.{reading_keeps, sync_keeps}
use Rattle.fs_model.proofs.laws.reading_keeps_the_tree.Goals as goal

pub returns : goal.returns
returns c = record { reading = reading_keeps; sync = sync_keeps }

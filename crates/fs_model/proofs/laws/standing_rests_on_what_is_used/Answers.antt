use Rattle.fs_model.proofs.Rests.{standing_rests, standing_rests_on_reading}
use Rattle.fs_model.proofs.laws.standing_rests_on_what_is_used.Goals as goal

pub returns : goal.returns
returns c = record { reading = standing_rests_on_reading; sectors = standing_rests }

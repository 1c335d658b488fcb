use Rattle.fs_model.proofs.Unchanged.{nothing_to_drop, open_stays}
use Rattle.fs_model.proofs.laws.fitting_states_drop_nothing.Goals as goal

pub returns : goal.returns
returns c = record { same = nothing_to_drop; open_stays = open_stays }

use Rattle.fs_model.proofs.StepsKeep.{steps_keep}
use Rattle.fs_model.proofs.laws.steps_keep_states.Goals as goal

pub returns : goal.returns
returns c = steps_keep

use Rattle.fs_model.proofs.HandlesStay.{opened_is, handles_stay, closed_is_gone}
use Rattle.fs_model.proofs.laws.handles_stay.Goals as goal

pub returns : goal.returns
returns c = record { opened = opened_is; stay = handles_stay; gone = closed_is_gone }

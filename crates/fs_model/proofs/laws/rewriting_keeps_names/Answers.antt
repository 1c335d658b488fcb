use Rattle.fs_model.proofs.Unchanged.{rewriting_keeps}
use Rattle.fs_model.proofs.laws.rewriting_keeps_names.Goals as goal

pub returns : goal.returns
returns c = rewriting_keeps

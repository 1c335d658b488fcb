use Rattle.fs_model.proofs.Frame.{one_node_changes as law}
use Rattle.fs_model.proofs.laws.one_node_changes.Goals as goal

pub returns : goal.returns
returns c = law

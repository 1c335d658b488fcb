use Rattle.fs_model.proofs.Swept.{pruned_is_tree}
use Rattle.fs_model.proofs.laws.pruning_keeps_trees.Goals as goal

pub returns : goal.returns
returns c = pruned_is_tree

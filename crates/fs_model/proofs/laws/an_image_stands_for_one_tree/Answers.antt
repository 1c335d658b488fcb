use Rattle.fs_model.proofs.OneTree.{one_tree}
use Rattle.fs_model.proofs.laws.an_image_stands_for_one_tree.Goals as goal

pub returns : goal.returns
returns c = one_tree

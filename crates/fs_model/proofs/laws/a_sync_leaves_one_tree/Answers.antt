use Rattle.fs_model.proofs.Stable.{sync_is_kept}
use Rattle.fs_model.proofs.laws.a_sync_leaves_one_tree.Goals as goal

pub returns : goal.returns
returns c = sync_is_kept

use Rattle.host_trees.proofs.Asking.{lacks_nothing}
use Rattle.host_trees.proofs.asker.name_if_lacking.Goals as goal

pub returns-in-Ok-clause-told : goal.returns-in-Ok-clause-told
returns-in-Ok-clause-told g c = lacks_nothing _ _ _

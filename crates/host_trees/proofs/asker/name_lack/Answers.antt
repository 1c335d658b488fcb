use Rattle.host_trees.proofs.Asking.{lacks_so}
use Rattle.host_trees.proofs.asker.name_lack.Goals as goal

pub returns-clause-told : goal.returns-clause-told
returns-clause-told g c = lacks_so c.lacks.ensures.machine c.lacks.ensures.lacking

use Rattle.fs_model.proofs.Finds.{finds_are_there as law}
use Rattle.fs_model.proofs.Followed.{followed_no_link}
use Rattle.fs_model.proofs.laws.finds_are_there.Goals as goal

pub returns-clause-there : goal.returns-clause-there
returns-clause-there c = λ room t cwd n form path is there e. law room t is cwd form path there n e

pub returns-clause-followed : goal.returns-clause-followed
returns-clause-followed c = λ room t cwd n path node is d e at. followed_no_link room t is cwd path d n e node at

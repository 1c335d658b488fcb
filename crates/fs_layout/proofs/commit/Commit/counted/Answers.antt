use Rattle.fs_layout.proofs.HeaderLaw.{read_first}
use Rattle.fs_layout.proofs.commit.Commit.counted.Goals as goal

pub returns-clause-first : goal.returns-clause-first
returns-clause-first c = λ i low lt. read_first _ i _ _ _ c.get_u32s.ensures low lt

use Rattle.fs_model.proofs.Unchanged.{same_process_stays as law}
use Rattle.fs_model.proofs.laws.same_process_stays.Goals as goal

pub returns : goal.returns
returns c = law

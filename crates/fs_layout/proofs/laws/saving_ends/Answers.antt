use Rattle.std.proofs.Common.{refl}
use Rattle.fs_layout.proofs.Consistent.{saved_stays_consistent}
use Rattle.fs_layout.proofs.laws.saving_ends.Goals as goal

pub returns : goal.returns
returns c = λ p n w old mid new h lt fits changes saves.
    let is = (saved_stays_consistent h lt refl fits changes saves).1 in (is.changes, is.is)

use Rattle.fs_model.proofs.KindWords.{types_come_back, stored_kinds_agree, access_kinds_agree}
use Rattle.fs_model.proofs.laws.kinds_agree.Goals as goal

pub returns : goal.returns
returns c = record { back = types_come_back; stored = stored_kinds_agree; access = access_kinds_agree }

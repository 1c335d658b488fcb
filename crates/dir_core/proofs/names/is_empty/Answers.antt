use Rattle.std.proofs.Common.{eqb-true, eq-eqb}
use Rattle.dir_core.proofs.Pieces.{empty_at_zero, zero_where_empty}
use Rattle.dir_core.proofs.names.is_empty.Goals as goal

pub returns : goal.returns
returns c = λ version image names h. ((λ t. empty_at_zero h (eqb-true _ _ t)), λ e. eq-eqb _ _ (zero_where_empty h e))

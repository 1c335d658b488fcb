use Rattle.std.proofs.Common.{refl}
use Rattle.fs_model.specs.declared.call.Call.TheVariants.{Stat}
use Rattle.file_calls.proofs.Rows.{stat_by_path}
use Rattle.file_calls.proofs.show.stat.Goals as goal

pub returns-clause-performs : goal.returns-clause-performs
returns-clause-performs g c = c.show_path.ensures.performs (Stat c.args.path.now) (stat_by_path c.args.path.now) refl

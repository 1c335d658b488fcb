use Rattle.std.proofs.Common.{refl}
use Rattle.fs_model.specs.declared.call.Call.TheVariants.{Lstat}
use Rattle.file_calls.proofs.Rows.{lstat_by_path}
use Rattle.file_calls.proofs.show.lstat.Goals as goal

pub returns-clause-performs : goal.returns-clause-performs
returns-clause-performs g c = c.show_path.ensures.performs (Lstat c.args.path.now) (lstat_by_path c.args.path.now) refl

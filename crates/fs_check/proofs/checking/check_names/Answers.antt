use Rattle.std.proofs.Common.{refl}
use Rattle.std.proofs.lemmas.Result.{err_from_is_err_and}
use Rattle.fs_model.specs.Rules.{Slots, NamesApart}
use Rattle.fs_check.proofs.Carrying.{first_error}
use Rattle.fs_check.proofs.Failures.{found_error, both_before}
use Rattle.fs_check.proofs.checking.check_names.Goals as goal

pub returns-in_err-names-clause-passed : goal.returns-in_err-names-clause-passed
returns-in_err-names-clause-passed g c =
    first_error (g.D.Disk.state c.args.disk.now) (g.D.Disk.state c.read_names.new.disk) Slots 10 refl c.requires.opened c.requires.inodes.before _
    c.from_residual.result (err_from_is_err_and c.from_residual.result c.from_residual.ensures.1) c.in_err-names.ensures.passed

pub returns-in_err-found_at-clause-passed : goal.returns-in_err-found_at-clause-passed
returns-in_err-found_at-clause-passed g c =
    let read = c.in_ok-names.ensures in
    found_error (g.D.Disk.state c.args.disk.now) (g.D.Disk.state c.read_names.new.disk) Slots NamesApart 10 refl refl c.requires.opened c.requires.inodes.before
    read.passed.reads read.each c.in_ok-names.names.repeated read.repeated _ c.from_residual-in_err-found_at.result
    (err_from_is_err_and c.from_residual-in_err-found_at.result c.from_residual-in_err-found_at.ensures.1) c.in_err-found_at.ensures

pub returns-clause-before : goal.returns-clause-before
returns-clause-before g c =
    let read = c.in_ok-names.ensures in
    both_before (g.D.Disk.state c.args.disk.now) (g.D.Disk.state c.read_names.new.disk) Slots NamesApart 10 refl refl c.requires.opened c.requires.inodes.before
    read.passed.reads read.each c.in_ok-names.names.repeated read.repeated c.in_ok-found_at.ensures

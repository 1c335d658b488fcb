use Rattle.std.proofs.Common.{refl}
use Rattle.std.proofs.lemmas.Result.{err_from_is_err_and}
use Rattle.fs_model.specs.Rules.{LaidOut, Acls}
use Rattle.fs_check.proofs.Carrying.{first_error, second_passed, both_obeyed, before_still, next_before, opened_still, table_still}
use Rattle.sector_disk.proofs.Moments.{reads_nothing}
use Rattle.fs_check.proofs.checking.check_contents.Goals as goal

pub returns-in_err-laid_out-clause-passed : goal.returns-in_err-laid_out-clause-passed
returns-in_err-laid_out-clause-passed g c =
    first_error (g.D.Disk.state c.args.disk.now) (g.D.Disk.state c.laid_out.new.disk) LaidOut 8 refl c.requires.opened c.requires.inodes.before _
    c.from_residual.result (err_from_is_err_and c.from_residual.result c.from_residual.ensures.1) c.in_err-laid_out.ensures.passed

pub returns : goal.returns
returns g c =
    let laid = c.in_ok-laid_out.ensures in
    record {
      before =
          both_obeyed (g.D.Disk.state c.args.disk.now) (g.D.Disk.state c.laid_out.new.disk) (g.D.Disk.state c.acls.new.disk) LaidOut Acls 8 refl refl
          c.requires.opened c.requires.inodes.before laid.passed.reads laid.each c.acls.result c.acls.ensures.each;
      passed =
          second_passed (g.D.Disk.state c.args.disk.now) (g.D.Disk.state c.laid_out.new.disk) (g.D.Disk.state c.acls.new.disk) LaidOut Acls 8 refl refl
          c.requires.opened c.requires.inodes.before laid.passed.reads laid.each c.acls.result c.acls.ensures.passed;
    }

pub acls-requires : goal.acls-requires
acls-requires g c =
    let laid = c.in_ok-laid_out.ensures in
    let s0 = g.D.Disk.state c.args.disk.now in
    record {
      opened = opened_still laid.passed.reads c.requires.opened;
      inodes = record {
        table = table_still laid.passed.reads c.requires.inodes.table;
        before = before_still laid.passed.reads (next_before s0 s0 LaidOut 8 refl reads_nothing c.requires.inodes.before laid.each);
      };
    }

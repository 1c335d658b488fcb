use Rattle.fs_program.specs.Streams.{writing}
use Rattle.fs_program.proofs.Findings.{check_ends, is_of_rule}
use Rattle.fs_program.proofs.disks.check_disk.Goals as goal

pub returns-clause-ends : goal.returns-clause-ends
returns-clause-ends g c =
    check_ends c.check.result (g.D.Disk.state c.args.disk.now) (g.D.Disk.state c.check.new.disk) c.args.explain
    (writing g.O.Write.contents c.args.out.now c.tell_check.new.out) c.tell_check.result c.check.ensures.clean c.check.ensures.passed c.tell_check.ensures

pub returns-clause-reads : goal.returns-clause-reads
returns-clause-reads g c = c.check.ensures.passed.reads

pub tell_check-requires : goal.tell_check-requires
tell_check-requires g c = is_of_rule c.check.result (g.D.Disk.state c.args.disk.now) (g.D.Disk.state c.check.new.disk) c.check.ensures.passed.reason

use Rattle.fs_program.specs.Jobs.{checks, checks_part}
use Rattle.fs_program.specs.Streams.{writing}
use Rattle.fs_program.proofs.Findings.{check_ends, checked_of_rule}
use Rattle.fs_program.proofs.jobs.check_image.Goals as goal

pub returns-in-Some : goal.returns-in-Some
returns-in-Some g c =
    let checked = rw c.in-Some.is at c.in_ok-found.ensures in
    checks_part c.in_ok-found.file checked.old checked.now checked.is_image checked.fresh checked.passed.reads checked.quiet
    (check_ends c.in-Some.found _ _ c.args.explain (writing g.O.Write.contents c.args.out.now c.tell_check.new.out) c.tell_check.result
    checked.clean checked.passed c.tell_check.ensures)

pub returns-in-Ok : goal.returns-in-Ok
returns-in-Ok g c = checks c.in-Ok.disk c.check_disk.new.disk c.in-Ok.ensures.fresh c.check_disk.ensures.reads c.check_disk.ensures.ends

pub tell_check-requires : goal.tell_check-requires
tell_check-requires g c = checked_of_rule _ _ c.in-Some.found (rw c.in-Some.is at c.in_ok-found.ensures)

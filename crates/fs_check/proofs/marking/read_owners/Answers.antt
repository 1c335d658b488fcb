use Rattle.fs_check.specs.Checks.{meaning}
use Rattle.sector_disk.proofs.Moments.{reads_nothing}
use Rattle.fs_check.proofs.Carrying.{same_error, memory_error}
use Rattle.fs_check.proofs.Counts.{twice_found, owner_map}
use Rattle.std.proofs.Common.{refl}
use Rattle.fs_check.proofs.marking.read_owners.Goals as goal

pub returns-clause-twice : goal.returns-clause-twice
returns-clause-twice g c =
    let first = c.first-twice.ensures in
    twice_found c.args.opened.now.geometry (meaning (g.D.Disk.state c.args.disk.now)) c.mark_all.new.marks c.in_ok-mark_all.ensures.marked
    c.first-twice.result first.below first.is first.least first.none

pub returns-clause-owners : goal.returns-clause-owners
returns-clause-owners g c =
    owner_map c.args.opened.now.geometry (meaning (g.D.Disk.state c.args.disk.now)) c.mark_all.new.marks c.in_ok-mark_all.ensures.marked

pub returns-in_err-marks-clause-passed : goal.returns-in_err-marks-clause-passed
returns-in_err-marks-clause-passed g c = memory_error reads_nothing c.from_residual.result c.from_residual.ensures.1

pub mark_all-requires-clause-none : goal.mark_all-requires-clause-none
mark_all-requires-clause-none g c = c.in_ok-marks.ensures c.args.opened.now.geometry (meaning (g.D.Disk.state c.args.disk.now)) refl

pub returns-in_err-mark_all-clause-passed : goal.returns-in_err-mark_all-clause-passed
returns-in_err-mark_all-clause-passed g c = same_error c.from_residual-in_err-mark_all.result c.from_residual-in_err-mark_all.ensures.1 c.in_err-mark_all.ensures.passed

pub returns-clause-passed : goal.returns-clause-passed
returns-clause-passed g c = record { reads = c.in_ok-mark_all.ensures.passed.reads; reason = tt }

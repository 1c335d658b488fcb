use Rattle.fs_check.specs.Checks.{meaning}
use Rattle.fs_check.specs.Naming.{AreValid}
use Rattle.fs_check.proofs.Tests.{refuses}
use Rattle.fs_check.proofs.slots.read_slots.Goals as goal

pub returns-then-not-branch-clause-slots : goal.returns-then-not-branch-clause-slots
returns-then-not-branch-clause-slots g c =
    refuses (AreValid c.args.opened.now.geometry.version (meaning (g.D.Disk.state c.args.disk.now)) c.args.inode.now) c.in_ok-fill_slots.field-0 c.if-not-branch.true
    c.in_ok-fill_slots.ensures.test

pub returns-clause-slots : goal.returns-clause-slots
returns-clause-slots g c = c.in_ok-fill_slots.ensures.slots c.if-not-branch.false

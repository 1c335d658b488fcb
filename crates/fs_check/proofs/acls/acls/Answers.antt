use Rattle.std.proofs.Common.{arith}
use Rattle.fs_model.specs.Rules.{HasAcls, Acls}
use Rattle.fs_check.specs.Checks.{meaning}
use Rattle.fs_check.proofs.FreeInodes.{free_has_acls}
use Rattle.fs_check.proofs.InodeAcls.{acl_on_disk, default_acl_on_disk}
use Rattle.fs_check.proofs.Tests.{few_inodes, all_tried, next_tried, fails_here}
use Rattle.fs_check.proofs.acls.acls.Goals as goal

pub has_good_acls-requires-clause-access : goal.has_good_acls-requires-clause-access
has_good_acls-requires-clause-access g c =
    acl_on_disk (g.D.Disk.state c.args.disk.now) (g.D.Disk.state c.loop-ino.disk) c.args.opened.now.geometry c.args.inodes.now c.loop-ino.ino _
    c.loop-ino.invariant.reads c.requires.opened c.requires.inodes.table c.requires.inodes.before c.loop-ino-test.true

pub has_good_acls-requires-clause-default : goal.has_good_acls-requires-clause-default
has_good_acls-requires-clause-default g c =
    default_acl_on_disk (g.D.Disk.state c.args.disk.now) (g.D.Disk.state c.loop-ino.disk) c.args.opened.now.geometry c.args.inodes.now c.loop-ino.ino _
    c.loop-ino.invariant.reads c.requires.opened c.requires.inodes.table c.requires.inodes.before c.loop-ino-test.true

pub loop-ino-preserved : goal.loop-ino-preserved
loop-ino-preserved g c =
    next_tried HasAcls c.args.opened.now.geometry (g.D.Disk.state c.args.disk.now) (g.D.Disk.state c.loop-ino.disk) (g.D.Disk.state c.has_good_acls.new.disk) c.args.inodes.now c.loop-ino.ino _
    c.in_ok-has_good_acls.field-0 c.loop-ino.invariant c.in_ok-has_good_acls.ensures.passed.reads c.requires.inodes.table c.loop-ino-test.true c.in_ok-has_good_acls.ensures.test
    c.if-not-branch.false

pub returns-then-not-branch-clause-passed : goal.returns-then-not-branch-clause-passed
returns-then-not-branch-clause-passed g c =
    fails_here HasAcls c.args.opened.now.geometry (g.D.Disk.state c.args.disk.now) (g.D.Disk.state c.loop-ino.disk) (g.D.Disk.state c.has_good_acls.new.disk) c.args.inodes.now c.loop-ino.ino _
    c.in_ok-has_good_acls.field-0 c.loop-ino.invariant c.in_ok-has_good_acls.ensures.passed.reads c.requires.inodes.table c.loop-ino-test.true c.in_ok-has_good_acls.ensures.test
    Acls (λ k. ((λ h. h), (λ h. h))) c.if-not-branch.true

pub returns-clause-each : goal.returns-clause-each
returns-clause-each g c =
    let s0 = g.D.Disk.state c.args.disk.now in
    all_tried HasAcls c.args.opened.now.geometry s0 (g.D.Disk.state c.loop-ino.disk) c.args.inodes.now c.loop-ino.ino c.loop-ino.invariant c.requires.inodes.table
    c.loop-ino-test.false (free_has_acls (meaning s0))

pub overflow_cast-ino-end : goal.overflow_cast-ino-end
overflow_cast-ino-end g c =
    let few = few_inodes _ _ c.args.opened.now.geometry _ c.args.inodes.now c.requires.opened.geometry c.requires.inodes.table in
    omega (arith, few)

use Rattle.fs_check.specs.Checks.{meaning}
use Rattle.fs_check.proofs.Carrying.{if_ok, opened_still}
use Rattle.fs_check.proofs.InodeAcls.{misplaced, bad_access, good_by_default}
use Rattle.fs_check.proofs.acls.has_good_acls.Goals as goal

pub returns-then-not-is_in_place-clause-test : goal.returns-then-not-is_in_place-clause-test
returns-then-not-is_in_place-clause-test g c =
    misplaced (meaning (g.D.Disk.state c.args.disk.now)) c.args.inode.now c.is_in_place.result c.if-not-is_in_place.true c.is_in_place.ensures

pub returns-then-not-branch-clause-test : goal.returns-then-not-branch-clause-test
returns-then-not-branch-clause-test g c =
    bad_access (meaning (g.D.Disk.state c.args.disk.now)) c.args.inode.now c.in_ok-has_good_acl.field-0
    c.if-not-branch.true c.in_ok-has_good_acl.ensures.test

pub returns-clause-test : goal.returns-clause-test
returns-clause-test g c = if_ok c.has_good_acl-2.result c.has_good_acl-2.ensures.test (λ r later.
    good_by_default (g.D.Disk.state c.args.disk.now) (g.D.Disk.state c.has_good_acl.new.disk) c.args.inode.now c.in_ok-has_good_acl.ensures.passed.reads
    c.is_in_place.result c.in_ok-has_good_acl.field-0 r
    c.if-not-is_in_place.false c.if-not-branch.false c.is_in_place.ensures c.in_ok-has_good_acl.ensures.test later)

pub has_good_acl-requires-2-clause-opened : goal.has_good_acl-requires-2-clause-opened
has_good_acl-requires-2-clause-opened g c = opened_still c.in_ok-has_good_acl.ensures.passed.reads c.requires.opened

use Rattle.std.proofs.Common.{set, refl, sym, subst}
use Rattle.std.proofs.lemmas.List.{get_or_default}
use Rattle.fs_layout.specs.declared.inode.Inode.{Inode}
use Rattle.fs_layout.specs.Inode.{free_inode}
use Rattle.fs_check.specs.Ways.{Climbs, at_top}
use Rattle.fs_check.proofs.Tests.{blank}
use Rattle.fs_check.proofs.Climbing.{IsOnWay, way_begins, way_goes_on, way_reaches, way_meets}
use Rattle.fs_check.proofs.ways.goes_up.Goals as goal

pub loop-at-init : goal.loop-at-init
loop-at-init c = way_begins c.args.inodes.now c.args.marks.now c.args.dir_ino c.requires.len c.requires.earlier c.requires.climb

pub returns-then-marks-i-ne0-clause-reaches : goal.returns-then-marks-i-ne0-clause-reaches
returns-then-marks-i-ne0-clause-reaches c = way_meets c.args.inodes.now c.loop-at.marks c.args.dir_ino c.loop-at.at c.loop-at.invariant c.if-marks-i-ne0.true

pub loop-at-preserved : goal.loop-at-preserved
loop-at-preserved c =
    let inodes = c.args.inodes.now in
    let at = c.loop-at.at in
    let lt = c.if-i-inodes.false in
    subst (λ (v : Inode). IsOnWay inodes (set c.loop-at.marks at c.args.dir_ino) c.args.dir_ino v.parent) (get_or_default inodes at free_inode blank lt)
    (way_goes_on inodes c.loop-at.marks c.args.dir_ino at c.loop-at.invariant c.loop-at-test.true lt c.if-marks-i-ne0.false)

pub returns-clause-reaches : goal.returns-clause-reaches
returns-clause-reaches c =
    let top : Climbs c.args.inodes.now c.loop-at.at = subst (Climbs c.args.inodes.now) (sym c.loop-at-test.false) at_top in
    ((λ t. (way_reaches c.args.inodes.now c.loop-at.marks c.args.dir_ino c.loop-at.at c.loop-at.invariant top).0), (λ x. refl))

pub returns-clause-climb : goal.returns-clause-climb
returns-clause-climb c = λ t.
    let top : Climbs c.args.inodes.now c.loop-at.at = subst (Climbs c.args.inodes.now) (sym c.loop-at-test.false) at_top in
    (way_reaches c.args.inodes.now c.loop-at.marks c.args.dir_ino c.loop-at.at c.loop-at.invariant top).1

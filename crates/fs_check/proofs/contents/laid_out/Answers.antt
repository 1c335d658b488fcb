use Rattle.std.proofs.Common.{ℕ, get_or, arith, sym, subst}
use Rattle.fs_layout.specs.declared.inode.Inode.{Inode}
use Rattle.fs_layout.specs.Bytes.{SectorMap}
use Rattle.fs_layout.specs.Images.{IsData, Owns, inode_at}
use Rattle.fs_model.specs.Rules.{Inodes, InData, IsLaidOut, LaidOut}
use Rattle.sector_disk.proofs.Moments.{reads_nothing}
use Rattle.fs_check.specs.Checks.{meaning}
use Rattle.fs_check.specs.LastBlocks.{HasSize}
use Rattle.fs_check.proofs.Carrying.{meaning_same, hand_back, hand_still, opened_still, read_error}
use Rattle.fs_check.proofs.FreeInodes.{free_is_laid_out}
use Rattle.fs_check.proofs.Tests.{within, few_inodes, inode_here, blank, all_tried, next_tried, fails_here}
use Rattle.fs_check.proofs.Sizes.{good_size}
use Rattle.fs_check.proofs.contents.laid_out.Goals as goal

pub is_laid_out-requires-clause-in_data : goal.is_laid_out-requires-clause-in_data
is_laid_out-requires-clause-in_data g c =
    let s0 = g.D.Disk.state c.args.disk.now in
    let p = c.args.opened.now.geometry in
    let lt = c.loop-ino-test.true in
    let here = inode_here p (meaning s0) c.args.inodes.now c.loop-ino.ino blank c.requires.inodes.table lt in
    let now : (s : ℕ) → Owns (meaning s0) (inode_at p (meaning s0) c.loop-ino.ino) s → IsData p s = c.requires.inodes.before InData (omega arith) c.loop-ino.ino (within p (meaning s0) c.args.inodes.now c.loop-ino.ino c.requires.inodes.table lt) in
    subst (λ (m : SectorMap). (s : ℕ) → Owns m (get_or c.args.inodes.now c.loop-ino.ino blank) s → IsData p s) (sym (meaning_same c.loop-ino.invariant.tried.reads))
    (subst (λ (v : Inode). (s : ℕ) → Owns (meaning s0) v s → IsData p s) (sym here) now)

pub is_laid_out-requires-clause-size : goal.is_laid_out-requires-clause-size
is_laid_out-requires-clause-size g c =
    let m = meaning (g.D.Disk.state c.args.disk.now) in
    let p = c.args.opened.now.geometry in
    let lt = c.loop-ino-test.true in
    subst HasSize (sym (inode_here p m c.args.inodes.now c.loop-ino.ino blank c.requires.inodes.table lt))
    (good_size p m c.loop-ino.ino (c.requires.inodes.before Inodes (omega arith) c.loop-ino.ino (within p m c.args.inodes.now c.loop-ino.ino c.requires.inodes.table lt)))

pub loop-ino-init : goal.loop-ino-init
loop-ino-init g c = record {
  tried = record { reads = reads_nothing; good = λ k lt. absurd (omega (arith, lt)) };
  at_hand = c.new-pointers.ensures (meaning (g.D.Disk.state c.args.disk.now));
}

pub loop-ino-preserved : goal.loop-ino-preserved
loop-ino-preserved g c = record {
  tried = next_tried IsLaidOut c.args.opened.now.geometry (g.D.Disk.state c.args.disk.now) (g.D.Disk.state c.loop-ino.disk) (g.D.Disk.state c.is_laid_out.new.disk) c.args.inodes.now c.loop-ino.ino _
      c.in_ok-is_laid_out.field-0 c.loop-ino.invariant.tried c.in_ok-is_laid_out.ensures.passed.reads c.requires.inodes.table c.loop-ino-test.true c.in_ok-is_laid_out.ensures.test
      c.if-not-branch.false;
  at_hand = hand_back c.loop-ino.invariant.tried.reads c.is_laid_out.new.pointers c.in_ok-is_laid_out.ensures.at_hand;
}

pub returns-then-not-branch-clause-passed : goal.returns-then-not-branch-clause-passed
returns-then-not-branch-clause-passed g c =
    fails_here IsLaidOut c.args.opened.now.geometry (g.D.Disk.state c.args.disk.now) (g.D.Disk.state c.loop-ino.disk) (g.D.Disk.state c.is_laid_out.new.disk) c.args.inodes.now c.loop-ino.ino _
    c.in_ok-is_laid_out.field-0 c.loop-ino.invariant.tried c.in_ok-is_laid_out.ensures.passed.reads c.requires.inodes.table c.loop-ino-test.true c.in_ok-is_laid_out.ensures.test
    LaidOut (λ k. ((λ h. h), (λ h. h))) c.if-not-branch.true

pub returns-clause-each : goal.returns-clause-each
returns-clause-each g c =
    let s0 = g.D.Disk.state c.args.disk.now in
    all_tried IsLaidOut c.args.opened.now.geometry s0 (g.D.Disk.state c.loop-ino.disk) c.args.inodes.now c.loop-ino.ino c.loop-ino.invariant.tried c.requires.inodes.table
    c.loop-ino-test.false (free_is_laid_out (meaning s0))

pub overflow_cast-ino-end : goal.overflow_cast-ino-end
overflow_cast-ino-end g c =
    let few = few_inodes _ _ c.args.opened.now.geometry _ c.args.inodes.now c.requires.opened.geometry c.requires.inodes.table in
    omega (arith, few)

pub is_laid_out-requires-clause-opened : goal.is_laid_out-requires-clause-opened
is_laid_out-requires-clause-opened g c = opened_still c.loop-ino.invariant.tried.reads c.requires.opened

pub is_laid_out-requires-clause-at_hand : goal.is_laid_out-requires-clause-at_hand
is_laid_out-requires-clause-at_hand g c = hand_still c.loop-ino.invariant.tried.reads c.loop-ino.pointers c.loop-ino.invariant.at_hand

pub returns-in_err-is_laid_out-clause-passed : goal.returns-in_err-is_laid_out-clause-passed
returns-in_err-is_laid_out-clause-passed g c = read_error c.loop-ino.invariant.tried.reads c.from_residual.result c.from_residual.ensures.1 c.in_err-is_laid_out.ensures.passed

pub returns-clause-passed : goal.returns-clause-passed
returns-clause-passed g c = record { reads = c.loop-ino.invariant.tried.reads; reason = tt }

use Rattle.std.proofs.Common.{get_or, arith, refl, subst, inl, inr}
use Rattle.std.proofs.lemmas.Bool.{cases_lt}
use Rattle.fs_layout.specs.Images.{Owns}
use Rattle.fs_layout.specs.Bytes.{SectorMap}
use Rattle.fs_model.specs.Rules.{IsInData}
use Rattle.sector_disk.proofs.Moments.{reads_joined, reads_nothing}
use Rattle.fs_check.specs.Checks.{meaning}
use Rattle.fs_check.specs.Counts.{times_owned, AddsOwners}
use Rattle.fs_check.specs.Owning.{OwnsData}
use Rattle.fs_check.proofs.Carrying.{meaning_same, marks_still, opened_still, read_error}
use Rattle.fs_check.proofs.Counts.{first_inode, next_inode, all_inodes}
use Rattle.fs_check.proofs.FreeInodes.{free_owns_nothing}
use Rattle.fs_check.proofs.Tables.{more_good}
use Rattle.fs_check.proofs.Tests.{within, few_inodes, inode_here, free_behind, known_of, refuses, blank}
use Rattle.fs_check.proofs.marking.mark_all.Goals as goal

pub returns-then-not-branch-clause-passed : goal.returns-then-not-branch-clause-passed
returns-then-not-branch-clause-passed g c =
    let s0 = g.D.Disk.state c.args.disk.now in
    let s1 = g.D.Disk.state c.loop-ino.disk in
    let p = c.args.opened.now.geometry in
    record {
      reads = reads_joined c.loop-ino.invariant.reads c.in_ok-mark_inode.ensures.passed.reads;
      reason = (
        refl,
        record {
          fails = λ h.
              known_of (λ m v. OwnsData p m v → ⊥) s0 s1 p c.args.inodes.now c.loop-ino.ino blank c.loop-ino.invariant.reads c.requires.table c.loop-ino-test.true
              (refuses (OwnsData p (meaning s1) (get_or c.args.inodes.now c.loop-ino.ino blank)) c.in_ok-mark_inode.field-0 c.if-not-branch.true c.in_ok-mark_inode.ensures.test)
              (h (within p (meaning s0) c.args.inodes.now c.loop-ino.ino c.requires.table c.loop-ino-test.true));
          least = λ k low below. c.loop-ino.invariant.good k low;
        },
      );
    }

pub loop-ino-init : goal.loop-ino-init
loop-ino-init g c = record {
  reads = reads_nothing;
  good = λ k lt. absurd (omega (arith, lt));
  marked = first_inode c.args.opened.now.geometry (meaning (g.D.Disk.state c.args.disk.now)) c.args.marks.now c.requires.none;
}

pub loop-ino-preserved : goal.loop-ino-preserved
loop-ino-preserved g c =
    let s0 = g.D.Disk.state c.args.disk.now in
    let s1 = g.D.Disk.state c.loop-ino.disk in
    let lt = c.loop-ino-test.true in
    let p = c.args.opened.now.geometry in
    let n = c.loop-ino.ino in
    let reads = c.loop-ino.invariant.reads in
    let v = get_or c.args.inodes.now n blank in
    record {
      reads = reads_joined reads c.in_ok-mark_inode.ensures.passed.reads;
      good = more_good (IsInData p (meaning s0)) n c.loop-ino.invariant.good
          (known_of (OwnsData p) s0 s1 p c.args.inodes.now n blank reads c.requires.table lt (c.in_ok-mark_inode.ensures.test.0 c.if-not-branch.false));
      marked = next_inode p (meaning s0) n v c.loop-ino.marks c.mark_inode.new.marks (inode_here p (meaning s0) c.args.inodes.now n blank c.requires.table lt)
          (subst (λ (m : SectorMap). AddsOwners p m (times_owned m v) c.loop-ino.marks c.mark_inode.new.marks) (meaning_same reads)
          (c.in_ok-mark_inode.ensures.marked c.if-not-branch.false)) c.loop-ino.invariant.marked;
    }

pub returns-clause-each : goal.returns-clause-each
returns-clause-each g c = λ n lt.
    let m = meaning (g.D.Disk.state c.args.disk.now) in
    let p = c.args.opened.now.geometry in
    elim (cases_lt n c.loop-ino.ino) [
      | inl low ↦ c.loop-ino.invariant.good n low
      | inr ge ↦
          let past = c.loop-ino-test.false in
          let free = free_behind p m c.args.inodes.now n c.requires.table (omega (arith, ge, past)) lt in
          λ s owns. absurd (free_owns_nothing m s (subst (λ v. Owns m v s) free owns))
    ]

pub returns-clause-marked : goal.returns-clause-marked
returns-clause-marked g c =
    let len = c.requires.table.len in
    let end = c.loop-ino.auto.ino-end in
    all_inodes c.args.opened.now.geometry (meaning (g.D.Disk.state c.args.disk.now)) c.args.inodes.now c.loop-ino.ino c.loop-ino.marks c.requires.table
    c.loop-ino-test.false (omega (arith, end, len)) c.loop-ino.invariant.marked

pub overflow_cast-ino-end : goal.overflow_cast-ino-end
overflow_cast-ino-end g c =
    let few = few_inodes _ _ c.args.opened.now.geometry _ c.args.inodes.now c.requires.opened.geometry c.requires.table in
    omega (arith, few)

pub mark_inode-requires : goal.mark_inode-requires
mark_inode-requires g c =
    let so_far = c.loop-ino.invariant in
    record { opened = opened_still so_far.reads c.requires.opened; marks = marks_still so_far.reads c.args.opened.now.geometry _ c.loop-ino.marks so_far.marked }

pub returns-in_err-mark_inode-clause-passed : goal.returns-in_err-mark_inode-clause-passed
returns-in_err-mark_inode-clause-passed g c = read_error c.loop-ino.invariant.reads c.from_residual.result c.from_residual.ensures.1 c.in_err-mark_inode.ensures.passed

pub returns-clause-passed : goal.returns-clause-passed
returns-clause-passed g c = record { reads = c.loop-ino.invariant.reads; reason = tt }

use Rattle.std.proofs.Common.{◌≡◌, ◌+◌, get_or, arith, refl, subst}
use Rattle.fs_layout.specs.declared.inode.TheConstants.{DIRECT_BLOCKS}
use Rattle.fs_check.specs.Counts.{sum_to, times_reached, times_named, AreInDataArea, AddsOwners}
use Rattle.fs_check.proofs.Counts.{refused, data_joined, adds_joined, sum_adds_first, sum_adds_more, sum_data_first, sum_data_more}
use Rattle.fs_check.proofs.Sums.{sum_has}
use Rattle.fs_check.proofs.marking.mark_named.Goals as goal

pub returns-then-not-mark_number-clause-test : goal.returns-then-not-mark_number-clause-test
returns-then-not-mark_number-clause-test c = λ m.
    refused c.args.geometry m (times_reached m 0 c.args.inode.now.acl) (times_named m c.args.inode.now) c.mark_number.result (λ s. omega arith) (c.mark_number.ensures.test m)
    c.if-not-mark_number.true

pub returns-then-not-mark_number-2-clause-test : goal.returns-then-not-mark_number-2-clause-test
returns-then-not-mark_number-2-clause-test c = λ m.
    refused c.args.geometry m (times_reached m 0 c.args.inode.now.default_acl) (times_named m c.args.inode.now) c.mark_number-2.result (λ s. omega arith)
    (c.mark_number-2.ensures.test m) c.if-not-mark_number-2.true

pub loop-i-init : goal.loop-i-init
loop-i-init c =
    let p = c.args.geometry in
    let v = c.args.inode.now in
    record {
      room = c.mark_number-2.ensures.room;
      good = λ m.
          sum_data_first p m (λ s. times_reached m 0 v.acl s + times_reached m 0 v.default_acl s) (λ k. times_reached m 0 (get_or v.direct k 0))
          (data_joined p m (times_reached m 0 v.acl) (times_reached m 0 v.default_acl) ((c.mark_number.ensures.test m).0 c.if-not-mark_number.false)
          ((c.mark_number-2.ensures.test m).0 c.if-not-mark_number-2.false));
      marked = λ m.
          sum_adds_first p m (λ s. times_reached m 0 v.acl s + times_reached m 0 v.default_acl s) (λ k. times_reached m 0 (get_or v.direct k 0)) c.args.marks.now
          c.mark_number-2.new.self
          (adds_joined p m (times_reached m 0 v.acl) (times_reached m 0 v.default_acl) c.args.marks.now c.mark_number.new.self c.mark_number-2.new.self
          (c.mark_number.ensures.marked c.if-not-mark_number.false m) (c.mark_number-2.ensures.marked c.if-not-mark_number-2.false m));
    }

pub returns-then-not-mark_number-3-clause-test : goal.returns-then-not-mark_number-3-clause-test
returns-then-not-mark_number-3-clause-test c = λ m.
    let v = c.args.inode.now in
    let i = c.loop-i.i in
    refused c.args.geometry m (times_reached m 0 (get_or v.direct i 0)) (times_named m v) c.mark_number-in-loop-i.result
    (λ s. let has = sum_has (λ k. times_reached m 0 (get_or v.direct k 0) s) DIRECT_BLOCKS i (omega (arith, c.loop-i-test.true)) in omega (arith, has))
    (c.mark_number-in-loop-i.ensures.test m) c.if-not-mark_number-3.true

pub loop-i-preserved : goal.loop-i-preserved
loop-i-preserved c =
    let p = c.args.geometry in
    let v = c.args.inode.now in
    let so_far = c.loop-i.invariant in
    let good = c.if-not-mark_number-3.false in
    record {
      room = c.mark_number-in-loop-i.ensures.room;
      good = λ m.
          sum_data_more p m (λ s. times_reached m 0 v.acl s + times_reached m 0 v.default_acl s) (λ k. times_reached m 0 (get_or v.direct k 0)) c.loop-i.i (so_far.good m)
          ((c.mark_number-in-loop-i.ensures.test m).0 good);
      marked = λ m.
          sum_adds_more p m (λ s. times_reached m 0 v.acl s + times_reached m 0 v.default_acl s) (λ k. times_reached m 0 (get_or v.direct k 0)) c.loop-i.i c.args.marks.now
          c.loop-i.marks c.mark_number-in-loop-i.new.self (so_far.marked m) (c.mark_number-in-loop-i.ensures.marked good m);
    }

pub returns-clause-test : goal.returns-clause-test
returns-clause-test c = λ m.
    let v = c.args.inode.now in
    let done : c.loop-i.i ≡ DIRECT_BLOCKS = omega (arith, c.loop-i-test.false, c.loop-i.auto.i-end) in (
      (λ t. subst (λ n. AreInDataArea c.args.geometry (λ s. times_reached m 0 v.acl s + times_reached m 0 v.default_acl s
          + sum_to (λ k. times_reached m 0 (get_or v.direct k 0) s) n)) done (c.loop-i.invariant.good m)),
      (λ all. refl),
    )

pub returns-clause-marked : goal.returns-clause-marked
returns-clause-marked c = λ t m.
    let v = c.args.inode.now in
    let done : c.loop-i.i ≡ DIRECT_BLOCKS = omega (arith, c.loop-i-test.false, c.loop-i.auto.i-end) in
    subst (λ n. AddsOwners c.args.geometry m (λ s. times_reached m 0 v.acl s + times_reached m 0 v.default_acl s
    + sum_to (λ k. times_reached m 0 (get_or v.direct k 0) s) n) c.args.marks.now c.loop-i.marks) done (c.loop-i.invariant.marked m)

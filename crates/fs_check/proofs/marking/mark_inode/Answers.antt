use Rattle.std.proofs.Common.{◌≡◌, ◌+◌, ℕ, get_or, arith, refl, subst, IsTrue, ◌↔◌}
use Rattle.std.proofs.lemmas.Bool.{false≢true}
use Rattle.fs_layout.specs.Bytes.{SectorMap}
use Rattle.fs_layout.specs.declared.inode.TheConstants.{POINTER_LEVELS}
use Rattle.sector_disk.proofs.Moments.{reads_joined, reads_nothing}
use Rattle.fs_check.specs.Checks.{meaning}
use Rattle.fs_check.specs.Counts.{sum_to, times_reached, times_named, AreInDataArea, AddsOwners}
use Rattle.fs_check.proofs.Carrying.{meaning_same, marks_still, opened_still, reached_back, adds_back, read_error}
use Rattle.fs_check.proofs.Counts.{sum_adds_first, sum_adds_more, sum_data_first, sum_data_more, not_owned_data, owns_data}
use Rattle.fs_check.proofs.Sums.{sum_has}
use Rattle.fs_check.proofs.marking.mark_inode.Goals as goal

pub returns-then-not-mark_named-clause-test : goal.returns-then-not-mark_named-clause-test
returns-then-not-mark_named-clause-test g c =
    let m = meaning (g.D.Disk.state c.args.disk.now) in
    let v = c.args.inode.now in
    not_owned_data c.args.opened.now.geometry m v (times_named m v) c.mark_named.result (λ s. omega arith) (c.mark_named.ensures.test m) c.if-not-mark_named.true

pub returns-then-not-mark_named-clause-marked : goal.returns-then-not-mark_named-clause-marked
returns-then-not-mark_named-clause-marked g c = λ f. absurd (false≢true f)

pub returns-then-not-mark_named-clause-passed : goal.returns-then-not-mark_named-clause-passed
returns-then-not-mark_named-clause-passed g c = record { reads = reads_nothing; reason = tt }

pub mark_named-requires : goal.mark_named-requires
mark_named-requires g c = record { room = c.requires.marks.1.room }

pub loop-k-init : goal.loop-k-init
loop-k-init g c =
    let p = c.args.opened.now.geometry in
    let m = meaning (g.D.Disk.state c.args.disk.now) in
    let v = c.args.inode.now in
    let term : ℕ → ℕ → ℕ = λ k s. times_reached m (k + 1) (get_or v.indirect k 0) s in
    record {
      reads = reads_nothing;
      good = sum_data_first p m (times_named m v) term ((c.mark_named.ensures.test m).0 c.if-not-mark_named.false);
      marked = sum_adds_first p m (times_named m v) term c.args.marks.now c.mark_named.new.marks (c.mark_named.ensures.marked c.if-not-mark_named.false m);
    }

pub mark_reached-requires : goal.mark_reached-requires
mark_reached-requires g c =
    let so_far = c.loop-k.invariant in
    let lt = c.loop-k-test.true in
    record {
      opened = opened_still so_far.reads c.requires.opened;
      level = omega (arith, lt);
      marks = marks_still so_far.reads c.args.opened.now.geometry _ c.loop-k.marks (so_far.marked c.requires.marks.0 c.requires.marks.1);
    }

pub returns-then-not-branch-clause-test : goal.returns-then-not-branch-clause-test
returns-then-not-branch-clause-test g c =
    let p = c.args.opened.now.geometry in
    let m = meaning (g.D.Disk.state c.args.disk.now) in
    let v = c.args.inode.now in
    let k = c.loop-k.k in
    let q = get_or v.indirect k 0 in
    let test = subst (λ (i : SectorMap). IsTrue c.in_ok-mark_reached.field-0 ↔ AreInDataArea p (times_reached i (k + 1) q)) (meaning_same c.loop-k.invariant.reads)
    c.in_ok-mark_reached.ensures.test in
    not_owned_data p m v (times_reached m (k + 1) q) c.in_ok-mark_reached.field-0
    (λ s. let has = sum_has (λ j. times_reached m (j + 1) (get_or v.indirect j 0) s) POINTER_LEVELS k c.loop-k-test.true in omega (arith, has)) test c.if-not-branch.true

pub returns-then-not-branch-clause-marked : goal.returns-then-not-branch-clause-marked
returns-then-not-branch-clause-marked g c = λ f. absurd (false≢true f)

pub returns-then-not-branch-clause-passed : goal.returns-then-not-branch-clause-passed
returns-then-not-branch-clause-passed g c = record { reads = reads_joined c.loop-k.invariant.reads c.in_ok-mark_reached.ensures.passed.reads; reason = tt }

pub loop-k-preserved : goal.loop-k-preserved
loop-k-preserved g c =
    let p = c.args.opened.now.geometry in
    let m = meaning (g.D.Disk.state c.args.disk.now) in
    let v = c.args.inode.now in
    let k = c.loop-k.k in
    let q = get_or v.indirect k 0 in
    let so_far = c.loop-k.invariant in
    let term : ℕ → ℕ → ℕ = λ j s. times_reached m (j + 1) (get_or v.indirect j 0) s in
    record {
      reads = reads_joined so_far.reads c.in_ok-mark_reached.ensures.passed.reads;
      good = sum_data_more p m (times_named m v) term k so_far.good
          (reached_back so_far.reads p (k + 1) q (c.in_ok-mark_reached.ensures.test.0 c.if-not-branch.false));
      marked = sum_adds_more p m (times_named m v) term k c.args.marks.now c.loop-k.marks c.mark_reached.new.marks so_far.marked
          (adds_back so_far.reads p (k + 1) q c.loop-k.marks c.mark_reached.new.marks (c.in_ok-mark_reached.ensures.marked c.if-not-branch.false));
    }

pub returns-in_err-mark_reached-clause-passed : goal.returns-in_err-mark_reached-clause-passed
returns-in_err-mark_reached-clause-passed g c =
    read_error c.loop-k.invariant.reads c.from_residual.result c.from_residual.ensures.1 c.in_err-mark_reached.ensures.passed

pub returns-clause-test : goal.returns-clause-test
returns-clause-test g c =
    let p = c.args.opened.now.geometry in
    let m = meaning (g.D.Disk.state c.args.disk.now) in
    let v = c.args.inode.now in
    let done : c.loop-k.k ≡ POINTER_LEVELS = omega (arith, c.loop-k-test.false, c.loop-k.auto.k-end) in
    ((λ t. owns_data p m v (subst (λ n. AreInDataArea p (λ s. times_named m v s + sum_to (λ k. times_reached m (k + 1) (get_or v.indirect k 0) s) n)) done c.loop-k.invariant.good)), (λ all. refl))

pub returns-clause-marked : goal.returns-clause-marked
returns-clause-marked g c = λ t.
    let p = c.args.opened.now.geometry in
    let m = meaning (g.D.Disk.state c.args.disk.now) in
    let v = c.args.inode.now in
    let done : c.loop-k.k ≡ POINTER_LEVELS = omega (arith, c.loop-k-test.false, c.loop-k.auto.k-end) in
    subst (λ n. AddsOwners p m (λ s. times_named m v s + sum_to (λ k. times_reached m (k + 1) (get_or v.indirect k 0) s) n) c.args.marks.now c.loop-k.marks) done
    c.loop-k.invariant.marked

pub returns-clause-passed : goal.returns-clause-passed
returns-clause-passed g c = record { reads = c.loop-k.invariant.reads; reason = tt }

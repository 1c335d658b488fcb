use Rattle.std.proofs.Common.{◌≡◌, ◌≤◌, ◌<◌, ◌+◌, ◌-◌, ℕ, arith, refl, subst, sym, ◌∙◌, IsTrue, ◌↔◌, rules}
use Rattle.fs_layout.specs.Bytes.{SectorMap}
use Rattle.fs_layout.specs.Images.{pointer_in}
use Rattle.fs_layout.specs.declared.inode.TheConstants.{POINTER_LEVELS, SECTOR_POINTERS}
use Rattle.sector_disk.proofs.Moments.{reads_joined}
use Rattle.fs_check.specs.Checks.{meaning}
use Rattle.fs_check.specs.Counts.{sum_to, times_reached, AreInDataArea, AddsOwners}
use Rattle.fs_check.proofs.Carrying.{meaning_same, marks_still, opened_still, reached_back, adds_back}
use Rattle.fs_check.proofs.Counts.{none_data, none_adds, here_data, outside, refused, passed_over, passed_before, adds_same, sum_adds_first, sum_adds_more, sum_data_first, sum_data_more, data_within}
use Rattle.fs_check.proofs.DataNumbers.{number_below}
use Rattle.fs_check.proofs.Reached.{reached_next, pointer_read}
use Rattle.fs_check.proofs.Sums.{sum_has}
use Rattle.fs_check.proofs.marking.+mark_reached.Goals as goal

pub returns-then-level-eq0-clause-test : goal.returns-then-level-eq0-clause-test
returns-then-level-eq0-clause-test g t c =
    let p = c.args.opened.now.geometry in
    let m = meaning (g.D.Disk.state c.args.disk.now) in
    subst (λ k. IsTrue c.mark_number.result ↔ AreInDataArea p (times_reached m k c.args.s)) (sym c.if-level-eq0.true) (c.mark_number.ensures.test m)

pub returns-then-level-eq0-clause-marked : goal.returns-then-level-eq0-clause-marked
returns-then-level-eq0-clause-marked g t c = λ good.
    let p = c.args.opened.now.geometry in
    let m = meaning (g.D.Disk.state c.args.disk.now) in
    subst (λ k. AddsOwners p m (times_reached m k c.args.s) c.args.marks.now c.mark_number.new.self) (sym c.if-level-eq0.true) (c.mark_number.ensures.marked good m)

pub returns-then-s-eq0-clause-test : goal.returns-then-s-eq0-clause-test
returns-then-s-eq0-clause-test g t c =
    ((λ good. none_data c.args.opened.now.geometry (meaning (g.D.Disk.state c.args.disk.now)) c.args.level c.args.s c.if-s-eq0.true), (λ all. refl))

pub returns-then-s-eq0-clause-marked : goal.returns-then-s-eq0-clause-marked
returns-then-s-eq0-clause-marked g t c = λ good.
    none_adds c.args.opened.now.geometry (meaning (g.D.Disk.state c.args.disk.now)) c.args.level c.args.s c.args.marks.now c.if-s-eq0.true

pub returns-then-not-is_data-clause-test : goal.returns-then-not-is_data-clause-test
returns-then-not-is_data-clause-test g t c =
    outside c.args.opened.now.geometry (meaning (g.D.Disk.state c.args.disk.now)) c.args.level c.args.s c.is_data.result c.if-s-eq0.false c.is_data.ensures c.if-not-is_data.true

pub returns-then-was_passed_again-clause-marked : goal.returns-then-was_passed_again-clause-marked
returns-then-was_passed_again-clause-marked g t c = λ good.
    let level = c.args.level in
    let few : level - 1 < POINTER_LEVELS = omega (arith, c.requires.level, c.if-level-eq0.false) in
    let is : level - 1 + 1 ≡ level = omega (arith, c.if-level-eq0.false) in
    passed_over c.args.opened.now.geometry (meaning (g.D.Disk.state c.args.disk.now)) level (level - 1) c.args.s is few c.args.marks.now
    (c.was_passed_again.ensures.0 c.if-was_passed_again.true)

pub read_recovered-requires-clause-on_disk : goal.read_recovered-requires-clause-on_disk
read_recovered-requires-clause-on_disk g t c =
    number_below _ _ c.args.opened.now.geometry c.requires.opened.geometry c.args.s (λ some. c.is_data.ensures.0 c.if-not-is_data.false)

pub loop-i-init : goal.loop-i-init
loop-i-init g t c =
    let p = c.args.opened.now.geometry in
    let m = meaning (g.D.Disk.state c.args.disk.now) in
    let s = c.args.s in
    let term : ℕ → ℕ → ℕ = λ k. times_reached m (c.args.level - 1) (pointer_in m s k) in
    record {
      reads = c.in_ok-read_recovered.ensures.passed.reads;
      good = sum_data_first p m (times_reached m 0 s) term (here_data p m s (c.is_data.ensures.0 c.if-not-is_data.false));
      marked = sum_adds_first p m (times_reached m 0 s) term c.args.marks.now c.mark.new.self (c.mark.ensures.marked m);
    }

pub mark_reached-requires : goal.mark_reached-requires
mark_reached-requires g t c =
    let so_far = c.loop-i.invariant in
    let smaller : c.args.level - 1 < c.args.level = omega (arith, c.if-level-eq0.false) in
    let opened = opened_still so_far.reads c.requires.opened in
    let is_level : c.args.level - 1 ≤ POINTER_LEVELS = omega (arith, c.requires.level) in
    let marks = marks_still so_far.reads c.args.opened.now.geometry _ c.loop-i.marks (so_far.marked c.requires.marks.0 c.requires.marks.1) in
    search rules

pub returns-then-not-branch-clause-test : goal.returns-then-not-branch-clause-test
returns-then-not-branch-clause-test g t c =
    let p = c.args.opened.now.geometry in
    let m = meaning (g.D.Disk.state c.args.disk.now) in
    let level = c.args.level in
    let s = c.args.s in
    let i = c.loop-i.i in
    let read = pointer_read m s i c.read_recovered.new.to c.if-s-eq0.false c.in_ok-read_recovered.ensures.content in
    let q : c.number_at.result ≡ pointer_in m s i = c.number_at.ensures ∙ read in
    let test = subst (λ (n : ℕ). IsTrue c.in_ok-mark_reached.field-0 ↔ AreInDataArea p (times_reached m (level - 1) n)) q
    (subst (λ (k : SectorMap). IsTrue c.in_ok-mark_reached.field-0 ↔ AreInDataArea p (times_reached k (level - 1) c.number_at.result)) (meaning_same c.loop-i.invariant.reads)
    c.in_ok-mark_reached.ensures.test) in
    refused p m (times_reached m (level - 1) (pointer_in m s i)) (times_reached m level s) c.in_ok-mark_reached.field-0
    (λ r.
    let has = sum_has (λ k. times_reached m (level - 1) (pointer_in m s k) r) SECTOR_POINTERS i (omega (arith, c.loop-i-test.true)) in
    let whole = reached_next m level s r c.if-level-eq0.false in
    omega (arith, has, whole)) test c.if-not-branch.true

pub loop-i-preserved : goal.loop-i-preserved
loop-i-preserved g t c =
    let p = c.args.opened.now.geometry in
    let m = meaning (g.D.Disk.state c.args.disk.now) in
    let level = c.args.level in
    let s = c.args.s in
    let i = c.loop-i.i in
    let so_far = c.loop-i.invariant in
    let q : c.number_at.result ≡ pointer_in m s i = c.number_at.ensures ∙ pointer_read m s i c.read_recovered.new.to c.if-s-eq0.false c.in_ok-read_recovered.ensures.content in
    let term : ℕ → ℕ → ℕ = λ k. times_reached m (level - 1) (pointer_in m s k) in
    record {
      reads = reads_joined so_far.reads c.in_ok-mark_reached.ensures.passed.reads;
      good = sum_data_more p m (times_reached m 0 s) term i so_far.good
          (subst (λ n. AreInDataArea p (times_reached m (level - 1) n)) q
          (reached_back so_far.reads p (level - 1) c.number_at.result (c.in_ok-mark_reached.ensures.test.0 c.if-not-branch.false)));
      marked = sum_adds_more p m (times_reached m 0 s) term i c.args.marks.now c.loop-i.marks c.mark_reached.new.marks so_far.marked
          (subst (λ n. AddsOwners p m (times_reached m (level - 1) n) c.loop-i.marks c.mark_reached.new.marks) q
          (adds_back so_far.reads p (level - 1) c.number_at.result c.loop-i.marks c.mark_reached.new.marks (c.in_ok-mark_reached.ensures.marked c.if-not-branch.false)));
    }

pub pass-requires-clause-room : goal.pass-requires-clause-room
pass-requires-clause-room g t c = (c.loop-i.invariant.marked c.requires.marks.0 c.requires.marks.1).room

pub returns-clause-test : goal.returns-clause-test
returns-clause-test g t c =
    let p = c.args.opened.now.geometry in
    let m = meaning (g.D.Disk.state c.args.disk.now) in
    let level = c.args.level in
    let s = c.args.s in
    let done : c.loop-i.i ≡ SECTOR_POINTERS = omega (arith, c.loop-i-test.false, c.loop-i.auto.i-end) in (
      (λ good. data_within p m (times_reached m level s) (λ r. times_reached m 0 s r + sum_to (λ k. times_reached m (level - 1) (pointer_in m s k) r) SECTOR_POINTERS)
          (λ r. let whole = reached_next m level s r c.if-level-eq0.false in omega (arith, whole))
          (subst (λ n. AreInDataArea p (λ r. times_reached m 0 s r + sum_to (λ k. times_reached m (level - 1) (pointer_in m s k) r) n)) done c.loop-i.invariant.good)),
      (λ all. refl),
    )

pub returns-clause-marked : goal.returns-clause-marked
returns-clause-marked g t c = λ good counts x.
    let p = c.args.opened.now.geometry in
    let m = meaning (g.D.Disk.state c.args.disk.now) in
    let level = c.args.level in
    let s = c.args.s in
    let few : level - 1 < POINTER_LEVELS = omega (arith, c.requires.level, c.if-level-eq0.false) in
    let is : level - 1 + 1 ≡ level = omega (arith, c.if-level-eq0.false) in
    let done : c.loop-i.i ≡ SECTOR_POINTERS = omega (arith, c.loop-i-test.false, c.loop-i.auto.i-end) in
    let all = subst (λ n. AddsOwners p m (λ r. times_reached m 0 s r + sum_to (λ k. times_reached m (level - 1) (pointer_in m s k) r) n) c.args.marks.now c.loop-i.marks) done
    c.loop-i.invariant.marked in
    c.pass.ensures m counts (λ set_there. passed_before p m level (level - 1) s is few c.args.marks.now counts (c.was_passed-before.ensures.0 set_there) x)
    (adds_same p m (λ r. times_reached m 0 s r + sum_to (λ k. times_reached m (level - 1) (pointer_in m s k) r) SECTOR_POINTERS) (times_reached m level s) c.args.marks.now
    c.loop-i.marks (λ r. sym (reached_next m level s r c.if-level-eq0.false)) all counts x)

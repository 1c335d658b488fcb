use Rattle.std.proofs.Common.{◌≡◌, ◌≢◌, true, false, sym, arith, refl, ◌∙◌}
use Rattle.fs_layout.specs.Images.{pointer}
use Rattle.sector_disk.proofs.Moments.{reads_joined}
use Rattle.fs_check.specs.Checks.{meaning}
use Rattle.fs_check.proofs.Carrying.{hand_back, hand_still, above_still, number_back, opened_still, read_error}
use Rattle.fs_check.proofs.DataNumbers.{above_owned}
use Rattle.fs_check.proofs.Tables.{more_good}
use Rattle.fs_check.proofs.contents.has_no_hole.Goals as goal

pub number-requires-clause-opened : goal.number-requires-clause-opened
number-requires-clause-opened g c = opened_still c.loop-k.invariant.reads c.requires.opened

pub number-requires-clause-above : goal.number-requires-clause-above
number-requires-clause-above g c =
    let p = c.args.opened.now.geometry in
    let v = c.args.inode.now in
    above_still c.loop-k.invariant.reads p v 0 (above_owned p (meaning (g.D.Disk.state c.args.disk.now)) v c.requires.in_data 0)

pub number-requires-clause-at_hand : goal.number-requires-clause-at_hand
number-requires-clause-at_hand g c = hand_still c.loop-k.invariant.reads c.loop-k.pointers c.loop-k.invariant.at_hand

pub returns-then-branch-eq0-clause-test : goal.returns-then-branch-eq0-clause-test
returns-then-branch-eq0-clause-test g c =
    let v = c.args.inode.now in
    let k = c.loop-k.k in
    let lt = c.loop-k-test.true in
    let count = c.needed_numbers-k-end.ensures.is in
    let is = number_back c.loop-k.invariant.reads v 0 k c.in_ok-number.field-0 c.in_ok-number.ensures.number in (
      (λ f. absurd (let e : false ≡ true = f in cc)),
      (λ whole. absurd (whole k (omega (arith, lt, count)) (sym is ∙ c.if-branch-eq0.true))),
    )

pub loop-k-preserved : goal.loop-k-preserved
loop-k-preserved g c =
    let m = meaning (g.D.Disk.state c.args.disk.now) in
    let v = c.args.inode.now in
    let so_far = c.loop-k.invariant in
    let is = number_back so_far.reads v 0 c.loop-k.k c.in_ok-number.field-0 c.in_ok-number.ensures.number in
    record {
      reads = reads_joined so_far.reads c.in_ok-number.ensures.passed.reads;
      at_hand = hand_back so_far.reads c.number.new.self c.in_ok-number.ensures.at_hand;
      some = more_good (λ j. pointer m v j ≢ 0) c.loop-k.k so_far.some (λ none. c.if-branch-eq0.false (is ∙ none));
    }

pub returns-clause-test : goal.returns-clause-test
returns-clause-test g c = (
  (λ t k lt. let past = c.loop-k-test.false in let count = c.needed_numbers-k-end.ensures.is in c.loop-k.invariant.some k (omega (arith, lt, past, count))),
  (λ whole. refl),
)

pub returns-in_err-number-clause-passed : goal.returns-in_err-number-clause-passed
returns-in_err-number-clause-passed g c = read_error c.loop-k.invariant.reads c.from_residual.result c.from_residual.ensures.1 c.in_err-number.ensures.passed

pub returns-then-branch-eq0-clause-passed : goal.returns-then-branch-eq0-clause-passed
returns-then-branch-eq0-clause-passed g c = record { reads = reads_joined c.loop-k.invariant.reads c.in_ok-number.ensures.passed.reads; reason = tt }

pub returns-clause-passed : goal.returns-clause-passed
returns-clause-passed g c = record { reads = c.loop-k.invariant.reads; reason = tt }

use Rattle.std.proofs.Common.{arith, refl}
use Rattle.fs_check.proofs.FitNumbers.{one_more_none, some_there}
use Rattle.fs_check.proofs.contents.are_none.Goals as goal

pub loop-i-init : goal.loop-i-init
loop-i-init c = record { from = omega arith; none = λ m at i ge lt. absurd (omega (arith, ge, lt)) }

pub returns-then-number-ne0 : goal.returns-then-number-ne0
returns-then-number-ne0 c = λ m at.
    let i = c.loop-i.i in
    let from = c.loop-i.invariant.from in
    let lt = c.loop-i-test.true in
    some_there m c.args.inode.now c.args.level c.args.first c.args.end i c.number.result from lt (c.number.ensures m (at i from lt)) c.if-number-ne0.true

pub loop-i-preserved : goal.loop-i-preserved
loop-i-preserved c =
    let i = c.loop-i.i in
    let from = c.loop-i.invariant.from in
    record {
      from = omega (arith, from);
      none = λ m at.
          one_more_none m c.args.inode.now c.args.level c.args.first i c.number.result (c.number.ensures m (at i from c.loop-i-test.true)) c.if-number-ne0.false
          (c.loop-i.invariant.none m at);
    }

pub returns : goal.returns
returns c = λ m at. (
  (λ t i ge lt. let past = c.loop-i-test.false in c.loop-i.invariant.none m at i ge (omega (arith, lt, past))),
  (λ none. refl),
)

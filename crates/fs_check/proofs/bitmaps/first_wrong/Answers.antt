use Rattle.std.proofs.Common.{◌≤◌, ◌*◌, arith}
use Rattle.fs_model.specs.Rules.{IsBlockBit}
use Rattle.fs_check.proofs.BitTests.{same_bits, other_bits, is_block_bit, in_sector}
use Rattle.fs_check.proofs.Tables.{more_good}
use Rattle.fs_check.proofs.bitmaps.first_wrong.Goals as goal

pub loop-s-preserved : goal.loop-s-preserved
loop-s-preserved c = λ m owners there i low lt.
    let s = c.loop-s.s in
    let is = c.has_bit.ensures m c.args.geometry.block_bitmap (in_sector m c.args.geometry.block_bitmap c.args.k s c.args.map.now c.loop-s.auto.s c.loop-s-test.true there) in
    let test = is_block_bit c.args.geometry m s c.has_bit.result c.is_used.result is (c.is_used.ensures m owners) in
    more_good (λ j. 4096 * c.args.k ≤ j → IsBlockBit c.args.geometry m j) s (λ j below from. c.loop-s.invariant m owners there j from below)
    (λ from. test.0 (same_bits _ _ c.if-has_bit-is_used.false)) i lt low

pub returns-then-has_bit-is_used-clause-wrong : goal.returns-then-has_bit-is_used-clause-wrong
returns-then-has_bit-is_used-clause-wrong c = λ m owners there.
    let s = c.loop-s.s in
    let is = c.has_bit.ensures m c.args.geometry.block_bitmap (in_sector m c.args.geometry.block_bitmap c.args.k s c.args.map.now c.loop-s.auto.s c.loop-s-test.true there) in
    let test = is_block_bit c.args.geometry m s c.has_bit.result c.is_used.result is (c.is_used.ensures m owners) in
    (c.loop-s-test.true, λ right. other_bits _ _ c.if-has_bit-is_used.true (test.1 right), λ i low lt. c.loop-s.invariant m owners there i low lt)

pub returns-clause-none : goal.returns-clause-none
returns-clause-none c = λ m owners there i low lt. c.loop-s.invariant m owners there i low (let past = c.loop-s-test.false in omega (arith, lt, past))

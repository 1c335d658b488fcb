use Rattle.std.proofs.Common.{true, false}
use Rattle.std.specs.Int.{w64}
use Rattle.std.proofs.lemmas.Int.{to_z-of_z}
use Rattle.file_calls.proofs.Seeking.{below, not_below, moves_out, moves_to}
use Rattle.file_calls.proofs.transfer.moved.Goals as goal

pub returns-in_default : goal.returns-in_default
returns-in_default c = moves_out c.args.base c.args.by _ (to_z-of_z w64 c.args.by c.ranges.by) c.in_default.ensures

pub returns-then-offset-lt-OFFSET_END : goal.returns-then-offset-lt-OFFSET_END
returns-then-offset-lt-OFFSET_END c =
    let low = c.if-offset-lt-OFFSET_END.true in
    moves_to c.args.base c.args.by _ c.in-Some.offset (to_z-of_z w64 c.args.by c.ranges.by) c.in-Some.ensures true (below c.in-Some.offset low)

pub returns-else-offset-lt-OFFSET_END : goal.returns-else-offset-lt-OFFSET_END
returns-else-offset-lt-OFFSET_END c =
    let high = c.if-offset-lt-OFFSET_END.false in
    moves_to c.args.base c.args.by _ c.in-Some.offset (to_z-of_z w64 c.args.by c.ranges.by) c.in-Some.ensures false (not_below c.in-Some.offset high)

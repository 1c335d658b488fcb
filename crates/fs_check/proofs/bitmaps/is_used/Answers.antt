use Rattle.std.proofs.Common.{rules, sym, ◌∙◌}
use Rattle.fs_check.proofs.BitTests.{used_there}
use Rattle.fs_check.proofs.bitmaps.is_used.Goals as goal

pub returns-then-geometry-s : goal.returns-then-geometry-s
returns-then-geometry-s c = search rules

pub returns-else-geometry-s : goal.returns-else-geometry-s
returns-else-geometry-s c = λ m owners.
    let test = used_there c.args.geometry m c.args.owned.now c.args.s owners c.if-geometry-s.false.0 c.if-geometry-s.false.1 in
    ((λ set. test.0 (sym c.has.ensures ∙ set)), (λ used. c.has.ensures ∙ test.1 used))

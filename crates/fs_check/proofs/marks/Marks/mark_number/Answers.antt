use Rattle.std.proofs.Common.{refl}
use Rattle.fs_check.proofs.Counts.{none_data, none_adds, here_data, outside}
use Rattle.fs_check.proofs.marks.Marks.mark_number.Goals as goal

pub returns-then-s-eq0-clause-test : goal.returns-then-s-eq0-clause-test
returns-then-s-eq0-clause-test c = λ m. ((λ t. none_data c.args.geometry m 0 c.args.s c.if-s-eq0.true), (λ all. refl))

pub returns-then-s-eq0-clause-marked : goal.returns-then-s-eq0-clause-marked
returns-then-s-eq0-clause-marked c = λ t m. none_adds c.args.geometry m 0 c.args.s c.args.self.now c.if-s-eq0.true

pub returns-then-not-is_data-clause-test : goal.returns-then-not-is_data-clause-test
returns-then-not-is_data-clause-test c = λ m.
    outside c.args.geometry m 0 c.args.s c.is_data.result c.if-s-eq0.false c.is_data.ensures c.if-not-is_data.true

pub returns-clause-test : goal.returns-clause-test
returns-clause-test c = λ m. ((λ t. here_data c.args.geometry m c.args.s (c.is_data.ensures.0 c.if-not-is_data.false)), (λ all. refl))

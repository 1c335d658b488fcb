use Rattle.std.proofs.Common.{ap, arith}
use Rattle.fs_layout.specs.Images.{own_count}
use Rattle.fs_layout.proofs.Pointers.{no_level, none_on_next, number_past_next, own_count_above}
use Rattle.fs_layout.proofs.inode.Inode.+number_end.Goals as goal

pub returns-then-level-gt-POINTER_LEVELS-clause-past : goal.returns-then-level-gt-POINTER_LEVELS-clause-past
returns-then-level-gt-POINTER_LEVELS-clause-past t c = λ image i ge. no_level image c.args.self.now c.args.level i (omega (arith, c.if-level-gt-POINTER_LEVELS.true))

pub returns-then-level-eq0-clause-past : goal.returns-then-level-eq0-clause-past
returns-then-level-eq0-clause-past t c = λ image i ge.
    number_past_next image c.args.self.now c.args.level c.number_end-listed.result 12 (ap own_count c.if-level-eq0.true) (c.number_end-listed.ensures.past image) i ge

pub returns-then-self-level-eq0-clause-past : goal.returns-then-self-level-eq0-clause-past
returns-then-self-level-eq0-clause-past t c = λ image i ge.
    none_on_next image c.args.self.now c.args.level c.number_end-listed.result c.if-level-eq0.false (omega (arith, c.if-level-gt-POINTER_LEVELS.false))
    (omega (arith, c.if-listed-eq0.true)) c.if-self-level-eq0.true (c.number_end-listed.ensures.past image) i

pub returns-clause-past : goal.returns-clause-past
returns-clause-past t c = λ image i ge.
    number_past_next image c.args.self.now c.args.level c.number_end-listed.result 1 (own_count_above c.args.level c.if-level-eq0.false)
    (c.number_end-listed.ensures.past image) i ge

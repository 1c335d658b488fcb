use Rattle.std.proofs.Common.{sym, arith}
use Rattle.fs_layout.proofs.Pointers.{no_level, own_count_above}
use Rattle.block_map.proofs.Numbers.{none_above, within_unchanged, has_unchanged, has_before, next_pointers, number_before}
use Rattle.block_map.proofs.Rewritten.{all_zeros}
use Rattle.block_map.proofs.Runs.{unchanged_joined}
use Rattle.block_map.proofs.blocks.+read_pointers.Goals as goal

pub returns-then-level-gt-POINTER_LEVELS-clause-number : goal.returns-then-level-gt-POINTER_LEVELS-clause-number
returns-then-level-gt-POINTER_LEVELS-clause-number g t c = sym (no_level _ c.args.inode.now c.args.level c.args.i (omega (arith, c.if-level-gt-POINTER_LEVELS.true)))

pub returns-then-level-gt-POINTER_LEVELS-clause-content : goal.returns-then-level-gt-POINTER_LEVELS-clause-content
returns-then-level-gt-POINTER_LEVELS-clause-content g t c =
    none_above _ c.args.inode.now c.args.level c.args.i _ (omega (arith, c.if-level-gt-POINTER_LEVELS.true)) (all_zeros (c.fill.ensures.after (λ y e. e)) (omega arith))

pub read_listed-requires-clause-listed : goal.read_listed-requires-clause-listed
read_listed-requires-clause-listed g t c = λ ge.
    absurd (let one = own_count_above c.args.level (λ e. let l = c.requires.level.0 in omega (arith, l, e)) in omega (arith, ge, one, c.if-i-eq0.true))

pub read_listed-requires-2-clause-within : goal.read_listed-requires-2-clause-within
read_listed-requires-2-clause-within g t c = within_unchanged c.in_ok-read_pointers.ensures.same c.requires.within

pub read_listed-requires-2-clause-listed : goal.read_listed-requires-2-clause-listed
read_listed-requires-2-clause-listed g t c = λ ge.
    next_pointers c.args.inode.now c.args.level c.args.i (λ e. let l = c.requires.level.0 in omega (arith, l, e))
    (has_unchanged c.in_ok-read_pointers.ensures.same c.in_ok-read_pointers.ensures.content)

pub returns-clause-number : goal.returns-clause-number
returns-clause-number g t c = number_before c.in_ok-read_pointers.ensures.same c.args.inode.now c.args.level c.args.i c.in_ok-number-2.ensures.number

pub returns-clause-content : goal.returns-clause-content
returns-clause-content g t c = has_before c.in_ok-read_pointers.ensures.same c.in_ok-number-2.ensures.content

pub returns-clause-same : goal.returns-clause-same
returns-clause-same g t c = unchanged_joined c.in_ok-read_pointers.ensures.same c.in_ok-number-2.ensures.same

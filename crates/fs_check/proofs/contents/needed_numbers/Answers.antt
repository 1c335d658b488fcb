use Rattle.std.proofs.Common.{◌≡◌, ◌+◌, ◌-◌, ◌/◌, sym, ap, arith, ◌∙◌}
use Rattle.fs_layout.specs.Images.{own_count}
use Rattle.fs_model.specs.Nodes.{numbers_for}
use Rattle.fs_check.proofs.DataNumbers.{next_level}
use Rattle.fs_check.proofs.contents.needed_numbers.Goals as goal

pub loop-below-init : goal.loop-below-init
loop-below-init c = record { most = omega arith; is = omega (arith, c.div_ceil-count.ensures); few = omega (arith, c.div_ceil-count.ensures) }

pub loop-below-preserved : goal.loop-below-preserved
loop-below-preserved c =
    let below = c.loop-below.below in
    let so_far = c.loop-below.invariant in
    let few = so_far.few in
    let left = c.saturating_sub.ensures ∙ ap (λ n. c.loop-below.count - n) c.own_count.ensures in
    let next : c.div_ceil-count-in-loop-below.result ≡ (c.loop-below.count - own_count below + 127) / 128 = omega (arith, c.div_ceil-count-in-loop-below.ensures, left) in
    record {
      most = omega (arith, c.loop-below-test.true);
      is = next ∙ ap (λ n. (n - own_count below + 127) / 128) so_far.is ∙ ap (λ n. numbers_for n c.args.inode.now.size) (sym (next_level below));
      few = omega (arith, next, few);
    }

pub returns-clause-is : goal.returns-clause-is
returns-clause-is c =
    let most = c.loop-below.invariant.most in
    c.loop-below.invariant.is ∙ ap (λ n. numbers_for n c.args.inode.now.size) (let e : c.loop-below.below ≡ c.args.level = omega (arith, c.loop-below-test.false, most) in e)

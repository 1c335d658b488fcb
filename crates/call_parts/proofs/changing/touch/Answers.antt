use Rattle.std.proofs.Common.{arith, sym, ◌∙◌}
use Rattle.bit_alloc.proofs.Transactions.{unchanged_nothing}
use Rattle.call_parts.proofs.Alterings.{not_changed_later}
use Rattle.call_parts.proofs.TouchedTrees.{below_at, touching_begun, touching_on, touching_done, untouched}
use Rattle.call_parts.proofs.changing.touch.Goals as goal

pub returns-then-not-keeps_times : goal.returns-then-not-keeps_times
returns-then-not-keeps_times g c =
    record { store = unchanged_nothing.store; made = untouched (sym c.keeps_times.ensures ∙ c.if-not-keeps_times.true); fault = tt }

pub loop-ino-init : goal.loop-ino-init
loop-ino-init g c = touching_begun c.requires.sound

pub touch_inode-requires : goal.touch_inode-requires
touch_inode-requires g c =
    let taken = c.loop-ino.invariant.taken in
    let room = c.requires.spare in
    let lt = c.loop-ino-test.true in
    record {
      ready = record { sound = c.loop-ino.invariant.sound; spare = omega (arith, taken, room, lt) };
      below = below_at _ _ _ c.requires.below lt;
    }

pub returns-in_err-touch_inode : goal.returns-in_err-touch_inode
returns-in_err-touch_inode g c =
    not_changed_later _ _ c.from_residual.ensures c.loop-ino.invariant.store c.in_err-touch_inode.ensures.store c.in_err-touch_inode.ensures.fault

pub loop-ino-preserved : goal.loop-ino-preserved
loop-ino-preserved g c =
    let e = c.in_ok-touch_inode.ensures in
    touching_on _ c.loop-ino-test.true c.loop-ino.invariant e.store e.made.super e.sound e.taken e.made.held

pub returns : goal.returns
returns g c =
    let all = c.loop-ino.auto in
    let ends = c.loop-ino-test.false in
    record {
      store = c.loop-ino.invariant.store;
      made = touching_done (sym c.keeps_times.ensures ∙ c.if-not-keeps_times.false) (omega (arith, all.ino-index-end, ends)) c.loop-ino.invariant;
      fault = tt;
    }

use Rattle.std.proofs.Common.{◌≡◌, ◌≤◌, ◌+◌, ◌-◌, ◌/◌, ◌%◌, refl, sym, ap, subst, ◌∙◌, length, take, drop, arith, rules}
use Rattle.std.specs.Prelude.{min}
use Rattle.std.proofs.lemmas.List.{length-take-le, length-drop}
use Rattle.fs_layout.specs.Header.{log_end}
use Rattle.fs_layout.specs.Images.{pointer, byte_in}
use Rattle.block_map.specs.Blocks.{IsWithin}
use Rattle.block_map.proofs.Numbers.{at_hand_before, at_hand_unchanged, number_within, pointer_before, within_unchanged}
use Rattle.bit_alloc.proofs.Passing.{fault_on, no_fault}
use Rattle.block_map.proofs.Runs.{unchanged_joined, same_map}
use Rattle.block_map.proofs.Reading.{more_read, none_read, all_read}
use Rattle.sector_txn.proofs.TransactionRuns.{store_joined}
use Rattle.block_map.proofs.read.read_at.Goals as goal

pub load-requires-clause-within : goal.load-requires-clause-within
load-requires-clause-within g c =
    let mid = g.S.Sectors.state c.loop-done.s in
    subst (λ v. IsWithin mid.header mid.disk.size mid.sectors v) (sym c.loop-done.invariant.inode) (within_unchanged c.loop-done.invariant.same c.requires.within)

pub load-requires-clause-at_hand : goal.load-requires-clause-at_hand
load-requires-clause-at_hand g c = at_hand_unchanged c.loop-done.invariant.same c.loop-done.invariant.at_hand

pub read_block-requires-clause-within : goal.read_block-requires-clause-within
read_block-requires-clause-within g c =
    let mid = g.S.Sectors.state c.loop-done.s in
    let k = (c.args.offset + c.loop-done.done) / 512 in
    let is : c.number-number.result ≡ pointer (g.S.Sectors.state c.args.s.now).sectors c.args.inode.now k =
    pointer_before c.loop-done.invariant.same k (c.number-number.ensures mid.sectors c.in_ok-load.ensures.loaded) (c.in_ok-load.ensures.inode ∙ c.loop-done.invariant.inode) in
    λ some.
    let w = number_within (g.S.Sectors.state c.args.s.now).header c.args.inode.now k c.requires.within is some in
    let first = c.loop-done.invariant.same.store in
    let then = c.in_ok-load.ensures.same.store in
    (omega (arith, w.0, ap log_end first.header, ap log_end then.header), omega (arith, w.1, first.reads.narrowed.size, then.reads.narrowed.size))

pub loop-done-init : goal.loop-done-init
loop-done-init g c = record {
  few = omega arith;
  inode = c.new-blocks.ensures.inode;
  at_hand = c.new-blocks.ensures.at_hand (g.S.Sectors.state c.args.s.now).sectors;
  same = search rules;
  read = none_read (g.S.Sectors.state c.args.s.now).sectors c.args.inode.now c.args.offset c.args.to.now;
}

pub loop-done-preserved : goal.loop-done-preserved
loop-done-preserved g c =
    let old = g.S.Sectors.state c.args.s.now in
    let mid = g.S.Sectors.state c.loop-done.s in
    let k = (c.args.offset + c.loop-done.done) / 512 in
    let at = (c.args.offset + c.loop-done.done) % 512 in
    let len = c.min-len.result in
    let room : c.loop-done.done + len ≤ length c.loop-done.to = omega (arith, c.min-len.ensures, c.min-count.ensures) in
    let wide : length (take (c.loop-done.done + len - c.loop-done.done) (drop c.loop-done.done c.loop-done.to)) ≡ len =
    length-take-le (c.loop-done.done + len - c.loop-done.done) (drop c.loop-done.done c.loop-done.to) (omega (arith, length-drop c.loop-done.done c.loop-done.to, room)) ∙ omega arith in
    let is : c.number-number.result ≡ pointer old.sectors c.args.inode.now k =
    pointer_before c.loop-done.invariant.same k (c.number-number.ensures mid.sectors c.in_ok-load.ensures.loaded) (c.in_ok-load.ensures.inode ∙ c.loop-done.invariant.inode) in
    let so_far = unchanged_joined c.loop-done.invariant.same c.in_ok-load.ensures.same in
    let same = same_map old.sectors (g.S.Sectors.state c.load.new.s).sectors so_far.sectors in
    record {
      few = omega arith;
      inode = c.in_ok-load.ensures.inode ∙ c.loop-done.invariant.inode;
      at_hand = at_hand_before c.loop-done.invariant.same c.in_ok-load.ensures.loaded.at_hand;
      same = unchanged_joined so_far c.in_ok-read_block.ensures.same;
      read = more_read c.loop-done.invariant.read c.read_block.new.to len k at (pointer old.sectors c.args.inode.now k) c.number-number.result
          (c.read_block.auto.to ∙ wide) room (omega arith) (omega (arith, c.min-len.ensures)) refl is
          (λ i lt. c.in_ok-read_block.ensures.bytes i (omega (arith, lt, wide)) ∙ ap (λ image. byte_in image c.number-number.result (at + i)) same);
    }

pub returns-clause-bytes : goal.returns-clause-bytes
returns-clause-bytes g c = all_read c.loop-done.invariant.read (omega arith) (c.min-count.ensures ∙ ap (min (length c.args.to.now)) c.saturating_sub.ensures)

pub returns-in_err-load-clause-same : goal.returns-in_err-load-clause-same
returns-in_err-load-clause-same g c = unchanged_joined c.loop-done.invariant.same c.in_err-load.ensures.same

pub returns-in_err-load-clause-cause : goal.returns-in_err-load-clause-cause
returns-in_err-load-clause-cause g c = fault_on c.loop-done.invariant.same.store c.in_err-load.ensures.cause c.from_residual.result c.from_residual.ensures

pub returns-in_err-read_block-clause-same : goal.returns-in_err-read_block-clause-same
returns-in_err-read_block-clause-same g c = unchanged_joined (unchanged_joined c.loop-done.invariant.same c.in_ok-load.ensures.same) c.in_err-read_block.ensures.same

pub returns-in_err-read_block-clause-cause : goal.returns-in_err-read_block-clause-cause
returns-in_err-read_block-clause-cause g c =
    fault_on (store_joined c.loop-done.invariant.same.store c.in_ok-load.ensures.same.store) c.in_err-read_block.ensures.cause c.from_residual-in_err-read_block.result c.from_residual-in_err-read_block.ensures

pub returns-clause-cause : goal.returns-clause-cause
returns-clause-cause g c = no_fault c.loop-done.invariant.same.store

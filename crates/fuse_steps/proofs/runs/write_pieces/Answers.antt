use Rattle.std.specs.Prelude.{◌≡◌, ℕ, ◌+◌, ◌-◌, ◌/◌, ◌<◌, ◌≤◌, ◌^◌, length}
use Rattle.std.proofs.Common.{ap, ◌∙◌, arith, rules}
use Rattle.std.proofs.lemmas.Bool.{le-ltb, lt-ltb}
use Rattle.fuse_plans.specs.FilePlans.{pieces_in, write_pieces}
use Rattle.fuse_steps.proofs.Steps.{machine-same, machine-last-fails, machine-gives}
use Rattle.fuse_steps.proofs.Pieces.{write-more, write-short, write-refused, one-more, no-more, pieces-end}
use Rattle.fuse_steps.proofs.runs.write_pieces.Goals as goal

pub returns-then-size-eq0 : goal.returns-then-size-eq0
unfolding write_pieces
returns-then-size-eq0 g c =
    let none = pieces-end c.args.most (length c.args.bytes.now / c.args.most + 1 - c.loop-round._round) c.loop-round.rest.now (omega (arith, c.requires.some, c.min-size.ensures, c.if-size-eq0.true)) in
    c.loop-round.invariant.0 _ _ (machine-same (ap (write_pieces _ _ _) none) (machine-gives _ _))

pub overflow_add-at : goal.overflow_add-at
overflow_add-at g c = omega (arith, c.loop-round.invariant.1, c.requires.offset)

pub returns-in_err-count : goal.returns-in_err-count
returns-in_err-count g c =
    let next = one-more c.args.most (length c.args.bytes.now / c.args.most + 1) c.loop-round._round c.min-size.result c.loop-round.rest.now c.split_at.result.1.now c.split_at.result.0.now
    c.loop-round-test.true (omega (arith, c.min-size.ensures)) (omega (arith, c.if-size-eq0.false)) c.split_at.ensures.front c.split_at.ensures.back in
    c.loop-round.invariant.0 _ _ (machine-last-fails c.from_residual.ensures (machine-same (ap (write_pieces _ _ _) next)
    (write-refused _ _ c.loop-round.done c.split_at.result.0.now _ c.write_piece-wrote.ensures.did c.in_err-count.ensures.done)))

pub overflow_add-done : goal.overflow_add-done
overflow_add-done g c =
    let few = c.in_ok-count.ensures.most _ c.write_piece-wrote.ensures.most in
    omega (arith, few, c.split_at.ensures.front_len, c.min-size.ensures, c.loop-round.invariant.1, c.requires.offset)

pub returns-then-count-size : goal.returns-then-count-size
returns-then-count-size g c =
    let next = one-more c.args.most (length c.args.bytes.now / c.args.most + 1) c.loop-round._round c.min-size.result c.loop-round.rest.now c.split_at.result.1.now c.split_at.result.0.now
    c.loop-round-test.true (omega (arith, c.min-size.ensures)) (omega (arith, c.if-size-eq0.false)) c.split_at.ensures.front c.split_at.ensures.back in
    let full : length c.split_at.result.0.now ≡ c.min-size.result = c.split_at.ensures.front_len in
    c.loop-round.invariant.0 _ _ (machine-same (ap (write_pieces _ _ _) next)
    (write-short _ _ c.loop-round.done c.in_ok-count.count c.split_at.result.0.now _ c.write_piece-wrote.ensures.did c.in_ok-count.ensures.done
    (lt-ltb c.in_ok-count.count (length c.split_at.result.0.now) (omega (arith, full, c.if-count-size.true)))))

pub loop-round-preserved : goal.loop-round-preserved
loop-round-preserved g c =
    let next = one-more c.args.most (length c.args.bytes.now / c.args.most + 1) c.loop-round._round c.min-size.result c.loop-round.rest.now c.split_at.result.1.now c.split_at.result.0.now
    c.loop-round-test.true (omega (arith, c.min-size.ensures)) (omega (arith, c.if-size-eq0.false)) c.split_at.ensures.front c.split_at.ensures.back in
    let full : length c.split_at.result.0.now ≡ c.min-size.result = c.split_at.ensures.front_len in
    let few = c.in_ok-count.ensures.most _ c.write_piece-wrote.ensures.most in (
      λ fin r did. c.loop-round.invariant.0 fin r (machine-same (ap (write_pieces _ _ _) next)
          (write-more _ _ c.loop-round.done c.in_ok-count.count c.split_at.result.0.now _ c.write_piece-wrote.ensures.did c.in_ok-count.ensures.done
          (le-ltb c.in_ok-count.count (length c.split_at.result.0.now) (omega (arith, full, c.if-count-size.false))) did)),
      omega (arith, few, full, c.split_at.ensures.back_len, c.min-size.ensures, c.loop-round.invariant.1),
    )

pub returns : goal.returns
unfolding write_pieces
returns g c =
    let none = no-more (length c.args.bytes.now / c.args.most + 1) c.loop-round._round c.loop-round-test.false in
    c.loop-round.invariant.0 _ _ (machine-same (ap (λ (k : ℕ). write_pieces c.args.handle c.args.offset c.loop-round.done (pieces_in c.args.most k c.loop-round.rest.now)) none)
    (machine-gives _ _))

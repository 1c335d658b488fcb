use Rattle.std.proofs.Common.{◌≡◌, ◌+◌, ℕ, Bool, true, sym, subst}
use Rattle.fs_images.specs.NewTables.{is_outside}
use Rattle.fs_images.proofs.MakingTables.{IsFilled, set_next, clear_next, low_is_outside, high_is_outside, is_inside}
use Rattle.fs_images.proofs.new_tables.bitmap_byte.Goals as goal
use Rattle.fs_images.proofs.new_tables.bitmap_byte.Goals.{then-n-low, then-n-low-via-then-n-low, then-n-low-via-else-n-low+then-high-n, else-n-low+else-high-n}

pub loop-k-preserved : goal.loop-k-preserved
loop-k-preserved c =
    let low = c.args.low in
    let high = c.args.high in
    let k = c.loop-k.k in
    let f : ℕ → Bool = λ j. is_outside low high (c.args.first + j) in
    elim c.if-n-low.branch [
      | then-n-low w ↦
          let set : f k ≡ true = elim w.then-n-low.branch [
            | then-n-low-via-then-n-low w' ↦ low_is_outside low high (c.args.first + k) w'.if-n-low.true
            | then-n-low-via-else-n-low+then-high-n w' ↦ high_is_outside low high (c.args.first + k) w'.if-high-n.true
          ] in
          subst (IsFilled f (k + 1)) (sym w.byte-is) (set_next f k c.loop-k.byte c.loop-k-test.true set c.loop-k.invariant)
      | else-n-low+else-high-n w ↦
          subst (IsFilled f (k + 1)) (sym w.byte-is) (clear_next f k c.loop-k.byte (is_inside low high (c.args.first + k) w.if-n-low.false w.if-high-n.false) c.loop-k.invariant)
    ]

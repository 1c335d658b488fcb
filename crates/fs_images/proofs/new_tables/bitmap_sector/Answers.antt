use Rattle.std.proofs.Common.{◌≡◌, ◌+◌, ◌*◌, arith, ap, ◌∙◌}
use Rattle.fs_layout.specs.Bytes.{zeros}
use Rattle.fs_images.specs.NewTables.{is_outside}
use Rattle.fs_images.proofs.MakingTables.{no_byte_filled, byte_next, is_bitmap}
use Rattle.fs_images.proofs.new_tables.bitmap_sector.Goals as goal

pub loop-i-init : goal.loop-i-init
unfolding zeros
loop-i-init c = no_byte_filled (λ n. is_outside c.args.low c.args.high (c.args.first + n))

pub loop-i-preserved : goal.loop-i-preserved
loop-i-preserved c =
    let i = c.loop-i.i in
    byte_next (λ n. is_outside c.args.low c.args.high (c.args.first + n)) i c.bitmap_byte.result c.loop-i.content c.loop-i-test.true (omega arith)
    (λ k lt. c.bitmap_byte.ensures k lt ∙ ap (is_outside c.args.low c.args.high) (let e : c.args.first + 8 * i + k ≡ c.args.first + (8 * i + k) = omega arith in e)) c.loop-i.invariant

pub returns : goal.returns
returns c = is_bitmap c.args.first c.args.low c.args.high c.loop-i.i c.loop-i.content c.loop-i-test.false c.loop-i.invariant

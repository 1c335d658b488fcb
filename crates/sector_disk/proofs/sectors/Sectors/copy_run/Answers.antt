use Rattle.std.proofs.Common.{◌≡◌, arith, length}
use Rattle.sector_disk.proofs.Placed.{copied_all}
use Rattle.sector_disk.proofs.sectors.Sectors.copy_run.Goals as goal

pub returns : goal.returns
returns c =
    let fits = c.requires.fits in
    let size = c.loop-i.auto.to in
    let all : c.loop-i.i ≡ length c.loop-i.to = let not_below = c.loop-i-test.false in let end = c.loop-i.auto.i-end in omega (arith, not_below, end, size) in
    copied_all c.args.first c.loop-i.i c.args.self.now.shown c.loop-i.to all (omega (arith, fits, size)) c.loop-i.invariant

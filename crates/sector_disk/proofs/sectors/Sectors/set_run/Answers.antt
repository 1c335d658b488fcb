use Rattle.std.proofs.Common.{◌+◌, refl, subst, sym, take}
use Rattle.sector_disk.specs.Disk.{Image, sector}
use Rattle.sector_disk.specs.Places.{IsRunSet}
use Rattle.sector_disk.proofs.Placed.{run_more}
use Rattle.sector_disk.proofs.sectors.Sectors.set_run.Goals as goal

pub loop-i-preserved : goal.loop-i-preserved
loop-i-preserved c =
    let first = c.args.first in
    let run = c.args.run.now in
    let old = c.args.self.now.shown in
    let i = c.loop-i.i in
    subst (λ (image : Image). IsRunSet first (take (i + 1) run) old image) (sym c.in_ok-set.ensures.ok)
    (run_more first i run old c.loop-i.self.shown (sector run i) c.loop-i-test.true c.requires.fits refl
    c.loop-i.invariant)

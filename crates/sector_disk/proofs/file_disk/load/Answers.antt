use Rattle.std.proofs.Common.{[], false, sym, subst}
use Rattle.std.specs.Prelude.{IfSome}
use Rattle.sector_disk.specs.Record.{recorded_state}
use Rattle.sector_disk.specs.Replay.{seen_is_image}
use Rattle.sector_disk.specs.Files.{IsHeldStable}
use Rattle.sector_disk.proofs.Following.{follows_stable, both, read_stable}
use Rattle.sector_disk.proofs.file_disk.load.Goals as goal

pub returns-clause-follows : goal.returns-clause-follows
returns-clause-follows g c =
    let disk = c.with_sectors.result in
    let sectors = c.in_ok-sectors.sectors.shown in
    let file = g.F.DiskFile.held c.read_sectors.new.file in
    follows_stable (recorded_state disk.history disk.failures) sectors [] false file (seen_is_image disk.history disk.failures) c.with_sectors.ensures.seen
    (both file (subst (λ o. IfSome o IsHeldStable) (sym c.read_sectors.ensures.same) c.in-Ok.ensures.stable) c.in_ok-sectors.ensures.content (λ h stable has. read_stable sectors h stable has))

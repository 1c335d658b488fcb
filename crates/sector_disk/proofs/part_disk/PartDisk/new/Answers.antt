use Rattle.sector_disk.proofs.Parted.{fresh}
use Rattle.sector_disk.proofs.part_disk.PartDisk.new.Goals as goal

pub returns : goal.returns
returns g c = fresh (g.F.DiskFile.held c.args.part.file) c.args.part.sectors.shown

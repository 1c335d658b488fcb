use Rattle.sector_disk.proofs.Parted.{has_image}
use Rattle.sector_disk.proofs.part_disk.PartDisk.into_file.Goals as goal

pub returns : goal.returns
returns g c = rw c.into_file.ensures (has_image (g.F.DiskFile.held c.args.self.part.file) c.args.self.part.sectors.shown)

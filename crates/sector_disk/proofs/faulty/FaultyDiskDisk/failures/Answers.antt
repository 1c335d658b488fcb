use Rattle.std.proofs.Common.{rules}
use Rattle.sector_disk.proofs.faulty.FaultyDiskDisk.failures.Goals as goal

pub returns : goal.returns
returns g c = search rules

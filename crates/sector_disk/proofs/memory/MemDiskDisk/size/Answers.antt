use Rattle.std.proofs.Common.{rules}
use Rattle.sector_disk.proofs.memory.MemDiskDisk.size.Goals as goal

pub returns : goal.returns
returns c = search rules

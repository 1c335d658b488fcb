use Rattle.std.proofs.Common.{rules}
use Rattle.sector_disk.proofs.memory.MemDiskDisk.read.Goals as goal

pub returns-clause-content : goal.returns-clause-content
returns-clause-content c = search rules

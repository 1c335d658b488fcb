use Rattle.std.proofs.Common.{rules}
use Rattle.sector_disk.proofs.memory.MemDiskCrashDisk.arm.Goals as goal

pub returns-clause-failures : goal.returns-clause-failures
returns-clause-failures c = search rules

use Rattle.std.proofs.Common.{ℕ, ◌<◌}
use Rattle.sector_disk.specs.Disk.{sector, IsWholeSector}
use Rattle.disk_tests.proofs.tests.known_files.tell_all_whole.Given as goal

abbrev pub invariant-loop-i : goal.invariant-loop-i
invariant-loop-i l = (k : ℕ) → k < l.i → IsWholeSector (sector l.sectors k)

use Rattle.std.proofs.Common.{◌≡◌, ◌<◌, ◌≤◌, ◌+◌, ◌-◌, ◌/◌}
use Rattle.sector_disk.specs.Disk.{OnlyReads}
use Rattle.fs_check.specs.Checks.{meaning}
use Rattle.fs_info.specs.Infos.{clear_bits}
use Rattle.fs_info.proofs.counting.count_clear.Given as goal

abbrev pub invariant-loop-n : goal.invariant-loop-n
invariant-loop-n g l = record {
  top : l.n ≤ l.to;
  reads : OnlyReads (g.D.Disk.state l.initial.disk) (g.D.Disk.state l.disk);
  kept : l.from < l.n → l.map ≡ meaning (g.D.Disk.state l.initial.disk) (l.start + (l.n - 1) / 4096);
  few : l.free ≤ l.n - l.from;
  count : l.free ≡ clear_bits (meaning (g.D.Disk.state l.initial.disk)) l.start l.from (l.n - l.from);
}

use Rattle.std.proofs.Common.{◌<◌, ◌*◌, ℕ}
use Rattle.fs_model.specs.Rules.{IsBlockBit}
use Rattle.sector_disk.specs.Disk.{OnlyReads}
use Rattle.fs_check.specs.Checks.{meaning}
use Rattle.fs_check.proofs.bitmaps.block_bits.Given as goal

abbrev pub invariant-loop-k : goal.invariant-loop-k
invariant-loop-k g l = record {
  reads : OnlyReads (g.D.Disk.state l.initial.disk) (g.D.Disk.state l.disk);
  good : (s : ℕ) → s < 4096 * l.k → IsBlockBit l.opened.geometry (meaning (g.D.Disk.state l.initial.disk)) s;
}

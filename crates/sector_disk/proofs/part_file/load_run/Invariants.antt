use Rattle.std.proofs.Common.{◌≡◌, length}
use Rattle.sector_disk.specs.Parts.{IsPart, AreZerosElse}
use Rattle.sector_disk.proofs.part_file.load_run.Given as goal

abbrev pub invariant-loop-i : goal.invariant-loop-i
invariant-loop-i g l = record {
  count : length l.sectors.shown ≡ length l.initial.sectors.shown;
  table : length l.loaded ≡ length l.sectors.shown;
  follows : IsPart (g.F.DiskFile.held l.file) l.sectors.shown l.loaded;
  unread : AreZerosElse l.sectors.shown l.loaded;
}

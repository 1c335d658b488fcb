use Rattle.std.proofs.Common.{◌≡◌, length}
use Rattle.sector_disk.proofs.part_file.PartFile.load_each.Given as goal

abbrev pub invariant-loop-n : goal.invariant-loop-n
invariant-loop-n g l = (length l.self.sectors.shown ≡ length l.initial.self.sectors.shown)
    × (g.F.DiskFile.held l.self.file ≡ g.F.DiskFile.held l.initial.self.file)

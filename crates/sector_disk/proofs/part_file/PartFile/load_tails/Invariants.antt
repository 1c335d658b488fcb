use Rattle.std.proofs.Common.{◌≡◌, ◌≤◌, ◌-◌, length}
use Rattle.sector_disk.proofs.part_file.PartFile.load_tails.Given as goal

abbrev pub invariant-loop-at : goal.invariant-loop-at
invariant-loop-at g l = (l.at ≤ length l.tails)
    × (length l.self.sectors.shown ≡ length l.initial.self.sectors.shown)
    × (g.F.DiskFile.held l.self.file ≡ g.F.DiskFile.held l.initial.self.file)

abbrev pub decreases-loop-at : goal.decreases-loop-at
decreases-loop-at g l = length l.tails - l.at

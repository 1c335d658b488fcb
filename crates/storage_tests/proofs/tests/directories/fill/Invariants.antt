use Rattle.storage_tests.specs.Directories.{IsStoredDirectory}
use Rattle.storage_tests.proofs.tests.directories.fill.Given as goal

abbrev pub invariant-loop-i : goal.invariant-loop-i
invariant-loop-i g l = IsStoredDirectory l.geometry (g.S.Sectors.state l.s) l.ino l.inode

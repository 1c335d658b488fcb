use Rattle.bit_alloc.specs.Inodes.{IsSound}
use Rattle.storage_tests.proofs.tests.blocks.agreed.Given as goal

abbrev pub invariant-loop-i : goal.invariant-loop-i
invariant-loop-i g l = IsSound l.geometry (g.S.Sectors.state l.s.inner)

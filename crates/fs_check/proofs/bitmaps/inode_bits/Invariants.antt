use Rattle.fs_check.proofs.TriedBits.{AreBits}
use Rattle.fs_check.proofs.bitmaps.inode_bits.Given as goal

abbrev pub invariant-loop-n : goal.invariant-loop-n
invariant-loop-n g l = AreBits l.opened.geometry (g.D.Disk.state l.initial.disk) (g.D.Disk.state l.disk) l.n l.map l.table

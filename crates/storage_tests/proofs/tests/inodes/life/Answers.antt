use Rattle.std.proofs.Common.{arith}
use Rattle.blank_map.proofs.Placed.{has_spare}
use Rattle.storage_tests.proofs.tests.inodes.life.Goals as goal

pub free_inode-requires-clause-spare : goal.free_inode-requires-clause-spare
free_inode-requires-clause-spare g c =
    has_spare c.args.geometry 1 (g.S.Sectors.state c.saves.new.s.inner) (omega (arith, c.room.ensures, c.if-room-geometry.false))

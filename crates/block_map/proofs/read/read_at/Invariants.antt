use Rattle.std.proofs.Common.{◌≡◌, ◌-◌, ◌≤◌}
use Rattle.sector_txn.specs.Sectors.{IsUnchanged}
use Rattle.block_map.specs.Blocks.{IsAtHand}
use Rattle.block_map.proofs.Reading.{IsReadSoFar}
use Rattle.block_map.proofs.read.read_at.Given as goal

abbrev pub invariant-loop-done : goal.invariant-loop-done
invariant-loop-done g l = record {
  few : l.done ≤ l.count;
  inode : l.blocks.inode ≡ l.inode;
  at_hand : IsAtHand (g.S.Sectors.state l.fn.s).sectors l.blocks;
  same : IsUnchanged (g.S.Sectors.state l.fn.s) (g.S.Sectors.state l.s);
  read : IsReadSoFar (g.S.Sectors.state l.fn.s).sectors l.inode l.offset l.initial.to l.to l.done;
}

abbrev pub decreases-loop-done : goal.decreases-loop-done
decreases-loop-done g l = l.count - l.done

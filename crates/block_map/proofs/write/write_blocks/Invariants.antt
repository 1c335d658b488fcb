use Rattle.std.proofs.Common.{◌/◌, ◌≤◌, ◌-◌}
use Rattle.block_map.specs.Blocks.{IsAtHand}
use Rattle.block_map.specs.Steps.{pointers_of}
use Rattle.block_map.proofs.Loops.{IsWritten}
use Rattle.block_map.proofs.write.write_blocks.Given as goal

abbrev pub invariant-loop-k : goal.invariant-loop-k
invariant-loop-k g l = record {
  from : l.offset / 512 ≤ l.k;
  within : l.k ≤ l.end;
  at_hand : IsAtHand (g.S.Sectors.state l.s).sectors l.blocks;
  written : IsWritten l.geometry (pointers_of (g.S.Sectors.state l.initial.s).sectors l.initial.blocks.inode (l.offset / 512) l.end) l.offset (l.offset / 512) l.k l.bytes
      (g.S.Sectors.state l.initial.s) (g.S.Sectors.state l.s) l.initial.blocks.inode l.blocks.inode;
}

abbrev pub decreases-loop-k : goal.decreases-loop-k
decreases-loop-k g l = l.end - l.k

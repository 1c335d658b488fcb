use Rattle.std.proofs.Common.{◌+◌, ◌-◌, ◌≤◌}
use Rattle.fs_layout.specs.declared.inode.TheConstants.{POINTER_LEVELS}
use Rattle.block_map.specs.Blocks.{IsAtHand}
use Rattle.block_map.proofs.Adding.{IsAdded, above_of}
use Rattle.block_map.proofs.steps.+add_numbers.Given as goal

abbrev pub decreases-add_numbers : goal.decreases-add_numbers
decreases-add_numbers g l = POINTER_LEVELS + 1 - l.level

abbrev pub invariant-loop-i : goal.invariant-loop-i
invariant-loop-i g l = record {
  from : l.first ≤ l.i;
  most : l.i ≤ l.end;
  at_hand : IsAtHand (g.S.Sectors.state l.s).sectors l.blocks;
  added : IsAdded l.geometry (above_of (g.S.Sectors.state l.initial.s).sectors l.initial.blocks.inode l.level l.first l.end) l.level l.first l.i
      (g.S.Sectors.state l.initial.s) (g.S.Sectors.state l.s) l.initial.blocks.inode l.blocks.inode;
}

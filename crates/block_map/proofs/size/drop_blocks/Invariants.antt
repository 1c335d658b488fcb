use Rattle.std.proofs.Common.{◌≡◌, ◌≤◌}
use Rattle.fs_layout.specs.declared.inode.TheConstants.{POINTER_LEVELS}
use Rattle.block_map.specs.Drops.{first_on}
use Rattle.block_map.proofs.Dropping.{AreCut}
use Rattle.block_map.proofs.size.drop_blocks.Given as goal

abbrev pub invariant-loop-level : goal.invariant-loop-level
invariant-loop-level g l = record {
  from : l.from ≡ first_on l.level l.first;
  most : l.level ≤ POINTER_LEVELS;
  cuts : AreCut l.fn.geometry l.level l.first (g.S.Sectors.state l.fn.s).sectors (g.S.Sectors.state l.initial.s) (g.S.Sectors.state l.s) l.fn.inode;
}

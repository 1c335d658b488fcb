use Rattle.std.proofs.Common.{◌≡◌, ◌+◌, ◌≤◌}
use Rattle.fs_layout.specs.declared.inode.TheConstants.{MAX_BLOCKS, POINTER_LEVELS}
use Rattle.block_map.specs.Drops.{GivesParts, first_on}
use Rattle.block_map.proofs.Givings.{IsForBelow}
use Rattle.block_map.proofs.release.give_from.Given as goal

abbrev pub invariant-loop-level : goal.invariant-loop-level
invariant-loop-level g l = record {
  from : l.from ≡ first_on l.level l.first;
  most : l.level ≤ POINTER_LEVELS + 1;
  few : l.from ≤ MAX_BLOCKS;
  given : GivesParts l.geometry l.inode (IsForBelow l.level l.first) (g.S.Sectors.state l.fn.s) (g.S.Sectors.state l.s);
}

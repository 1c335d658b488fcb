use Rattle.std.proofs.Common.{◌+◌, ◌-◌, ◌*◌, ◌/◌, ◌≤◌}
use Rattle.std.specs.Prelude.{max}
use Rattle.fs_layout.specs.declared.inode.TheConstants.{SECTOR_POINTERS}
use Rattle.block_map.specs.Drops.{GivesParts, IsAmong}
use Rattle.block_map.proofs.release.give_level.Given as goal

abbrev pub invariant-loop-j : goal.invariant-loop-j
invariant-loop-j g l = record {
  from : (l.first - l.own) / SECTOR_POINTERS ≤ l.j;
  given : GivesParts l.geometry l.inode (IsAmong l.level l.first (max l.first (l.own + SECTOR_POINTERS * l.j))) (g.S.Sectors.state l.fn.s) (g.S.Sectors.state l.s);
}

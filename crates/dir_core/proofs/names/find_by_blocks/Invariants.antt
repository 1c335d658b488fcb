use Rattle.std.proofs.Common.{◌≡◌, ◌*◌, List}
use Rattle.fs_layout.specs.Version.{block_slots}
use Rattle.fs_layout.specs.Directories.{NamedInode}
use Rattle.sector_txn.specs.Sectors.{IsUnchanged}
use Rattle.block_map.specs.Blocks.{IsAtHand}
use Rattle.dir_core.specs.Slots.{HasSlots}
use Rattle.dir_core.proofs.Found.{IsAbsentBelow}
use Rattle.dir_core.proofs.names.find_by_blocks.Given as goal

abbrev pub invariant-loop-k : goal.invariant-loop-k
invariant-loop-k g l = record {
  same : IsUnchanged (g.S.Sectors.state l.fn.s) (g.S.Sectors.state l.s);
  inode : l.blocks.inode ≡ l.inode;
  pointers : IsAtHand (g.S.Sectors.state l.s).sectors l.blocks;
  absent : (slots : List NamedInode) → HasSlots l.version (g.S.Sectors.state l.fn.s).sectors l.inode slots → IsAbsentBelow slots l.name (block_slots l.version * l.k);
}

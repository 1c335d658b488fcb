use Rattle.std.proofs.Common.{◌≡◌, ◌≢◌, ◌/◌, ◌%◌, List, take}
use Rattle.fs_layout.specs.Version.{block_slots}
use Rattle.fs_layout.specs.Directories.{NamedInode}
use Rattle.sector_txn.specs.Sectors.{IsUnchanged}
use Rattle.block_map.specs.Blocks.{IsAtHand}
use Rattle.dir_core.specs.Slots.{HasSlots, IsBlock}
use Rattle.dir_core.proofs.names.read_slots.Given as goal

abbrev pub invariant-loop-k : goal.invariant-loop-k
invariant-loop-k g l = record {
  same : IsUnchanged (g.S.Sectors.state l.fn.s) (g.S.Sectors.state l.s);
  inode : l.blocks.inode ≡ l.inode;
  pointers : IsAtHand (g.S.Sectors.state l.s).sectors l.blocks;
  block : l.k % block_slots l.version ≢ 0 → IsBlock (g.S.Sectors.state l.fn.s).sectors l.inode (l.k / block_slots l.version) l.block;
  read : (slots : List NamedInode) → HasSlots l.version (g.S.Sectors.state l.fn.s).sectors l.inode slots → l.slots.items ≡ take l.k slots;
}

use Rattle.std.proofs.Common.{◌≡◌, ◌≢◌, ◌%◌, ◌<◌, ℕ, length, get_or}
use Rattle.std.specs.Prelude.{Ok, vec_capacity}
use Rattle.fs_layout.specs.Version.{block_slots}
use Rattle.fs_layout.specs.Directories.{NamedInode, slot_at, slot_of, stored_slot}
use Rattle.sector_disk.specs.Disk.{OnlyReads}
use Rattle.fs_check.specs.Checks.{meaning}
use Rattle.fs_check.specs.Naming.{block_of_slot}
use Rattle.fs_check.specs.Owning.{AreAtHand}
use Rattle.fs_check.proofs.slots.fill_slots.Given as goal

abbrev pub invariant-loop-k : goal.invariant-loop-k
invariant-loop-k g l = record {
  reads : OnlyReads (g.D.Disk.state l.fn.disk) (g.D.Disk.state l.disk);
  at_hand : AreAtHand (meaning (g.D.Disk.state l.fn.disk)) l.pointers;
  block : l.k % block_slots l.opened.geometry.version ≢ 0
      → l.block ≡ block_of_slot l.opened.geometry.version (meaning (g.D.Disk.state l.fn.disk)) l.inode l.k;
  len : length l.slots.items ≡ l.k;
  room : vec_capacity l.slots ≡ vec_capacity l.fn.slots;
  valid : (j : ℕ) → j < l.k → slot_of l.opened.geometry.version (stored_slot l.opened.geometry.version (meaning (g.D.Disk.state l.fn.disk)) l.inode j)
      ≡ Ok (slot_at l.opened.geometry.version (meaning (g.D.Disk.state l.fn.disk)) l.inode j);
  each : (d : NamedInode) (j : ℕ) → j < l.k
      → get_or l.slots.items j d ≡ slot_at l.opened.geometry.version (meaning (g.D.Disk.state l.fn.disk)) l.inode j;
}

use Rattle.std.proofs.Common.{◌≡◌, ℕ, [], ap, arith, inr, subst}
use Rattle.fs_layout.specs.Header.{log_end}
use Rattle.sector_txn.specs.Sectors.{PutsOnly}
use Rattle.inode_table.proofs.Tables.{inode_above, inode_on_disk, sector_saves}
use Rattle.inode_table.proofs.Sound.{reads_and_puts}
use Rattle.inode_table.proofs.inodes.write_inode.Goals as goal

pub get-requires-clause-on_disk : goal.get-requires-clause-on_disk
get-requires-clause-on_disk g c = inode_on_disk c.inode_sector-at.ensures c.requires.geometry c.requires.below c.requires.on_disk

pub returns-clause-saved : goal.returns-clause-saved
returns-clause-saved g c = sector_saves c.inode_sector-at.ensures c.inode_offset.ensures.value c.in_ok-get.ensures.same.sectors c.in_ok-get.ensures.content c.write_to.ensures c.put.ensures.sectors

pub returns-clause-puts : goal.returns-clause-puts
returns-clause-puts g c =
    subst (λ (at : ℕ). PutsOnly (λ t. t ≡ at) [] 1 (g.S.Sectors.state c.args.s.now) (g.S.Sectors.state c.put.new.self)) c.inode_sector-at.ensures
    (reads_and_puts c.in_ok-get.ensures.same c.put.ensures)

pub get-requires-clause-part : goal.get-requires-clause-part
get-requires-clause-part g c = inr (omega (arith, c.inode_sector-at.ensures, inode_above c.args.ino c.requires.geometry, c.requires.header))

pub put-requires-clause-part : goal.put-requires-clause-part
put-requires-clause-part g c = omega (arith, c.inode_sector-at.ensures, inode_above c.args.ino c.requires.geometry, c.requires.header, ap log_end c.in_ok-get.ensures.same.store.header)

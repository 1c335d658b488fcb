use Rattle.std.proofs.Common.{◌∙◌, ◌+◌, ◌/◌, ◌≡◌, ℕ, [], ap, arith, rules, refl, subst, sym}
use Rattle.fs_layout.specs.InodeChanges.{Saves}
use Rattle.fs_layout.specs.Images.{inode_at}
use Rattle.sector_txn.specs.Sectors.{PutsOnly}
use Rattle.bit_alloc.proofs.Transactions.{unchanged_nothing}
use Rattle.inode_table.proofs.Tables.{inode_on_disk, inode_spelled, sector_saves}
use Rattle.inode_table.proofs.Sound.{reads_and_puts, room_left}
use Rattle.inode_table.proofs.Saved.{HasSaved, times_are_attributes, has_saved}
use Rattle.inode_table.proofs.inodes.save_times.Goals as goal

pub put-requires-clause-on_disk : goal.put-requires-clause-on_disk
put-requires-clause-on_disk g c = inode_on_disk c.inode_sector.ensures c.requires.sound.consistent.geometry c.requires.below c.requires.sound.bitmaps.disk

pub put-requires-clause-room : goal.put-requires-clause-room
put-requires-clause-room g c = λ none. room_left c.args.geometry 1 (g.S.Sectors.state c.args.s.now) c.requires.spare (omega arith)

-- the inode is written
saves : (g : _) (c : goal.After-put g) → Saves c.args.geometry c.args.ino c.args.inode.now (g.S.Sectors.state c.args.s.now).sectors (g.S.Sectors.state c.put.new.self).sectors
saves g c =
    let content = c.requires.content ∙ ap (g.S.Sectors.state c.args.s.now).sectors (sym c.inode_sector.ensures) in
    let there = inode_spelled c.requires.sound.consistent c.requires.below c.inode_sector.ensures c.inode_offset.ensures.value content in
    sector_saves c.inode_sector.ensures c.inode_offset.ensures.value (λ m. refl) content (c.write_times.ensures _ c.requires.times there) c.put.ensures.sectors

puts : (g : _) (c : goal.After-put g) → PutsOnly (λ t. t ≡ c.args.geometry.table + c.args.ino / 4) [] 1 (g.S.Sectors.state c.args.s.now) (g.S.Sectors.state c.put.new.self)
puts g c =
    subst (λ (at : ℕ). PutsOnly (λ t. t ≡ at) [] 1 (g.S.Sectors.state c.args.s.now) (g.S.Sectors.state c.put.new.self)) c.inode_sector.ensures
    (reads_and_puts unchanged_nothing c.put.ensures)

is_saved : (g : _) (c : goal.After-put g) → HasSaved c.args.geometry c.args.ino c.args.inode.now (g.S.Sectors.state c.args.s.now) (g.S.Sectors.state c.put.new.self)
is_saved g c =
    let attributes = times_are_attributes (inode_at c.args.geometry (g.S.Sectors.state c.args.s.now).sectors c.args.ino) c.args.inode.now c.requires.times in
    has_saved c.args.geometry c.args.ino c.args.inode.now (g.S.Sectors.state c.args.s.now) (g.S.Sectors.state c.put.new.self)
    c.requires.sound c.requires.below attributes c.requires.fits (saves g c) (puts g c)

pub returns : goal.returns
returns g c =
    let s = is_saved g c in
    let store = (puts g c).store in search rules

use Rattle.std.proofs.Common.{◌≡◌, Ok, refl, rules, sym, subst}
use Rattle.fs_layout.proofs.Free.{inode_fits_there}
use Rattle.fs_layout.specs.declared.inode.Inode.{Inode}
use Rattle.fs_layout.specs.declared.inode.TheConstants.{INODE_SIZE}
use Rattle.fs_layout.specs.Bytes.{window}
use Rattle.fs_layout.specs.Inode.{FitsInode, inode_of}
use Rattle.inode_table.proofs.Tables.{inode_on_disk, inode_stands}
use Rattle.inode_table.proofs.inodes.load.Goals as goal

pub read_with-requires-clause-on_disk : goal.read_with-requires-clause-on_disk
read_with-requires-clause-on_disk g c = inode_on_disk c.inode_sector.ensures c.requires.sound.consistent.geometry c.requires.below c.requires.sound.bitmaps.disk

pub returns-clause-found : goal.returns-clause-found
returns-clause-found g c =
    let sector = (g.S.Sectors.state c.args.s.now).sectors c.inode_sector.result in
    let read : (v : Inode) → inode_of (window sector c.inode_offset-at.result INODE_SIZE) ≡ Ok v → c.in_ok-inode.inode ≡ v = search rules in
    read _ (inode_stands c.requires.sound.consistent c.requires.below c.inode_sector.ensures c.inode_offset-at.ensures.value refl)

pub returns-clause-fits : goal.returns-clause-fits
returns-clause-fits g c = subst FitsInode (sym (returns-clause-found g c)) (inode_fits_there c.requires.sound.consistent c.args.ino c.requires.below)

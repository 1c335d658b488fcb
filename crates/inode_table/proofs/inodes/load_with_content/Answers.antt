use Rattle.std.proofs.Common.{◌∙◌, ap, subst, sym}
use Rattle.fs_layout.specs.Inode.{FitsInode}
use Rattle.fs_layout.proofs.Free.{inode_fits_there}
use Rattle.inode_table.proofs.Tables.{inode_on_disk, inode_stands}
use Rattle.inode_table.proofs.inodes.load_with_content.Goals as goal

pub get-requires-clause-on_disk : goal.get-requires-clause-on_disk
get-requires-clause-on_disk g c = inode_on_disk c.inode_sector.ensures c.requires.sound.consistent.geometry c.requires.below c.requires.sound.bitmaps.disk

pub returns-clause-found : goal.returns-clause-found
returns-clause-found g c =
    c.read_valid.ensures _
    (inode_stands c.requires.sound.consistent c.requires.below c.inode_sector.ensures c.inode_offset.ensures.value c.in_ok-get.ensures.content)

pub returns-clause-fits : goal.returns-clause-fits
returns-clause-fits g c = subst FitsInode (sym (returns-clause-found g c)) (inode_fits_there c.requires.sound.consistent c.args.ino c.requires.below)

pub returns-clause-content : goal.returns-clause-content
returns-clause-content g c = c.in_ok-get.ensures.content ∙ ap (g.S.Sectors.state c.args.s.now).sectors c.inode_sector.ensures

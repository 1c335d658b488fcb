use Rattle.std.proofs.Common.{sym, subst}
use Rattle.fs_layout.specs.Inode.{FitsInode}
use Rattle.fs_layout.proofs.Free.{inode_fits_there}
use Rattle.name_calls.proofs.Movings.{parented_fits}
use Rattle.name_calls.proofs.renaming.follow.Goals as goal

pub save-requires-clause-fits : goal.save-requires-clause-fits
save-requires-clause-fits g c =
    parented_fits c.args.inode.now c.args.to_dir_ino
    (subst FitsInode (sym c.requires.loaded.inode) (inode_fits_there c.requires.loaded.sound.consistent c.args.ino c.requires.loaded.below))
    c.requires.loaded.used c.ranges.to_dir_ino.fits

use Rattle.std.proofs.Common.{sym, subst}
use Rattle.fs_layout.specs.Inode.{FitsInode}
use Rattle.fs_layout.proofs.Free.{inode_fits_there}
use Rattle.file_calls.proofs.attributes.replace_acl.Goals as goal

pub give_acl-requires-clause-ready : goal.give_acl-requires-clause-ready
give_acl-requires-clause-ready g c = record { sound = c.requires.loaded.sound; spare = c.requires.spare }

pub give_acl-requires-clause-fits : goal.give_acl-requires-clause-fits
give_acl-requires-clause-fits g c = subst FitsInode (sym c.requires.loaded.inode) (inode_fits_there c.requires.loaded.sound.consistent c.args.ino c.requires.loaded.below)

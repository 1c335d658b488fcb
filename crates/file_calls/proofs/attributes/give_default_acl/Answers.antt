use Rattle.std.proofs.Common.{rules, sym, subst}
use Rattle.fs_layout.specs.Inode.{FitsInode}
use Rattle.fs_layout.proofs.Free.{inode_fits_there}
use Rattle.file_calls.proofs.attributes.give_default_acl.Goals as goal

pub save_default_acl-requires-clause-fits : goal.save_default_acl-requires-clause-fits
save_default_acl-requires-clause-fits g c = subst FitsInode (sym c.requires.loaded.inode) (inode_fits_there c.requires.loaded.sound.consistent c.args.ino c.requires.loaded.below)

pub returns-in-Ok : goal.returns-in-Ok
returns-in-Ok g c =
    let e = c.in-Ok.ensures in
    record { store = e.store; sound = e.sound; taken = e.touches.puts.room; made = search rules; fault = tt }

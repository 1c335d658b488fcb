use Rattle.std.proofs.Common.{refl, sym, ap, subst, ◌∙◌}
use Rattle.fs_layout.specs.declared.inode.Inode.{Inode}
use Rattle.fs_layout.specs.Inode.{FitsInode}
use Rattle.fs_layout.proofs.Free.{inode_fits_there}
use Rattle.call_parts.proofs.Alterings.{fails}
use Rattle.call_parts.proofs.Ownership.{owner_given}
use Rattle.file_calls.proofs.attributes.give_owner.Goals as goal

pub save-requires-clause-fits : goal.save-requires-clause-fits
save-requires-clause-fits g c =
    owner_given c.args.inode.now c.args.uid c.args.gid (subst FitsInode (sym c.requires.loaded.inode) (inode_fits_there c.requires.loaded.sound.consistent c.args.ino c.requires.loaded.below))
    c.requires.loaded.used c.ranges.uid.fits c.ranges.gid.fits

pub returns-in-Ok : goal.returns-in-Ok
returns-in-Ok g c =
    let e = c.in-Ok.ensures in
    record {
      store = e.store;
      sound = e.sound;
      taken = e.touches.puts.room;
      made = record {
        one = record { super = e.touches.super; inode = e.touches.inode; used = e.used };
        saved = e.saved ∙ ap (λ (v : Inode). record v { uid = c.args.uid; gid = c.args.gid }) c.requires.loaded.inode;
        uid_fits = c.ranges.uid.fits;
        gid_fits = c.ranges.gid.fits;
        bytes = e.bytes;
        acls = e.acls;
      };
      fault = tt;
    }

pub returns-in-Err : goal.returns-in-Err
returns-in-Err g c = let e = c.in-Err.ensures in fails e.store (refl, e.cause.fault)

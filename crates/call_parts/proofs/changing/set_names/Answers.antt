use Rattle.std.proofs.Common.{refl, sym, ap, subst, ◌∙◌}
use Rattle.fs_layout.specs.declared.inode.Inode.{Inode}
use Rattle.fs_layout.specs.Inode.{FitsInode}
use Rattle.fs_layout.proofs.Free.{inode_fits_there}
use Rattle.call_parts.proofs.Removed.{counted_fits}
use Rattle.call_parts.proofs.changing.set_names.Goals as goal

pub save-requires-clause-fits : goal.save-requires-clause-fits
save-requires-clause-fits g c =
    counted_fits c.args.inode.now c.args.names
    (subst FitsInode (sym c.requires.loaded.inode) (inode_fits_there c.requires.loaded.sound.consistent c.args.ino c.requires.loaded.below))
    c.requires.loaded.used c.ranges.names.fits

pub returns-in-Ok : goal.returns-in-Ok
returns-in-Ok g c =
    let e = c.in-Ok.ensures in
    record {
      store = e.store;
      made = record {
        sound = e.sound;
        touches = e.touches;
        saved = e.saved ∙ ap (λ (u : Inode). record u { names = c.args.names }) c.requires.loaded.inode;
        bytes = e.bytes;
        acls = e.acls;
        used = e.used;
      };
      fault = tt;
    }

pub returns-in-Err : goal.returns-in-Err
returns-in-Err g c = let e = c.in-Err.ensures in record { store = e.store; made = tt; fault = (refl, e.cause.fault) }

use Rattle.std.proofs.Common.{◌∙◌, ap, arith, refl, sym, subst}
use Rattle.std.specs.Prelude.{[]}
use Rattle.fs_layout.specs.Inode.{inode_fits}
use Rattle.fs_layout.specs.Images.{inode_at}
use Rattle.fs_layout.specs.Directories.{HasNames}
use Rattle.fs_layout.proofs.UsedInodes.{made_fits}
use Rattle.bit_alloc.proofs.Transactions.{map_unchanged}
use Rattle.block_map.proofs.Joins.{sound_after_reads}
use Rattle.dir_core.proofs.Empty.{no_names}
use Rattle.blank_map.proofs.Placed.{has_spare}
use Rattle.storage_tests.proofs.tests.directories.seen_on_blank.Goals as goal

pub new_inode-requires-clause-fits : goal.new_inode-requires-clause-fits
unfolding inode_fits
new_inode-requires-clause-fits g c = made_fits (λ e. cc) refl (omega arith) (omega arith) (omega arith) (omega arith)

pub fill-requires-clause-directory : goal.fill-requires-clause-directory
fill-requires-clause-directory g c =
    let p = c.args.geometry in
    let ino = c.in-Ok.ino in
    let new = c.in-Ok.ensures in
    let read = c.in_ok-inode.ensures in
    let made = (g.S.Sectors.state c.new_inode.new.s.inner).sectors in
    let now = (g.S.Sectors.state c.load.new.s.inner).sectors in
    let at_first : HasNames p.version made (inode_at p made ino) [] = no_names new.fields.kind new.empty in
    record {
      sound = sound_after_reads new.sound read.same;
      below = new.free.1;
      there = read.found ∙ ap (λ image. inode_at p image ino) (map_unchanged read.same);
      names = (
        [],
        subst (λ v. HasNames p.version now v []) (sym read.found)
            (subst (λ image. HasNames p.version image (inode_at p made ino) []) (map_unchanged read.same) at_first),
      );
    }

pub perform-given-requires-clause-spare : goal.perform-given-requires-clause-spare
perform-given-requires-clause-spare g c =
    has_spare c.args.geometry 5 (g.S.Sectors.state c.fill.new.s.inner) (omega (arith, c.room.ensures, c.if-room-geometry.false))

use Rattle.std.proofs.Common.{ap, ◌∙◌, arith, rules}
use Rattle.fs_layout.specs.Images.{inode_at}
use Rattle.bit_alloc.proofs.Transactions.{map_unchanged}
use Rattle.blank_map.proofs.Placed.{has_spare}
use Rattle.storage_tests.proofs.Lives.{sound_unchanged, same_attributes}
use Rattle.storage_tests.proofs.tests.blocks.load_file.Goals as goal

pub returns : goal.returns
returns g c =
    let p = c.args.geometry in
    let n = c.args.ino in
    let old = g.S.Sectors.state c.args.s.now in
    let new = g.S.Sectors.state c.load.new.s in
    let read = c.in_ok-inode.ensures in
    record {
      sound = sound_unchanged p old new c.requires.sound read.same;
      found = read.found ∙ ap (λ image. inode_at p image n) (map_unchanged read.same);
      attributes = same_attributes p n old new read.same c.in_ok-inode.inode read.found;
      fits = read.fits;
      kind = search rules;
      spare = has_spare p c.args.more new (omega (arith, c.room.ensures, c.if-room-geometry.false));
      same = read.same;
    }

use Rattle.std.proofs.Common.{refl, sym, arith, ◌∙◌}
use Rattle.std.specs.Option.{option_copied}
use Rattle.fs_layout.proofs.Places.{numbers_most}
use Rattle.inode_table.specs.Acls.{acls_take}
use Rattle.call_parts.proofs.NewFile.{dir_below, dir_kept}
use Rattle.call_parts.specs.NewNodes.{directory_made}
use Rattle.call_parts.proofs.NewNames.{room_then, named_new, was_taken}
use Rattle.call_parts.proofs.Alterings.{fails, may_alter_then, not_altered_then}
use Rattle.name_calls.proofs.BornDirectories.{directory_fits, acls_few, directory_taken}
use Rattle.name_calls.proofs.making.place_directory.Goals as goal

pub new_inode-requires-clause-fits : goal.new_inode-requires-clause-fits
new_inode-requires-clause-fits g c =
    let most = (numbers_most c.requires.ready.sound.consistent.geometry).1 in
    let below = dir_below c.requires.may.1 in
    let small_uid = c.ranges.uid.fits in
    let small_gid = c.ranges.gid.fits in
    directory_fits c.args.found.now.dir_ino c.args.uid c.args.gid c.args.bits (omega (arith, most, below)) (omega (arith, small_uid)) (omega (arith, small_gid)) c.requires.bits

pub returns-in_default : goal.returns-in_default
returns-in_default g c =
    let old = g.S.Sectors.state c.args.s.now in
    let new = g.S.Sectors.state c.new_inode.new.s in
    let default = option_copied c.args.default in
    let failed = c.in_default.ensures in
    fails failed.store
    (refl, was_taken c.requires.may.1 (acls_take c.args.access.now default) (acls_few c.args.access.now default) old.disk new.disk c.in_default.field-0 failed.full failed.cause.failed)

pub name_inode-requires : goal.name_inode-requires
name_inode-requires g c =
    let can = c.requires.may.1 in
    let e = c.in-Ok.ensures in
    let default = option_copied c.args.default in
    let few = acls_few c.args.access.now default in
    let left = e.touches.free in
    record {
      ready = may_alter_then 3 4 (omega arith) c.requires.ready e.touches.puts.room e.sound;
      inode = c.requires.directory ∙ sym (dir_kept can.holds can.directory c.in-Ok.ino e.free e.touches.inode);
      room = room_then can c.bytes-name.ensures.all (g.S.Sectors.state c.new_inode.new.s).sectors c.in-Ok.ino (directory_made c.args.uid c.args.gid c.args.bits c.args.access.now default)
          (directory_taken e.free e.touches e.used c.args.found.now.dir_ino c.args.uid c.args.gid c.args.bits c.requires.bits c.args.access.now default e.fields e.empty e.access e.default)
          (omega (arith, few, left));
    }

pub returns-in_err-name_inode : goal.returns-in_err-name_inode
returns-in_err-name_inode g c = not_altered_then _ _ c.from_residual.ensures c.in-Ok.ensures.store c.in_err-name_inode.ensures

pub returns : goal.returns
returns g c = named_new c.in-Ok.ino 3 (omega arith) c.in-Ok.ensures.store c.in-Ok.ensures.touches.puts.room
    (let e = c.in-Ok.ensures in directory_taken e.free e.touches e.used c.args.found.now.dir_ino c.args.uid c.args.gid c.args.bits c.requires.bits c.args.access.now (option_copied c.args.default) e.fields e.empty e.access e.default)
    c.bytes-name.ensures.all c.in_ok-name_inode.ensures

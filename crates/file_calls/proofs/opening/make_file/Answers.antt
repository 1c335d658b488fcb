use Rattle.std.specs.Prelude.{None}
use Rattle.std.proofs.Common.{refl, sym, arith, ◌∙◌}
use Rattle.inode_table.specs.Acls.{acls_take}
use Rattle.call_parts.specs.NewNodes.{file_made}
use Rattle.call_parts.proofs.Alterings.{fails, may_alter_then, not_altered_then}
use Rattle.call_parts.proofs.NewFile.{dir_kept, file_fits, file_taken, takes_few}
use Rattle.call_parts.proofs.NewNames.{room_then, named_new, was_taken}
use Rattle.file_calls.proofs.opening.make_file.Goals as goal

pub new_inode-requires-clause-fits : goal.new_inode-requires-clause-fits
new_inode-requires-clause-fits g c =
    let small_uid = c.ranges.uid.fits in
    let small_gid = c.ranges.gid.fits in
    file_fits c.args.uid c.args.gid (omega (arith, small_uid)) (omega (arith, small_gid))

pub returns-in_default : goal.returns-in_default
returns-in_default g c =
    let old = g.S.Sectors.state c.args.s.now in
    let new = g.S.Sectors.state c.new_inode.new.s in
    let few = takes_few c.args.acl.now in
    let failed = c.in_default.ensures in
    fails failed.store
    (refl, was_taken c.requires.may.1 (acls_take c.args.acl.now None) (omega (arith, few)) old.disk new.disk c.in_default.field-0 failed.full failed.cause.failed)

pub name_inode-requires : goal.name_inode-requires
name_inode-requires g c =
    let can = c.requires.may.1 in
    let e = c.in-Ok.ensures in
    let few = takes_few c.args.acl.now in
    let left = e.touches.free in
    record {
      ready = may_alter_then 3 4 (omega arith) c.requires.ready e.touches.puts.room e.sound;
      inode = c.requires.directory ∙ sym (dir_kept can.holds can.directory c.in-Ok.ino e.free e.touches.inode);
      room = room_then can refl (g.S.Sectors.state c.new_inode.new.s).sectors c.in-Ok.ino (file_made c.args.uid c.args.gid c.args.acl.now)
          (file_taken e.free e.touches e.used c.args.dir_ino c.args.uid c.args.gid c.args.acl.now e.fields e.empty e.access e.default) (omega (arith, few, left));
    }

pub returns-in_err-name_inode : goal.returns-in_err-name_inode
returns-in_err-name_inode g c = not_altered_then _ _ c.from_residual.ensures c.in-Ok.ensures.store c.in_err-name_inode.ensures

pub returns : goal.returns
returns g c = named_new c.in-Ok.ino 3 (omega arith) c.in-Ok.ensures.store c.in-Ok.ensures.touches.puts.room
    (let e = c.in-Ok.ensures in file_taken e.free e.touches e.used c.args.dir_ino c.args.uid c.args.gid c.args.acl.now e.fields e.empty e.access e.default) refl c.in_ok-name_inode.ensures

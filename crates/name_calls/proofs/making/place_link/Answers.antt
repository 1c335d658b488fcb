use Rattle.std.proofs.Common.{refl, sym, arith, ◌∙◌}
use Rattle.call_parts.proofs.NewFile.{dir_kept}
use Rattle.call_parts.specs.NewNodes.{link_made}
use Rattle.call_parts.proofs.NewNames.{room_then, named_new, was_taken}
use Rattle.call_parts.proofs.Alterings.{fails, may_alter_then, not_altered_then}
use Rattle.name_calls.proofs.BornLinks.{link_taken, none_free, target_size}
use Rattle.name_calls.proofs.making.place_link.Goals as goal

pub new_link-requires-clause-target : goal.new_link-requires-clause-target
new_link-requires-clause-target g c = target_size c.args.target.now c.requires.target

pub returns-in_default : goal.returns-in_default
returns-in_default g c =
    let old = g.S.Sectors.state c.args.s.now in
    let new = g.S.Sectors.state c.new_link.new.s in
    let failed = c.in_default.ensures in
    fails failed.store
    (refl, was_taken c.requires.may.1 1 (omega arith) old.disk new.disk c.in_default.field-0 (λ e. none_free (failed.full e)) failed.cause.failed)

pub name_inode-requires : goal.name_inode-requires
name_inode-requires g c =
    let can = c.requires.may.1 in
    let e = c.in-Ok.ensures in
    let left = e.touches.free in
    record {
      ready = may_alter_then 2 4 (omega arith) c.requires.ready e.touches.puts.room e.sound;
      inode = c.requires.directory ∙ sym (dir_kept can.holds can.directory c.in-Ok.ino e.free e.touches.inode);
      room = room_then can c.bytes-name.ensures.all (g.S.Sectors.state c.new_link.new.s).sectors c.in-Ok.ino (link_made c.args.directory c.args.cred.now c.args.target.now)
          (link_taken e.free e.touches e.used c.args.found.now.dir_ino c.uid-uid.result c.new_group-gid.result c.args.directory c.args.cred.now c.args.target.now c.uid-uid.ensures c.new_group-gid.ensures
          e.fields e.acls e.holds e.whole) (omega (arith, left));
    }

pub returns-in_err-name_inode : goal.returns-in_err-name_inode
returns-in_err-name_inode g c = not_altered_then _ _ c.from_residual.ensures c.in-Ok.ensures.store c.in_err-name_inode.ensures

pub returns : goal.returns
returns g c = named_new c.in-Ok.ino 2 (omega arith) c.in-Ok.ensures.store c.in-Ok.ensures.touches.puts.room
    (let e = c.in-Ok.ensures in link_taken e.free e.touches e.used c.args.found.now.dir_ino c.uid-uid.result c.new_group-gid.result c.args.directory c.args.cred.now c.args.target.now c.uid-uid.ensures c.new_group-gid.ensures
    e.fields e.acls e.holds e.whole)
    c.bytes-name.ensures.all c.in_ok-name_inode.ensures

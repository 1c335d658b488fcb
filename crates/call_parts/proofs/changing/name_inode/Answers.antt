use Rattle.std.proofs.Common.{sym, subst, refl}
use Rattle.fs_layout.specs.declared.inode.Inode.{Inode}
use Rattle.fs_layout.specs.Directories.{HasNames}
use Rattle.bit_alloc.proofs.Transactions.{unchanged_nothing}
use Rattle.call_parts.proofs.Alterings.{fails}
use Rattle.call_parts.proofs.NewFile.{room_suffices}
use Rattle.call_parts.proofs.Removed.{names_changed}
use Rattle.call_parts.proofs.changing.name_inode.Goals as goal

pub insert_new-requires : goal.insert_new-requires
insert_new-requires g c =
    let room = c.requires.room in
    let old = (g.S.Sectors.state c.args.s.now).sectors in
    record {
      sound = c.requires.ready.sound;
      below = room.below;
      inode = c.requires.inode;
      directory = (room.names, subst (λ (v : Inode). HasNames c.args.geometry.version old v room.names) (sym c.requires.inode) room.are, room.is_new);
      name = room.is_name;
      short = room.short;
      spare = c.requires.ready.spare;
    }

pub returns-in-Ok : goal.returns-in-Ok
returns-in-Ok g c =
    let e = c.in-Ok.ensures in
    record {
      store = e.store;
      sound = e.change.sound;
      taken = e.change.touches.puts.room;
      made = names_changed unchanged_nothing c.requires.inode e.change (λ names has. (e.names names has).1);
      fault = tt;
    }

pub returns-in-Err : goal.returns-in-Err
returns-in-Err g c =
    let old = g.S.Sectors.state c.args.s.now in
    let new = g.S.Sectors.state c.insert_new.new.s in
    let room = c.requires.room in
    let names = subst (λ (v : Inode). HasNames c.args.geometry.version old.sectors v room.names) (sym c.requires.inode) room.are in
    let e = c.in-Err.ensures in
    fails e.store
    (refl, room_suffices c.args.geometry old.sectors c.args.directory room.names c.args.name.now room.is_new room.few room.enough old.disk new.disk c.in-Err.field-0 (e.why room.names names) e.cause.failed)

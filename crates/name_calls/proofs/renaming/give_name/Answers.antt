use Rattle.std.proofs.Common.{◌≡◌, ℕ, List, subst, sym, arith}
use Rattle.fs_layout.specs.declared.inode.Inode.{Inode}
use Rattle.fs_layout.specs.Bytes.{SectorMap}
use Rattle.fs_layout.specs.Directories.{HasNames}
use Rattle.fs_layout.specs.Images.{inode_at}
use Rattle.sector_txn.proofs.TransactionRuns.{store_joined}
use Rattle.bit_alloc.proofs.Transactions.{puts_after, spare_unchanged}
use Rattle.path_walk.proofs.Kept.{kept, sound_kept}
use Rattle.call_parts.specs.Altering.{AltersDisk}
use Rattle.call_parts.specs.NewNodes.{HasName, MayBeNamed, NamesInode}
use Rattle.call_parts.proofs.Removed.{names_changed, fails_to_change}
use Rattle.call_parts.proofs.Alterings.{fails, not_altered, altered_after, may_alter_kept}
use Rattle.name_calls.proofs.Movings.{is_nothing, is_something, lead_below, lead_room, lead_named}
use Rattle.name_calls.proofs.renaming.give_name.Goals as goal

pub load_inode-requires : goal.load_inode-requires
load_inode-requires g c = let f = c.args.second.now in
    record { sound = c.requires.ready.sound; below = lead_below c.args.geometry (g.S.Sectors.state c.args.s.now).sectors f.dir_ino f.name f.ino c.requires.may }

pub name_inode-requires : goal.name_inode-requires
name_inode-requires g c =
    let p = c.args.geometry in
    let f = c.args.second.now in
    let same = c.in_ok-directory.ensures.same in
    let none = is_nothing f.ino c.is_none.result c.is_none.ensures c.if-is_none.true in
    record {
      ready = may_alter_kept same c.requires.ready;
      inode = kept (λ (m : SectorMap). c.in_ok-directory.directory ≡ inode_at p m f.dir_ino) same c.in_ok-directory.ensures.found;
      room = rw c.bytes-name.ensures.all
          (kept (λ (m : SectorMap). MayBeNamed p m f.dir_ino f.name) same (lead_room p (g.S.Sectors.state c.args.s.now).sectors f.dir_ino f.name f.ino none c.requires.may));
    }

pub returns-in_err-directory : goal.returns-in_err-directory
returns-in_err-directory g c = not_altered _ _ c.from_residual.ensures c.in_err-directory.ensures.same.store c.in_err-directory.ensures.fault

pub returns-then-is_none : goal.returns-then-is_none
returns-then-is_none g c =
    altered_after c.name_inode.result c.in_ok-directory.ensures.same
    (subst (λ (q : List ℕ). AltersDisk c.args.geometry 4 (λ (done : Unit {0}). NamesInode c.args.geometry c.args.second.now.dir_ino q c.args.ino) (g.S.Sectors.state c.load_inode.new.s) (g.S.Sectors.state c.name_inode.new.s) c.name_inode.result)
    c.bytes-name.ensures.all c.name_inode.ensures)

pub replace-requires : goal.replace-requires
replace-requires g c =
    let p = c.args.geometry in
    let f = c.args.second.now in
    let old = g.S.Sectors.state c.args.s.now in
    let same = c.in_ok-directory.ensures.same in
    let v = c.in_ok-directory.directory in
    let has = lead_named p old.sectors f.dir_ino f.name f.ino (is_something f.ino c.is_none.result c.is_none.ensures c.if-is_none.false) c.requires.may in
    let room = spare_unchanged p 4 old (g.S.Sectors.state c.load_inode.new.s) c.requires.ready.spare same in
    record {
      sound = sound_kept same c.requires.ready.sound;
      below = lead_below p old.sectors f.dir_ino f.name f.ino c.requires.may;
      inode = kept (λ (m : SectorMap). v ≡ inode_at p m f.dir_ino) same c.in_ok-directory.ensures.found;
      directory = (
        has.0,
        kept (λ (m : SectorMap). HasNames p.version m v has.0) same (subst (λ (u : Inode). HasNames p.version old.sectors u has.0) (sym c.in_ok-directory.ensures.found) has.1),
      );
      spare = omega (arith, room);
    }

pub returns-in-Ok : goal.returns-in-Ok
returns-in-Ok g c =
    let same = c.in_ok-directory.ensures.same in
    let done = c.in-Ok.ensures in
    record {
      store = store_joined same.store done.store;
      sound = done.change.sound;
      taken = (let room = (puts_after same done.change.touches.puts).room in omega (arith, room));
      made = subst (λ (q : List ℕ). NamesInode c.args.geometry c.args.second.now.dir_ino q c.args.ino (g.S.Sectors.state c.args.s.now).sectors (g.S.Sectors.state c.replace.new.s).sectors)
          c.bytes-name.ensures.all (names_changed same c.in_ok-directory.ensures.found done.change (λ names has. (done.names names has).1));
      fault = tt;
    }

pub returns-in-Err : goal.returns-in-Err
returns-in-Err g c =
    let p = c.args.geometry in
    let f = c.args.second.now in
    let old = (g.S.Sectors.state c.args.s.now).sectors in
    let same = c.in_ok-directory.ensures.same in
    let failed = c.in-Err.ensures in
    let has = lead_named p old f.dir_ino f.name f.ino (is_something f.ino c.is_none.result c.is_none.ensures c.if-is_none.false) c.requires.may in
    fails (store_joined same.store failed.store)
    (fails_to_change p f.dir_ino c.bytes-name.result.now (g.S.Sectors.state c.replace.new.s).disk c.in-Err.field-0
    (subst (HasName p old f.dir_ino) (sym c.bytes-name.ensures.all) has) same c.in_ok-directory.ensures.found failed.why failed.cause.failed)

use Rattle.std.proofs.Common.{◌≡◌, sym, subst}
use Rattle.fs_layout.specs.declared.inode.Inode.{Inode}
use Rattle.fs_layout.specs.Bytes.{SectorMap}
use Rattle.fs_layout.specs.Directories.{HasNames}
use Rattle.fs_layout.specs.Images.{inode_at}
use Rattle.sector_txn.proofs.TransactionRuns.{store_joined}
use Rattle.bit_alloc.proofs.Transactions.{spare_unchanged}
use Rattle.path_walk.proofs.Kept.{kept, sound_kept}
use Rattle.call_parts.proofs.Alterings.{not_changed}
use Rattle.call_parts.proofs.Removed.{name_removed, fails_to_change}
use Rattle.call_parts.proofs.changing.remove_name.Goals as goal

pub load_inode-requires : goal.load_inode-requires
load_inode-requires g c = record { sound = c.requires.ready.sound; below = c.requires.below }

pub returns-in_err-directory : goal.returns-in_err-directory
returns-in_err-directory g c = not_changed _ _ c.from_residual.ensures c.in_err-directory.ensures.same.store c.in_err-directory.ensures.fault

pub remove-requires : goal.remove-requires
remove-requires g c =
    let p = c.args.geometry in
    let old = g.S.Sectors.state c.args.s.now in
    let same = c.in_ok-directory.ensures.same in
    let v = c.in_ok-directory.directory in
    let has = c.requires.named in
    record {
      sound = sound_kept same c.requires.ready.sound;
      below = c.requires.below;
      inode = kept (λ (m : SectorMap). v ≡ inode_at p m c.args.dir_ino) same c.in_ok-directory.ensures.found;
      directory = (
        has.0,
        kept (λ (m : SectorMap). HasNames p.version m v has.0) same (subst (λ (u : Inode). HasNames p.version old.sectors u has.0) (sym c.in_ok-directory.ensures.found) has.1),
      );
      spare = spare_unchanged p 5 old (g.S.Sectors.state c.load_inode.new.s) c.requires.ready.spare same;
    }

pub returns-in-Ok : goal.returns-in-Ok
returns-in-Ok g c =
    let same = c.in_ok-directory.ensures.same in
    let e = c.in-Ok.ensures in
    record { store = store_joined same.store e.store; made = name_removed same c.in_ok-directory.ensures.found e.change e.names; fault = tt }

pub returns-in-Err : goal.returns-in-Err
returns-in-Err g c =
    let same = c.in_ok-directory.ensures.same in
    let e = c.in-Err.ensures in
    record {
      store = store_joined same.store e.store;
      made = tt;
      fault = fails_to_change c.args.geometry c.args.dir_ino c.args.name.now (g.S.Sectors.state c.remove.new.s).disk c.in-Err.field-0 c.requires.named same c.in_ok-directory.ensures.found
          e.why e.cause.failed;
    }

use Rattle.std.proofs.Common.{◌≡◌, ◌≤◌, ℕ, List, length, subst, sym, ap, arith, ◌∙◌}
use Rattle.fs_layout.specs.declared.inode.Inode.{Inode}
use Rattle.fs_layout.specs.Bytes.{SectorMap}
use Rattle.fs_layout.specs.Directories.{IsName, HasNames}
use Rattle.fs_layout.specs.Images.{inode_at}
use Rattle.fs_layout.specs.Maps.{name_cmp, get, with_entry, without}
use Rattle.fs_layout.specs.Version.{max_name}
use Rattle.fs_layout.proofs.OneSlots.{names_same}
use Rattle.sector_txn.proofs.TransactionRuns.{store_joined}
use Rattle.fs_model.specs.Nodes.{names_of_body}
use Rattle.bit_alloc.proofs.Transactions.{puts_after, spare_unchanged}
use Rattle.path_walk.proofs.Kept.{kept, sound_kept}
use Rattle.call_parts.specs.NewNodes.{HasName}
use Rattle.call_parts.proofs.Removed.{names_changed, fails_to_change}
use Rattle.name_calls.specs.Moving.{within}
use Rattle.call_parts.proofs.Alterings.{fails, not_altered}
use Rattle.name_calls.proofs.Movings.{dir_below, named_first, named_here, leads_first}
use Rattle.name_calls.proofs.renaming.rename_here.Goals as goal

pub load_inode-requires : goal.load_inode-requires
load_inode-requires g c = let x = c.requires.may in record { sound = x.0.sound; below = dir_below (g.S.Sectors.state c.args.s.now) x.0.is_state x.1 }

pub rename-requires : goal.rename-requires
rename-requires g c =
    let x = c.requires.may in
    let p = c.args.caller.now.geometry in
    let old = g.S.Sectors.state c.args.s.now in
    let same = c.in_ok-directory.ensures.same in
    let v = c.in_ok-directory.directory in
    let named = named_here old x.0.is_state x.1 c.requires.within c.requires.nothing in
    let to_name = c.bytes-to_name.ensures.all in
    let room = spare_unchanged p 47 old (g.S.Sectors.state c.load_inode.new.s) x.0.spare same in
    record {
      sound = sound_kept same x.0.sound;
      below = dir_below old x.0.is_state x.1;
      inode = kept (λ (m : SectorMap). v ≡ inode_at p m c.args.first.now.dir_ino) same c.in_ok-directory.ensures.found;
      directory = (
        named.0,
        kept (λ (m : SectorMap). HasNames p.version m v named.0) same (subst (λ (u : Inode). HasNames p.version old.sectors u named.0) (sym c.in_ok-directory.ensures.found) named.1),
        ap (get name_cmp named.0) to_name ∙ named.3,
      );
      new_name = subst IsName (sym to_name) x.1.is_name;
      short = subst (λ (q : List ℕ). length q ≤ max_name p.version) (sym to_name) x.1.short;
      spare = omega (arith, room);
    }

pub returns-in_err-directory : goal.returns-in_err-directory
returns-in_err-directory g c = not_altered _ _ c.from_residual.ensures c.in_err-directory.ensures.same.store c.in_err-directory.ensures.fault

pub returns-in-Ok : goal.returns-in-Ok
returns-in-Ok g c =
    let x = c.requires.may in
    let p = c.args.caller.now.geometry in
    let n = c.args.ino in
    let f = c.args.first.now in
    let old = g.S.Sectors.state c.args.s.now in
    let mid = g.S.Sectors.state c.load_inode.new.s in
    let new = g.S.Sectors.state c.rename.new.s in
    let same = c.in_ok-directory.ensures.same in
    let v = c.in_ok-directory.directory in
    let found = c.in_ok-directory.ensures.found in
    let done = c.in-Ok.ensures in
    let leads = leads_first old x.0.is_state x.1 in
    let names = names_of_body x.1.directory.node.body in
    let there = kept (λ (m : SectorMap). HasNames p.version m v names) same (subst (λ (u : Inode). HasNames p.version old.sectors u names) (sym found) leads.0) in
    record {
      store = store_joined same.store done.store;
      sound = done.change.sound;
      taken = (puts_after same done.change.touches.puts).room;
      made = within c.requires.within c.requires.nothing
          (names_changed same found done.change
          (λ all h.
          subst (λ (q : List ℕ). HasNames p.version new.sectors v (with_entry name_cmp (without name_cmp all f.name) q n)) c.bytes-to_name.ensures.all
          (subst (λ (q : List ℕ). HasNames p.version new.sectors v (with_entry name_cmp (without name_cmp all q) c.bytes-to_name.result.now n)) c.bytes-name.ensures.all
          (done.names all n h
          (ap (get name_cmp all) c.bytes-name.ensures.all ∙ ap (λ (ns : List (List ℕ × ℕ)). get name_cmp ns f.name) (names_same p.version mid.sectors v all names h there) ∙ leads.1)))));
      fault = tt;
    }

pub returns-in-Err : goal.returns-in-Err
returns-in-Err g c =
    let x = c.requires.may in
    let p = c.args.caller.now.geometry in
    let f = c.args.first.now in
    let old = g.S.Sectors.state c.args.s.now in
    let same = c.in_ok-directory.ensures.same in
    let failed = c.in-Err.ensures in
    fails (store_joined same.store failed.store)
    (fails_to_change p f.dir_ino c.bytes-name.result.now (g.S.Sectors.state c.rename.new.s).disk c.in-Err.field-0
    (subst (HasName p old.sectors f.dir_ino) (sym c.bytes-name.ensures.all) (named_first old x.0.is_state x.1)) same c.in_ok-directory.ensures.found failed.why failed.cause.failed)

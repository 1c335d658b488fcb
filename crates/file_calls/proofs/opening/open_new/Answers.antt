use Rattle.std.proofs.Common.{◌≡◌, sym, arith, subst, inr, ◌∙◌}
use Rattle.fs_layout.specs.Bytes.{SectorMap}
use Rattle.fs_layout.specs.Images.{inode_at}
use Rattle.sector_txn.proofs.TransactionRuns.{store_same, store_joined}
use Rattle.bit_alloc.proofs.Transactions.{spare_unchanged, unchanged_joined}
use Rattle.inode_table.specs.Acls.{HasDefaultAcl}
use Rattle.fs_model.specs.Nodes.{default_in}
use Rattle.call_parts.proofs.Calling.{state_tree}
use Rattle.path_walk.proofs.HeldNodes.{number_below, is_there}
use Rattle.path_walk.proofs.Kept.{kept, sound_kept}
use Rattle.call_parts.specs.Makings.{CanMake}
use Rattle.call_parts.proofs.Removed.{taken_after}
use Rattle.file_calls.proofs.OpenedTimes.{reached, prepared_may_touch}
use Rattle.file_calls.proofs.OpenFound.{not_opened, opening_broken, opening_broken_later}
use Rattle.file_calls.proofs.OpenMade.{directory_there, dir_default, none_is_there, make_refused, asked_of_it, can_make, finds_kept, asked_later, file_prepares}
use Rattle.file_calls.proofs.opening.open_new.Goals as goal

pub returns : goal.returns
returns g c =
    let asked = c.in_ok-directory.ensures in
    let acl = c.in_ok-acl.ensures in
    let done = c.in_ok-ino.ensures in
    let joined = unchanged_joined asked.same acl.same in
    let moved = c.in_ok-touch.ensures.made in
    record {
      store = store_joined (store_joined joined.store done.store) c.in_ok-touch.ensures.store;
      super = moved.super ∙ done.made.names.super ∙ done.made.takes.super ∙ joined.sectors 0;
      each = λ st i.
          reached i
          (file_prepares c.requires.none (sym c.in_ok-check_new.ensures) c.cred-cred.ensures c.saturating_sub-step.ensures asked.same acl.same asked.each c.args.opening.now.mode
          (g.S.Sectors.state c.make_file.new.s).sectors c.uid-uid.ensures c.bytes-name.ensures.all c.umask.ensures done.made c.new_group-gid.ensures acl.found i)
          moved;
    }

pub returns-in_err-check_new : goal.returns-in_err-check_new
returns-in_err-check_new g c =
    let r = c.from_residual.ensures in
    let old = g.S.Sectors.state c.args.s.now in
    let e = c.in_err-check_new.field-0.0 in
    not_opened old old c.from_residual.result e r.0 r.1 store_same
    (λ st i. none_is_there i c.requires.none old.disk old.disk e (sym c.in_err-check_new.ensures))

pub check_make-requires : goal.check_make-requires
check_make-requires g c =
    let x = c.requires.may in
    record { sound = x.sound; there = (x.state.tree, state_tree x.found.is_state, directory_there x.found c.requires.none) }

pub returns-in_err-directory : goal.returns-in_err-directory
returns-in_err-directory g c =
    let r = c.from_residual-in_err-directory.ensures in
    let old = g.S.Sectors.state c.args.s.now in
    let new = g.S.Sectors.state c.check_make.new.s in
    let failed = c.in_err-directory.ensures in
    let e = c.in_err-directory.field-0.0 in
    not_opened old new c.from_residual-in_err-directory.result e r.0 r.1 failed.same.store
    (λ st i. make_refused i c.requires.none (sym c.in_ok-check_new.ensures) (inode_at c.args.caller.now.geometry old.sectors c.args.opening.now.found.dir_ino) c.cred-cred.result.now
    c.saturating_sub-step.result c.cred-cred.ensures c.saturating_sub-step.ensures old.disk new.disk e
    (failed.each st.tree (state_tree i.is_state) (directory_there i c.requires.none)))

pub new_acl-requires : goal.new_acl-requires
new_acl-requires g c =
    let p = c.args.caller.now.geometry in
    let old = g.S.Sectors.state c.args.s.now in
    let same = c.in_ok-directory.ensures.same in
    let v = c.in_ok-directory.directory in
    let dir_ino = c.args.opening.now.found.dir_ino in
    let x = c.requires.may in
    let d = directory_there x.found c.requires.none in
    let h = state_tree x.found.is_state in
    let is = asked_of_it x.found c.requires.none (sym c.in_ok-check_new.ensures) (inode_at p old.sectors dir_ino) c.cred-cred.result.now c.saturating_sub-step.result
    c.cred-cred.ensures c.saturating_sub-step.ensures v (c.in_ok-directory.ensures.each x.state.tree h d) in
    record {
      sound = sound_kept same x.sound;
      there = (dir_ino, number_below h dir_ino (is_there x.state.tree dir_ino d.node d.is_there), kept (λ (m : SectorMap). v ≡ inode_at p m dir_ino) same is);
      has = (default_in d.node.body, kept (λ (m : SectorMap). HasDefaultAcl m v (default_in d.node.body)) same (dir_default x.found c.requires.none v is));
    }

pub returns-in_err-acl : goal.returns-in_err-acl
returns-in_err-acl g c =
    opening_broken (g.S.Sectors.state c.new_acl.new.s) _ _ c.from_residual-in_err-acl.ensures c.in_ok-directory.ensures.same c.in_err-acl.ensures.same.store c.in_err-acl.ensures.interrupts

pub make_file-requires : goal.make_file-requires
make_file-requires g c =
    let p = c.args.caller.now.geometry in
    let old = g.S.Sectors.state c.args.s.now in
    let mid = g.S.Sectors.state c.new_acl.new.s in
    let joined = unchanged_joined c.in_ok-directory.ensures.same c.in_ok-acl.ensures.same in
    let v = c.in_ok-directory.directory in
    let dir_ino = c.args.opening.now.found.dir_ino in
    let x = c.requires.may in
    let i = finds_kept joined x.found in
    let may = sym c.in_ok-check_new.ensures in
    let is = asked_later p x.state.tree dir_ino c.saturating_sub-step.result c.cred-cred.result.now v joined
    (c.in_ok-directory.ensures.each x.state.tree (state_tree x.found.is_state) (directory_there x.found c.requires.none)) in
    record {
      ready = record { sound = sound_kept joined x.sound; spare = spare_unchanged p 47 old mid x.spare joined };
      directory = asked_of_it i c.requires.none may (inode_at p mid.sectors dir_ino) c.cred-cred.result.now c.saturating_sub-step.result
          c.cred-cred.ensures c.saturating_sub-step.ensures v is;
      may = (
        x.state.tree,
        subst (CanMake p mid.sectors x.state.tree dir_ino) (sym c.bytes-name.ensures.all)
            (can_make i c.requires.none may (inode_at p mid.sectors dir_ino) c.cred-cred.result.now c.saturating_sub-step.result c.cred-cred.ensures c.saturating_sub-step.ensures v is),
      );
    }

pub returns-in_err-ino : goal.returns-in_err-ino
returns-in_err-ino g c =
    opening_broken (g.S.Sectors.state c.make_file.new.s) _ _ c.from_residual-in_err-ino.ensures (unchanged_joined c.in_ok-directory.ensures.same c.in_ok-acl.ensures.same)
    c.in_err-ino.ensures.store (inr c.in_err-ino.ensures.fault)

pub touch-requires : goal.touch-requires
touch-requires g c =
    let x = c.requires.may in
    let new = g.S.Sectors.state c.make_file.new.s in
    let asked = c.in_ok-directory.ensures in
    let acl = c.in_ok-acl.ensures in
    let done = c.in_ok-ino.ensures in
    let joined = unchanged_joined asked.same acl.same in
    let d = directory_there x.found c.requires.none in
    let dir_ino = c.args.opening.now.found.dir_ino in
    prepared_may_touch (g.S.Sectors.state c.args.s.now) new x.sound x.spare (store_joined joined.store done.store)
    (file_prepares c.requires.none (sym c.in_ok-check_new.ensures) c.cred-cred.ensures c.saturating_sub-step.ensures asked.same acl.same asked.each c.args.opening.now.mode new.sectors
    c.uid-uid.ensures c.bytes-name.ensures.all c.umask.ensures done.made c.new_group-gid.ensures acl.found x.found)
    (number_below (state_tree x.found.is_state) dir_ino (is_there x.state.tree dir_ino d.node d.is_there), (done.made.takes.free.1, tt)) 7
    (taken_after c.args.caller.now.geometry 7 new joined done.taken) (omega arith)

pub returns-in_err-touch : goal.returns-in_err-touch
returns-in_err-touch g c =
    opening_broken_later (g.S.Sectors.state c.touch.new.s) _ _ c.from_residual-in_err-touch.ensures
    (store_joined (unchanged_joined c.in_ok-directory.ensures.same c.in_ok-acl.ensures.same).store c.in_ok-ino.ensures.store) c.in_err-touch.ensures.store c.in_err-touch.ensures.fault

use Rattle.std.proofs.Common.{◌≡◌, arith, sym, inr, ◌∙◌}
use Rattle.fs_layout.specs.Images.{inode_at}
use Rattle.fs_layout.specs.Bytes.{SectorMap}
use Rattle.bit_alloc.proofs.Transactions.{spare_unchanged}
use Rattle.sector_txn.proofs.TransactionRuns.{store_joined}
use Rattle.call_parts.proofs.Calling.{state_tree}
use Rattle.path_walk.proofs.HeldNodes.{number_below}
use Rattle.path_walk.proofs.Kept.{kept, sound_kept, same_map}
use Rattle.call_parts.proofs.Changed.{none_moved}
use Rattle.call_parts.proofs.Removed.{taken_after}
use Rattle.file_calls.proofs.OpenedTimes.{reached, prepared_may_touch}
use Rattle.file_calls.proofs.OpenFound.{old_there, old_refused, old_inode, old_file, old_reached, old_emptied, not_opened, opening_broken, opening_broken_later}
use Rattle.file_calls.proofs.opening.open_old.Goals as goal

pub check_found-requires : goal.check_found-requires
check_found-requires g c =
    let x = c.requires.may in
    record { sound = x.sound; there = (x.state.tree, state_tree x.found.is_state, old_there x.found c.args.ino c.requires.some) }

pub returns-in_err-inode : goal.returns-in_err-inode
returns-in_err-inode g c =
    let r = c.from_residual.ensures in
    let old = g.S.Sectors.state c.args.s.now in
    let new = g.S.Sectors.state c.check_found.new.s in
    let failed = c.in_err-inode.ensures in
    let e = c.in_err-inode.field-0.0 in
    not_opened old new c.from_residual.result e r.0 r.1 failed.same.store
    (λ st i. old_refused i c.args.ino c.requires.some (inode_at c.args.caller.now.geometry old.sectors c.args.ino) c.cred-cred.result.now e old.disk new.disk c.cred-cred.ensures
    (failed.each st.tree (state_tree i.is_state) (old_there i c.args.ino c.requires.some)))

pub returns-then-not-cuts : goal.returns-then-not-cuts
returns-then-not-cuts g c =
    let new = g.S.Sectors.state c.check_found.new.s in
    let same = c.in_ok-inode.ensures.same in
    record {
      store = same.store;
      super = same.sectors 0;
      each = λ st i.
          reached i
          (old_reached i c.args.ino c.requires.some c.cred-cred.result.now c.in_ok-inode.inode c.cred-cred.ensures
          (c.in_ok-inode.ensures.each st.tree (state_tree i.is_state) (old_there i c.args.ino c.requires.some))
          c.args.opening.now.mode new.sectors (sym c.cuts-cuts.ensures ∙ c.if-not-cuts.true) (same_map same))
          (none_moved new);
    }

pub give_size-requires : goal.give_size-requires
give_size-requires g c =
    let old = g.S.Sectors.state c.args.s.now in
    let new = g.S.Sectors.state c.check_found.new.s in
    let same = c.in_ok-inode.ensures.same in
    let x = c.requires.may in
    let there = old_there x.found c.args.ino c.requires.some in
    let is = c.in_ok-inode.ensures.each x.state.tree (state_tree x.found.is_state) there in
    let v = c.in_ok-inode.inode in
    let spare = spare_unchanged c.args.caller.now.geometry 47 old new x.spare same in
    record {
      ready = record { sound = sound_kept same x.sound; spare = omega (arith, spare) };
      below = number_below (state_tree x.found.is_state) c.args.ino there;
      inode = kept (λ (m : SectorMap). v ≡ inode_at c.args.caller.now.geometry m c.args.ino) same (old_inode x.found c.args.ino c.requires.some c.cred-cred.result.now v c.cred-cred.ensures is);
      file = old_file x.found c.args.ino c.requires.some c.cred-cred.result.now v c.cred-cred.ensures is (sym c.cuts-cuts.ensures ∙ c.if-not-cuts.false);
      fits = omega arith;
    }

pub returns-in_err-give_size : goal.returns-in_err-give_size
returns-in_err-give_size g c =
    opening_broken (g.S.Sectors.state c.give_size.new.s) _ _ c.from_residual-in_err-give_size.ensures c.in_ok-inode.ensures.same c.in_err-give_size.ensures.store (inr c.in_err-give_size.ensures.fault)

pub touch-requires : goal.touch-requires
touch-requires g c =
    let old = g.S.Sectors.state c.args.s.now in
    let mid = g.S.Sectors.state c.check_found.new.s in
    let new = g.S.Sectors.state c.give_size.new.s in
    let same = c.in_ok-inode.ensures.same in
    let done = c.in_ok-give_size.ensures in
    let x = c.requires.may in
    let i = x.found in
    let there = old_there i c.args.ino c.requires.some in
    prepared_may_touch old new x.sound x.spare (store_joined same.store done.store)
    (old_emptied i c.args.ino c.requires.some c.cred-cred.result.now c.in_ok-inode.inode c.cred-cred.ensures (c.in_ok-inode.ensures.each x.state.tree (state_tree i.is_state) there)
    0 mid new (same_map same) (sym c.cuts-cuts.ensures ∙ c.if-not-cuts.false) done.made)
    (number_below (state_tree i.is_state) c.args.ino there, tt) 5 (taken_after c.args.caller.now.geometry 5 new same done.taken) (omega arith)

pub returns-in_err-touch : goal.returns-in_err-touch
returns-in_err-touch g c =
    opening_broken_later (g.S.Sectors.state c.touch.new.s) _ _ c.from_residual-in_err-touch.ensures (store_joined c.in_ok-inode.ensures.same.store c.in_ok-give_size.ensures.store)
    c.in_err-touch.ensures.store c.in_err-touch.ensures.fault

pub returns : goal.returns
returns g c =
    let mid = g.S.Sectors.state c.check_found.new.s in
    let new = g.S.Sectors.state c.give_size.new.s in
    let same = c.in_ok-inode.ensures.same in
    let done = c.in_ok-give_size.ensures in
    let moved = c.in_ok-touch.ensures.made in
    record {
      store = store_joined (store_joined same.store done.store) c.in_ok-touch.ensures.store;
      super = moved.super ∙ done.made.super ∙ same.sectors 0;
      each = λ st i.
          reached i
          (old_emptied i c.args.ino c.requires.some c.cred-cred.result.now c.in_ok-inode.inode c.cred-cred.ensures
          (c.in_ok-inode.ensures.each st.tree (state_tree i.is_state) (old_there i c.args.ino c.requires.some))
          c.args.opening.now.mode mid new (same_map same) (sym c.cuts-cuts.ensures ∙ c.if-not-cuts.false) done.made)
          moved;
    }

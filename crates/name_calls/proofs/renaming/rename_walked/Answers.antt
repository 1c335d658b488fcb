use Rattle.call_parts.specs.BothTables.{tables_of}
use Rattle.std.proofs.Common.{refl, ◌≡◌, false, sym, ◌∙◌}
use Rattle.fs_layout.specs.Bytes.{SectorMap}
use Rattle.fs_layout.specs.Images.{inode_at}
use Rattle.fs_model.specs.declared.reply.Reply.TheVariants.{Done}
use Rattle.sector_txn.proofs.TransactionRuns.{store_joined}
use Rattle.path_walk.proofs.Kept.{kept}
use Rattle.call_parts.proofs.ByTwoPaths.{both_refused, both_broken, both_broken_later, both_performs}
use Rattle.call_parts.proofs.Calling.{state_kept}
use Rattle.call_parts.proofs.Changed.{may_touch, none_moved}
use Rattle.call_parts.proofs.Removed.{taken_after}
use Rattle.name_calls.proofs.Movings.{touched_below, few_renamed}
use Rattle.call_parts.proofs.FoundBoth.{finds_each}
use Rattle.name_calls.specs.Moving.{MayMoveTo}
use Rattle.call_parts.proofs.Alterings.{ready_later}
use Rattle.name_calls.specs.Renaming.{inode_there}
use Rattle.name_calls.specs.Replacing.{same_number}
use Rattle.name_calls.proofs.RenameRows.{rename_by_two, rename_told, same_is, may_move, rename_changed, rename_stays}
use Rattle.bit_alloc.proofs.Transactions.{unchanged_nothing}
use Rattle.name_calls.proofs.renaming.rename_walked.Goals as goal

pub check_rename-requires : goal.check_rename-requires
check_rename-requires g c =
    let w = c.requires.2 in
    let ready = w.ready in
    record { sound = ready.sound; found = (ready.state, finds_each w ready.state ready.is_state) }

pub returns-in_err-ino : goal.returns-in_err-ino
returns-in_err-ino g c = λ old_path new_path w.
    let r = c.from_residual.ensures in
    both_refused (rename_by_two old_path new_path) unchanged_nothing w (g.S.Sectors.state c.check_rename.new.s) _ _ r.0 r.1 c.in_err-ino.ensures.same.store _
    (λ s has at. c.in_err-ino.ensures.each s (finds_each w s at))

pub returns-then-is_same : goal.returns-then-is_same
returns-then-is_same g c = λ old_path new_path w.
    let q = c.args.walked.now.process in
    let same = c.in_ok-ino.ensures.same in
    both_performs (rename_by_two old_path new_path) unchanged_nothing w refl (g.S.Sectors.state c.check_rename.new.s) same.store (same.sectors 0)
    (none_moved (g.S.Sectors.state c.check_rename.new.s)) Done
    (λ s has at.
    let told = rename_told (finds_each w s at) (c.in_ok-ino.ensures.each s (finds_each w s at)) in
    rename_stays s q c.args.walked.now.first c.args.walked.now.second told.met (same_is q told.found ∙ sym c.is_same.ensures ∙ c.if-is_same.true) (state_kept same at))

pub move_name-requires : goal.move_name-requires
move_name-requires g c =
    let p = c.args.caller.now.geometry in
    let w = c.requires.2 in
    let ready = w.ready in
    let a = c.args.walked.now.first in
    let b = c.args.walked.now.second in
    let same = c.in_ok-ino.ensures.same in
    let finds = finds_each w ready.state ready.is_state in
    let told = rename_told finds (c.in_ok-ino.ensures.each ready.state finds) in
    let apart : same_number c.in_ok-ino.ino c.in_ok-ino.replaced ≡ false = sym c.is_same.ensures ∙ c.if-is_same.false in
    record {
      inode = kept (λ (m : SectorMap). c.in_ok-ino.inode ≡ inode_at p m c.in_ok-ino.ino) same told.found.inode;
      replaced = kept (λ (m : SectorMap). c.in_ok-ino.replaced ≡ inode_there p m b.ino) same told.found.replaced_is;
      may = ready_later same ready (MayMoveTo p (g.S.Sectors.state c.check_rename.new.s).sectors a b c.in_ok-ino.ino)
          (kept (λ (m : SectorMap). MayMoveTo p m a b c.in_ok-ino.ino ready.state) same (may_move finds told apart));
    }

pub returns-in_err-move_name : goal.returns-in_err-move_name
returns-in_err-move_name g c = λ old_path new_path w.
    both_broken (rename_by_two old_path new_path) unchanged_nothing w (g.S.Sectors.state c.move_name.new.s) _ _ c.from_residual-in_err-move_name.ensures
    c.in_ok-ino.ensures.same c.in_err-move_name.ensures.store c.in_err-move_name.ensures.fault

pub touch_moved-requires : goal.touch_moved-requires
touch_moved-requires g c =
    let w = c.requires.2 in
    let a = c.args.walked.now.first in
    let b = c.args.walked.now.second in
    let mid = g.S.Sectors.state c.args.s.now in
    let same = c.in_ok-ino.ensures.same in
    let moved = c.in_ok-move_name.ensures in
    let apart : same_number c.in_ok-ino.ino c.in_ok-ino.replaced ≡ false = sym c.is_same.ensures ∙ c.if-is_same.false in
    let s = w.ready.state in
    let at = w.ready.is_state in
    let finds = finds_each w s at in
    let told = rename_told finds (c.in_ok-ino.ensures.each s finds) in
    may_touch {now = tables_of c.args.caller.now} w.ready (store_joined same.store moved.store) (rename_changed same moved.made finds told apart)
    (touched_below mid at (may_move finds told apart)) 11 (taken_after c.args.caller.now.geometry 11 (g.S.Sectors.state c.move_name.new.s) same moved.taken)
    (few_renamed a.dir_ino b.dir_ino c.in_ok-ino.ino b.ino)

pub returns-in_err-touch_moved : goal.returns-in_err-touch_moved
returns-in_err-touch_moved g c = λ old_path new_path w.
    both_broken_later (rename_by_two old_path new_path) unchanged_nothing w (g.S.Sectors.state c.touch_moved.new.s) _ _ c.from_residual-in_err-touch_moved.ensures
    (store_joined c.in_ok-ino.ensures.same.store c.in_ok-move_name.ensures.store) c.in_err-touch_moved.ensures.store c.in_err-touch_moved.ensures.fault

pub returns : goal.returns
returns g c = λ old_path new_path w.
    let same = c.in_ok-ino.ensures.same in
    let moved = c.in_ok-move_name.ensures in
    both_performs (rename_by_two old_path new_path) unchanged_nothing w refl (g.S.Sectors.state c.move_name.new.s) (store_joined same.store moved.store)
    (moved.made.super ∙ same.sectors 0) c.in_ok-touch_moved.ensures.made Done
    (λ s has at.
    let finds = finds_each w s at in
    rename_changed same moved.made finds (rename_told finds (c.in_ok-ino.ensures.each s finds)) (sym c.is_same.ensures ∙ c.if-is_same.false))

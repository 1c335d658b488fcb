use Rattle.call_parts.specs.BothTables.{tables_of}
use Rattle.std.proofs.Common.{◌≡◌, arith, ◌∙◌}
use Rattle.fs_layout.specs.Bytes.{SectorMap}
use Rattle.fs_layout.specs.Images.{inode_at}
use Rattle.fs_model.specs.declared.reply.Reply.TheVariants.{Done}
use Rattle.sector_txn.proofs.TransactionRuns.{store_joined}
use Rattle.path_walk.proofs.Kept.{kept}
use Rattle.call_parts.proofs.Changed.{may_touch}
use Rattle.call_parts.proofs.Removed.{taken_after}
use Rattle.call_parts.proofs.Reachings.{asked_refused, asked_broken, broken_later, changed as has_changed}
use Rattle.name_calls.specs.Removing.{MayGoAt}
use Rattle.call_parts.proofs.Alterings.{ready_later}
use Rattle.name_calls.proofs.Takings.{dir_below, is_number}
use Rattle.name_calls.proofs.RemovalRows.{removes_by_path, never_told, finds_name, target_found, target_may, target_gone}
use Rattle.bit_alloc.proofs.Transactions.{unchanged_nothing}
use Rattle.name_calls.proofs.removal.remove_walked.Goals as goal

pub check_target-requires : goal.check_target-requires
check_target-requires g c =
    let w = c.requires.1 in
    let ready = w.ready in
    record { sound = ready.sound; found = (ready.state, finds_name w.bytes ready.is_state (w.found ready.state ready.is_state)) }

pub returns-in_err-ino : goal.returns-in_err-ino
returns-in_err-ino g c = λ path w.
    let r = c.from_residual.ensures in
    asked_refused (removes_by_path c.args.what path) unchanged_nothing w (g.S.Sectors.state c.check_target.new.s) _ _ r.0 r.1 c.in_err-ino.ensures.same.store _
    (λ s has at. c.in_err-ino.ensures.each s (finds_name w.bytes at has))

pub take_name-requires : goal.take_name-requires
take_name-requires g c =
    let w = c.requires.1 in
    let ready = w.ready in
    let same = c.in_ok-ino.ensures.same in
    let finds = finds_name w.bytes ready.is_state (w.found ready.state ready.is_state) in
    let asked = c.in_ok-ino.ensures.each ready.state finds in
    record {
      inode = kept (λ (m : SectorMap). c.in_ok-ino.inode ≡ inode_at c.args.caller.now.geometry m c.in_ok-ino.ino) same (target_found finds c.args.what asked).inode;
      may = ready_later same ready (MayGoAt c.args.walked.now.found c.in_ok-ino.ino) (target_may finds c.args.what asked);
    }

pub returns-in_err-take_name : goal.returns-in_err-take_name
returns-in_err-take_name g c = λ path w.
    asked_broken (removes_by_path c.args.what path) unchanged_nothing w (g.S.Sectors.state c.take_name.new.s) _ _ c.from_residual-in_err-take_name.ensures
    c.in_ok-ino.ensures.same c.in_err-take_name.ensures.store c.in_err-take_name.ensures.fault

pub touch-requires : goal.touch-requires
touch-requires g c =
    let w = c.requires.1 in
    let mid = g.S.Sectors.state c.args.s.now in
    let same = c.in_ok-ino.ensures.same in
    let taken = c.in_ok-take_name.ensures in
    let s = w.ready.state in
    let at = w.ready.is_state in
    let finds = finds_name w.bytes at (w.found s at) in
    let asked = c.in_ok-ino.ensures.each s finds in
    let may = target_may finds c.args.what asked in
    may_touch {now = tables_of c.args.caller.now} w.ready (store_joined same.store taken.store) (target_gone c.args.what same taken.made finds asked)
    (dir_below mid at may, ((is_number mid at may).1, tt)) 6 (taken_after c.args.caller.now.geometry 6 (g.S.Sectors.state c.take_name.new.s) same taken.taken) (omega arith)

pub returns-in_err-touch : goal.returns-in_err-touch
returns-in_err-touch g c = λ path w.
    broken_later (removes_by_path c.args.what path) unchanged_nothing w (g.S.Sectors.state c.touch.new.s) _ _ c.from_residual-in_err-touch.ensures
    (store_joined c.in_ok-ino.ensures.same.store c.in_ok-take_name.ensures.store) c.in_err-touch.ensures.store c.in_err-touch.ensures.fault

pub returns : goal.returns
returns g c = λ path w.
    let same = c.in_ok-ino.ensures.same in
    let taken = c.in_ok-take_name.ensures in
    has_changed (removes_by_path c.args.what path) unchanged_nothing w (never_told c.args.what path) (g.S.Sectors.state c.take_name.new.s) (store_joined same.store taken.store)
    (taken.made.super ∙ same.sectors 0) c.in_ok-touch.ensures.made Done
    (λ s has at. let finds = finds_name w.bytes at has in target_gone c.args.what same taken.made finds (c.in_ok-ino.ensures.each s finds))

use Rattle.std.proofs.Common.{refl}
use Rattle.std.specs.Prelude.{false, true, nat_lt}
use Rattle.std.proofs.Common.{◌≡◌, arith, ℕ, sym, inr, ◌∙◌}
use Rattle.fs_cred.specs.declared.errno.Errno.TheVariants.{EISDIR, EFBIG}
use Rattle.fs_cred.specs.Verdicts.{verdict}
use Rattle.fs_layout.specs.Version.{max_file_size}
use Rattle.fs_layout.specs.Images.{inode_at}
use Rattle.fs_model.specs.declared.reply.Reply.TheVariants.{Done}
use Rattle.fs_model.specs.Demands.{refuse, perms}
use Rattle.fs_model.specs.Rules.{is_directory_kind}
use Rattle.bit_alloc.proofs.Transactions.{unchanged_nothing, spare_unchanged}
use Rattle.sector_txn.proofs.TransactionRuns.{store_same, store_joined}
use Rattle.call_parts.proofs.Calling.{met_ok}
use Rattle.call_parts.proofs.Followed.{followed_access, access_held, permission_refused, permission_granted}
use Rattle.call_parts.proofs.Changed.{may_touch}
use Rattle.call_parts.proofs.Reachings.{reach_refused, asked_refused, broken_later, changed, reached_below, reached_access}
use Rattle.call_parts.proofs.Removed.{taken_after}
use Rattle.path_walk.proofs.Kept.{kept, sound_kept, interrupts_later}
use Rattle.file_calls.proofs.Rows.{truncate_by_path}
use Rattle.file_calls.proofs.Sized.{few_enough, file_kind, directory_refused, write_refused, size_refused, resized_found}
use Rattle.file_calls.proofs.transfer.truncate.Goals as goal

pub returns-in_err-reached : goal.returns-in_err-reached
returns-in_err-reached g c =
    let r = c.from_residual.ensures in
    let x = c.in_err-reached.ensures in
    reach_refused (truncate_by_path c.args.path.now c.args.size) c.from_residual.result c.in_err-reached.field-0.0 r.0 r.1 x.same x.refused

pub returns-in_err-check_no_directory : goal.returns-in_err-check_no_directory
returns-in_err-check_no_directory g c =
    let x = c.in_ok-reached.ensures in
    let i = x.reached.inode in
    let r = c.from_residual-in_err-check_no_directory.ensures in
    let mid = g.S.Sectors.state c.reach.new.s in
    let e = c.in_err-check_no_directory.field-0.0 in
    asked_refused (truncate_by_path c.args.path.now c.args.size) x.same x.reached.walked mid c.from_residual-in_err-check_no_directory.result e r.0 r.1 store_same {A = ℕ} 0
    (λ s has at. directory_refused at has i.some i.number i.inode c.args.size i.met tt 0 e mid.disk mid.disk (sym c.in_err-check_no_directory.ensures))

pub permitted-requires : goal.permitted-requires
permitted-requires g c =
    let x = c.in_ok-reached.ensures.reached in
    record { sound = x.walked.ready.sound; there = (_, reached_below x, x.inode.inode); has = (_, reached_access x) }

pub returns-in_err-permitted : goal.returns-in_err-permitted
returns-in_err-permitted g c =
    let x = c.in_ok-reached.ensures in
    let i = x.reached.inode in
    let file = (met_ok (refuse EISDIR (is_directory_kind c.in_ok-reached.reached.inode.kind)) tt tt (sym c.in_ok-check_no_directory.ensures)).0 in
    let r = c.from_residual-in_err-permitted.ensures in
    let mid = g.S.Sectors.state c.reach.new.s in
    let new = g.S.Sectors.state c.permitted.new.s in
    let e = c.in_err-permitted.field-0.0 in
    asked_refused (truncate_by_path c.args.path.now c.args.size) x.same x.reached.walked new c.from_residual-in_err-permitted.result e r.0 r.1 c.in_err-permitted.ensures.same.store {A = ℕ} 0
    (λ s has at.
    let a = followed_access c.in_ok-reached.reached.ino at has i.some in
    write_refused at has i.some i.number i.inode c.args.size i.met file (verdict c.in_ok-reached.reached.process.cred a.access (perms false true false)).rule 0 e mid.disk new.disk
    (permission_refused {mid = mid} {new = mid} at has i unchanged_nothing c.cred-cred.result.now c.cred-cred.ensures (perms false true false) e new.disk
    (c.in_err-permitted.ensures.each a.access (access_held {mid = mid} {new = mid} at has i unchanged_nothing))))

pub returns-in_err-check_size : goal.returns-in_err-check_size
returns-in_err-check_size g c =
    let x = c.in_ok-reached.ensures in
    let i = x.reached.inode in
    let file = (met_ok (refuse EISDIR (is_directory_kind c.in_ok-reached.reached.inode.kind)) tt tt (sym c.in_ok-check_no_directory.ensures)).0 in
    let mid = g.S.Sectors.state c.reach.new.s in
    let new = g.S.Sectors.state c.permitted.new.s in
    asked_refused (truncate_by_path c.args.path.now c.args.size) x.same x.reached.walked new c.from_residual-in_err-check_size.result
    c.in_err-check_size.field-0.0 c.from_residual-in_err-check_size.ensures.0 c.from_residual-in_err-check_size.ensures.1 c.in_ok-permitted.ensures.same.store {A = ℕ} 0
    (λ s has at.
    let a = followed_access c.in_ok-reached.reached.ino at has i.some in
    let granted = permission_granted {mid = mid} {new = mid} at has i unchanged_nothing c.cred-cred.result.now c.cred-cred.ensures (perms false true false) c.in_ok-permitted.field-0
    (c.in_ok-permitted.ensures.each a.access (access_held {mid = mid} {new = mid} at has i unchanged_nothing)) in
    size_refused at has i.some i.number i.inode c.args.size i.met file granted.0 tt 0 c.in_err-check_size.field-0.0 mid.disk new.disk (sym c.in_err-check_size.ensures))

pub give_size-requires : goal.give_size-requires
give_size-requires g c =
    let x = c.in_ok-reached.ensures.reached in
    let same = c.in_ok-permitted.ensures.same in
    let v = c.in_ok-reached.reached.inode in
    let spare = spare_unchanged c.args.caller.now.geometry 47 (g.S.Sectors.state c.reach.new.s) (g.S.Sectors.state c.permitted.new.s) x.walked.ready.spare same in
    record {
      ready = record { sound = sound_kept same x.walked.ready.sound; spare = omega (arith, spare) };
      below = reached_below x;
      inode = kept (λ m. v ≡ inode_at c.args.caller.now.geometry m c.in_ok-reached.reached.ino) same x.inode.inode;
      file = file_kind _ v.kind (reached_access x).kind (met_ok (refuse EISDIR (is_directory_kind v.kind)) tt tt (sym c.in_ok-check_no_directory.ensures)).0;
      fits = few_enough (max_file_size c.args.caller.now.geometry.version) c.args.size (met_ok (refuse EFBIG (nat_lt (max_file_size c.args.caller.now.geometry.version) c.args.size)) tt tt (sym c.in_ok-check_size.ensures)).0;
    }

pub returns-in_err-give_size : goal.returns-in_err-give_size
returns-in_err-give_size g c =
    let x = c.in_ok-reached.ensures in
    let r = c.from_residual-in_err-give_size.ensures in
    let new = g.S.Sectors.state c.give_size.new.s in
    let same = c.in_ok-permitted.ensures.same in
    asked_refused (truncate_by_path c.args.path.now c.args.size) x.same x.reached.walked new c.from_residual-in_err-give_size.result c.in_err-give_size.field-0.0 r.0 r.1
    (store_joined same.store c.in_err-give_size.ensures.store) {A = ℕ} 0 (λ s has at. inr (interrupts_later new.disk same (inr c.in_err-give_size.ensures.fault)))

pub touch-requires : goal.touch-requires
touch-requires g c =
    let x = c.in_ok-reached.ensures in
    let w = x.reached.walked in
    let same = c.in_ok-permitted.ensures.same in
    let done = c.in_ok-give_size.ensures in
    may_touch w.ready (store_joined same.store done.store)
    (resized_found w.ready.is_state (w.found w.ready.state w.ready.is_state) x.reached.inode (sym c.in_ok-check_no_directory.ensures) c.cred-cred.result.now c.cred-cred.ensures
    c.in_ok-permitted.ensures.each same c.args.size (sym c.in_ok-check_size.ensures) done.made)
    (reached_below x.reached, tt) 5 (taken_after c.args.caller.now.geometry 5 (g.S.Sectors.state c.give_size.new.s) same done.taken) (omega arith)

pub returns-in_err-touch : goal.returns-in_err-touch
returns-in_err-touch g c =
    let x = c.in_ok-reached.ensures in
    broken_later (truncate_by_path c.args.path.now c.args.size) x.same x.reached.walked (g.S.Sectors.state c.touch.new.s) _ _ c.from_residual-in_err-touch.ensures
    (store_joined c.in_ok-permitted.ensures.same.store c.in_ok-give_size.ensures.store) c.in_err-touch.ensures.store c.in_err-touch.ensures.fault

pub returns : goal.returns
returns g c =
    let x = c.in_ok-reached.ensures in
    let same = c.in_ok-permitted.ensures.same in
    let done = c.in_ok-give_size.ensures in
    changed (truncate_by_path c.args.path.now c.args.size) x.same x.reached.walked refl (g.S.Sectors.state c.give_size.new.s)
    (store_joined same.store done.store) (done.made.super ∙ same.sectors 0) c.in_ok-touch.ensures.made Done
    (λ s has at. resized_found at has x.reached.inode (sym c.in_ok-check_no_directory.ensures) c.cred-cred.result.now c.cred-cred.ensures c.in_ok-permitted.ensures.each same
    c.args.size (sym c.in_ok-check_size.ensures) done.made)

use Rattle.std.proofs.Common.{refl}
use Rattle.std.proofs.Common.{arith, ℕ, sym, inr}
use Rattle.fs_model.specs.declared.reply.Reply.TheVariants.{Done}
use Rattle.sector_txn.proofs.TransactionRuns.{store_same}
use Rattle.call_parts.proofs.Ownership.{owner_refused, owner_changed}
use Rattle.call_parts.proofs.Changed.{may_touch}
use Rattle.call_parts.proofs.Reachings.{reach_refused, asked_refused, broken_later, changed, reached_below, reached_used}
use Rattle.file_calls.proofs.Rows.{chown_by_path}
use Rattle.file_calls.proofs.attributes.chown.Goals as goal

pub returns-in_err-reached : goal.returns-in_err-reached
returns-in_err-reached g c =
    let r = c.from_residual.ensures in
    let x = c.in_err-reached.ensures in
    reach_refused (chown_by_path c.args.path.now c.args.owner c.args.group) c.from_residual.result c.in_err-reached.field-0.0 r.0 r.1 x.same x.refused

pub returns-in_err-check_owner : goal.returns-in_err-check_owner
returns-in_err-check_owner g c =
    let r = c.from_residual-in_err-check_owner.ensures in
    let x = c.in_ok-reached.ensures in
    let mid = g.S.Sectors.state c.reach.new.s in
    asked_refused (chown_by_path c.args.path.now c.args.owner c.args.group) x.same x.reached.walked mid c.from_residual-in_err-check_owner.result c.in_err-check_owner.field-0.0 r.0 r.1
    store_same {A = ℕ} 0
    (λ s has at. owner_refused at has x.reached.inode c.args.owner c.args.group c.unwrap_or-uid.result c.unwrap_or-gid.result c.unwrap_or-uid.ensures c.unwrap_or-gid.ensures
    c.cred-cred.result.now tt 0 c.in_err-check_owner.field-0.0 mid.disk mid.disk c.cred-cred.ensures (sym c.in_err-check_owner.ensures))

pub give_owner-requires : goal.give_owner-requires
give_owner-requires g c =
    let x = c.in_ok-reached.ensures.reached in
    let ready = x.walked.ready in
    record {
      loaded = record { sound = ready.sound; below = reached_below x; inode = x.inode.inode; used = reached_used x };
      spare = let spare = ready.spare in omega (arith, spare);
    }

pub returns-in_err-give_owner : goal.returns-in_err-give_owner
returns-in_err-give_owner g c =
    let r = c.from_residual-in_err-give_owner.ensures in
    let x = c.in_ok-reached.ensures in
    asked_refused (chown_by_path c.args.path.now c.args.owner c.args.group) x.same x.reached.walked (g.S.Sectors.state c.give_owner.new.s)
    c.from_residual-in_err-give_owner.result c.in_err-give_owner.field-0.0 r.0 r.1 c.in_err-give_owner.ensures.store {A = ℕ} 0
    (λ s has at. inr (inr c.in_err-give_owner.ensures.fault))

pub touch-requires : goal.touch-requires
touch-requires g c =
    let x = c.in_ok-reached.ensures in
    let w = x.reached.walked in
    let at = w.ready.is_state in
    let done = c.in_ok-give_owner.ensures in
    may_touch w.ready done.store
    (owner_changed at (w.found w.ready.state at) x.reached.inode c.args.owner c.args.group c.unwrap_or-uid.result c.unwrap_or-gid.result c.unwrap_or-uid.ensures c.unwrap_or-gid.ensures
    c.cred-cred.result.now tt _ c.cred-cred.ensures (sym c.in_ok-check_owner.ensures) done.made)
    (reached_below x.reached, tt) 1 done.taken (omega arith)

pub returns-in_err-touch : goal.returns-in_err-touch
returns-in_err-touch g c =
    let x = c.in_ok-reached.ensures in
    broken_later (chown_by_path c.args.path.now c.args.owner c.args.group) x.same x.reached.walked (g.S.Sectors.state c.touch.new.s) _ _ c.from_residual-in_err-touch.ensures
    c.in_ok-give_owner.ensures.store c.in_err-touch.ensures.store c.in_err-touch.ensures.fault

pub returns : goal.returns
returns g c =
    let x = c.in_ok-reached.ensures in
    let gives = c.in_ok-give_owner.ensures.made in
    changed (chown_by_path c.args.path.now c.args.owner c.args.group) x.same x.reached.walked refl (g.S.Sectors.state c.give_owner.new.s)
    c.in_ok-give_owner.ensures.store gives.one.super c.in_ok-touch.ensures.made Done
    (λ s has at. owner_changed at has x.reached.inode c.args.owner c.args.group c.unwrap_or-uid.result c.unwrap_or-gid.result c.unwrap_or-uid.ensures c.unwrap_or-gid.ensures
    c.cred-cred.result.now tt _ c.cred-cred.ensures (sym c.in_ok-check_owner.ensures) gives)

use Rattle.std.proofs.Common.{refl}
use Rattle.std.proofs.Common.{arith, ℕ, inr}
use Rattle.fs_model.specs.declared.reply.Reply.TheVariants.{Done}
use Rattle.call_parts.proofs.Changed.{may_touch}
use Rattle.call_parts.proofs.Reachings.{owned_refused, asked_refused, broken_later, changed, reached_below, reached_access}
use Rattle.file_calls.proofs.Moded.{accessed_kind, mode_changed}
use Rattle.file_calls.proofs.Rows.{chmod_by_path}
use Rattle.file_calls.proofs.attributes.chmod.Goals as goal

pub returns : goal.returns
returns g c =
    let x = c.in_ok-reached.ensures in
    let o = x.owned in
    let given = c.in_ok-give_mode.ensures.given in
    changed (chmod_by_path c.args.path.now c.args.mode c.check_mode-checks.result c.check_mode-checks.ensures) x.same o.reached.walked refl
    (g.S.Sectors.state c.give_mode.new.s) c.in_ok-give_mode.ensures.store (given _ (reached_access o.reached).acl).one.super c.in_ok-touch.ensures.made Done
    (λ s has at. mode_changed at has o.reached.inode c.cred-cred.result.now c.args.mode _ c.cred-cred.ensures o.met given)

pub returns-in_err-reached : goal.returns-in_err-reached
returns-in_err-reached g c =
    let r = c.from_residual.ensures in
    let x = c.in_err-reached.ensures in
    owned_refused (chmod_by_path c.args.path.now c.args.mode c.check_mode-checks.result c.check_mode-checks.ensures) c.from_residual.result c.in_err-reached.field-0.0 r.0 r.1 x.same x.refused

pub give_mode-requires : goal.give_mode-requires
give_mode-requires g c =
    let x = c.in_ok-reached.ensures.owned.reached in
    let ready = x.walked.ready in
    let access = reached_access x in
    let kind = accessed_kind _ c.in_ok-reached.reached.inode.kind access.kind in
    record {
      loaded = record { sound = ready.sound; below = reached_below x; inode = x.inode.inode; used = kind.0 };
      has = (_, access.acl);
      no_link = kind.1;
      spare = let spare = ready.spare in omega (arith, spare);
    }

pub returns-in_err-give_mode : goal.returns-in_err-give_mode
returns-in_err-give_mode g c =
    let r = c.from_residual-in_err-give_mode.ensures in
    let x = c.in_ok-reached.ensures in
    asked_refused (chmod_by_path c.args.path.now c.args.mode c.check_mode-checks.result c.check_mode-checks.ensures) x.same x.owned.reached.walked
    (g.S.Sectors.state c.give_mode.new.s) c.from_residual-in_err-give_mode.result c.in_err-give_mode.field-0.0 r.0 r.1
    c.in_err-give_mode.ensures.store {A = ℕ} 0 (λ s has at. inr c.in_err-give_mode.ensures.interrupts)

pub touch-requires : goal.touch-requires
touch-requires g c =
    let o = c.in_ok-reached.ensures.owned in
    let w = o.reached.walked in
    let at = w.ready.is_state in
    let done = c.in_ok-give_mode.ensures in
    may_touch w.ready done.store
    (mode_changed at (w.found w.ready.state at) o.reached.inode c.cred-cred.result.now c.args.mode _ c.cred-cred.ensures o.met done.given)
    (reached_below o.reached, tt) 2 done.taken (omega arith)

pub returns-in_err-touch : goal.returns-in_err-touch
returns-in_err-touch g c =
    let x = c.in_ok-reached.ensures in
    broken_later (chmod_by_path c.args.path.now c.args.mode c.check_mode-checks.result c.check_mode-checks.ensures) x.same x.owned.reached.walked
    (g.S.Sectors.state c.touch.new.s) _ _ c.from_residual-in_err-touch.ensures
    c.in_ok-give_mode.ensures.store c.in_err-touch.ensures.store c.in_err-touch.ensures.fault

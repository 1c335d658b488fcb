use Rattle.std.proofs.Common.{refl}
use Rattle.std.specs.Prelude.{◌≡◌, None}
use Rattle.std.specs.Option.{option_copied}
use Rattle.std.proofs.Common.{arith, ℕ, ◌∙◌, sym, inr}
use Rattle.fs_layout.specs.Bytes.{SectorMap}
use Rattle.fs_layout.specs.Images.{inode_at, free_sectors}
use Rattle.fs_model.specs.declared.reply.Reply.TheVariants.{Done}
use Rattle.fs_model.specs.AttributeCalls.{set_acl_arguments}
use Rattle.fs_model.specs.Demands.{first_of}
use Rattle.bit_alloc.proofs.Transactions.{spare_unchanged}
use Rattle.sector_txn.proofs.TransactionRuns.{store_same, store_joined}
use Rattle.path_walk.proofs.Kept.{kept, sound_kept, interrupts_later}
use Rattle.call_parts.specs.Asked.{holder_asked, acl_space_asked}
use Rattle.call_parts.proofs.Calling.{met_ok}
use Rattle.call_parts.proofs.Changed.{may_touch}
use Rattle.call_parts.proofs.Reachings.{owned_refused, asked_refused, broken_later, changed, reached_below, reached_access}
use Rattle.call_parts.proofs.Removed.{taken_after}
use Rattle.file_calls.proofs.GivenAcls.{given_super, holder_refused, space_refused, acl_given}
use Rattle.file_calls.proofs.Moded.{accessed_kind}
use Rattle.file_calls.proofs.Rows.{set_acl_by_path}
use Rattle.file_calls.proofs.attributes.set_acl.Goals as goal

pub returns-in_err-reached : goal.returns-in_err-reached
returns-in_err-reached g c =
    let r = c.from_residual.ensures in
    let x = c.in_err-reached.ensures in
    owned_refused (set_acl_by_path c.args.path.now c.args.which (option_copied c.args.acl) c.check_acl-checks.result c.check_acl-checks.ensures) c.from_residual.result c.in_err-reached.field-0.0 r.0 r.1 x.same x.refused

pub returns-in_err-check_holder : goal.returns-in_err-check_holder
returns-in_err-check_holder g c =
    let by = set_acl_by_path c.args.path.now c.args.which (option_copied c.args.acl) c.check_acl-checks.result c.check_acl-checks.ensures in
    let x = c.in_ok-reached.ensures in
    let o = x.owned in
    let r = c.from_residual-in_err-check_holder.ensures in
    let mid = g.S.Sectors.state c.reach_owned.new.s in
    let e = c.in_err-check_holder.field-0.0 in
    asked_refused by x.same o.reached.walked mid c.from_residual-in_err-check_holder.result e r.0 r.1 store_same {A = ℕ} 0
    (λ s has at. holder_refused at has o.reached.inode o.met c.args.which (option_copied c.args.acl) tt 0 e mid.disk mid.disk (sym c.in_err-check_holder.ensures))

pub ask_for_space-requires : goal.ask_for_space-requires
ask_for_space-requires g c = c.in_ok-reached.ensures.owned.reached.walked.ready.sound.bitmaps

pub returns-in_err-ask_for_space : goal.returns-in_err-ask_for_space
returns-in_err-ask_for_space g c =
    let by = set_acl_by_path c.args.path.now c.args.which (option_copied c.args.acl) c.check_acl-checks.result c.check_acl-checks.ensures in
    let x = c.in_ok-reached.ensures in
    let o = x.owned in
    let holder = (met_ok (holder_asked c.args.which c.in_ok-reached.reached.inode.kind) tt tt (sym c.in_ok-check_holder.ensures)).0 in
    let r = c.from_residual-in_err-ask_for_space.ensures in
    let mid = g.S.Sectors.state c.reach_owned.new.s in
    let new = g.S.Sectors.state c.ask_for_space.new.s in
    let e = c.in_err-ask_for_space.field-0.0 in
    asked_refused by x.same o.reached.walked new c.from_residual-in_err-ask_for_space.result e r.0 r.1 c.in_err-ask_for_space.ensures.same.store {A = Unit {0}} tt
    (λ s has at. space_refused at has o.reached.inode o.met c.args.which (option_copied c.args.acl) holder tt e mid.disk new.disk c.in_err-ask_for_space.ensures.each)

pub replace_acl-requires : goal.replace_acl-requires
replace_acl-requires g c =
    let x = c.in_ok-reached.ensures.owned.reached in
    let same = c.in_ok-ask_for_space.ensures.same in
    let mid = g.S.Sectors.state c.reach_owned.new.s in
    let kind = accessed_kind _ c.in_ok-reached.reached.inode.kind (reached_access x).kind in
    let acl = option_copied c.args.acl in
    let enough = (met_ok (first_of (acl_space_asked c.args.which acl (free_sectors c.args.caller.now.geometry mid.sectors))) tt tt c.in_ok-ask_for_space.ensures.each).0 in
    let spare = spare_unchanged c.args.caller.now.geometry 47 mid (g.S.Sectors.state c.ask_for_space.new.s) x.walked.ready.spare same in
    record {
      loaded = record {
        sound = sound_kept same x.walked.ready.sound;
        below = reached_below x;
        inode = kept (λ (m : SectorMap). c.in_ok-reached.reached.inode ≡ inode_at c.args.caller.now.geometry m c.in_ok-reached.reached.ino) same x.inode.inode;
        used = kind.0;
      };
      no_link = kind.1;
      spare = omega (arith, spare);
      space = kept (λ (m : SectorMap). first_of (acl_space_asked c.args.which acl (free_sectors c.args.caller.now.geometry m)) ≡ None) same enough;
    }

pub returns-in_err-replace_acl : goal.returns-in_err-replace_acl
returns-in_err-replace_acl g c =
    let by = set_acl_by_path c.args.path.now c.args.which (option_copied c.args.acl) c.check_acl-checks.result c.check_acl-checks.ensures in
    let x = c.in_ok-reached.ensures in
    let same = c.in_ok-ask_for_space.ensures.same in
    let r = c.from_residual-in_err-replace_acl.ensures in
    let new = g.S.Sectors.state c.replace_acl.new.s in
    let failed = c.in_err-replace_acl.ensures in
    asked_refused by x.same x.owned.reached.walked new c.from_residual-in_err-replace_acl.result c.in_err-replace_acl.field-0.0 r.0 r.1
    (store_joined same.store failed.store) {A = ℕ} 0 (λ s has at. inr (interrupts_later new.disk same (inr failed.fault)))

pub touch-requires : goal.touch-requires
touch-requires g c =
    let o = c.in_ok-reached.ensures.owned in
    let w = o.reached.walked in
    let same = c.in_ok-ask_for_space.ensures.same in
    let done = c.in_ok-replace_acl.ensures in
    may_touch w.ready (store_joined same.store done.store)
    (acl_given w.ready.is_state (w.found w.ready.state w.ready.is_state) o.reached.inode o.met c.args.which (option_copied c.args.acl) (sym c.check_acl-checks.ensures ∙ w.fine)
    (sym c.in_ok-check_holder.ensures) same c.in_ok-ask_for_space.ensures.each done.made)
    (reached_below o.reached, tt) 2 (taken_after c.args.caller.now.geometry 2 (g.S.Sectors.state c.replace_acl.new.s) same done.taken) (omega arith)

pub returns-in_err-touch : goal.returns-in_err-touch
returns-in_err-touch g c =
    let by = set_acl_by_path c.args.path.now c.args.which (option_copied c.args.acl) c.check_acl-checks.result c.check_acl-checks.ensures in
    let x = c.in_ok-reached.ensures in
    broken_later by x.same x.owned.reached.walked (g.S.Sectors.state c.touch.new.s) _ _ c.from_residual-in_err-touch.ensures
    (store_joined c.in_ok-ask_for_space.ensures.same.store c.in_ok-replace_acl.ensures.store) c.in_err-touch.ensures.store c.in_err-touch.ensures.fault

pub returns : goal.returns
returns g c =
    let by = set_acl_by_path c.args.path.now c.args.which (option_copied c.args.acl) c.check_acl-checks.result c.check_acl-checks.ensures in
    let x = c.in_ok-reached.ensures in
    let o = x.owned in
    let same = c.in_ok-ask_for_space.ensures.same in
    let done = c.in_ok-replace_acl.ensures in
    let given = sym c.check_acl-checks.ensures ∙ o.reached.walked.fine in
    changed by x.same o.reached.walked refl (g.S.Sectors.state c.replace_acl.new.s) (store_joined same.store done.store)
    (given_super c.args.caller.now.geometry c.in_ok-reached.reached.ino c.args.which (option_copied c.args.acl) (met_ok (first_of (set_acl_arguments c.args.which (option_copied c.args.acl))) tt tt given).0
    done.made.access done.made.default ∙ same.sectors 0) c.in_ok-touch.ensures.made Done
    (λ s has at. acl_given at has o.reached.inode o.met c.args.which (option_copied c.args.acl) given (sym c.in_ok-check_holder.ensures) same c.in_ok-ask_for_space.ensures.each done.made)

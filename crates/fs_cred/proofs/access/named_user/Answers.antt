use Rattle.std.proofs.Common.{refl, sym, ap, ◌∙◌}
use Rattle.std.proofs.lemmas.List.{at_drop_all}
use Rattle.fs_cred.proofs.Scanned.{user_in, user_found, user_here, user_passed, other_id}
use Rattle.fs_cred.proofs.access.named_user.Goals.{else-is-via-then-is+else-entry-user, else-is-via-else-is}
use Rattle.fs_cred.proofs.access.named_user.Goals as goal

pub loop-entry-init : goal.loop-entry-init
loop-entry-init c = ap (user_in c.args.user) c.entries-entry-items.ensures.all ∙ user_found c.args.user c.args.acl.now

pub returns-then-entry-user-clause-found : goal.returns-then-entry-user-clause-found
returns-then-entry-user-clause-found c =
    user_here c.args.user c.entries-entry-items.result.now c.loop-entry.entry-index _ _ c.loop-entry-test.true
    c.loop-entry.invariant (sym c.is.ensures ∙ c.if-is.true) c.if-entry-user.true

pub loop-entry-preserved : goal.loop-entry-preserved
loop-entry-preserved c =
    let passed =
    user_passed c.args.user c.entries-entry-items.result.now c.loop-entry.entry-index _ _
    c.loop-entry-test.true c.loop-entry.invariant in
    elim c.else-is.branch [
      | else-is-via-then-is+else-entry-user w ↦
          passed _ _ (sym c.is.ensures ∙ w.if-is.true) (other_id _ _ w.if-entry-user.false) refl
      | else-is-via-else-is w ↦ passed _ _ (sym c.is.ensures ∙ w.if-is.false) refl refl
    ]

pub returns-clause-found : goal.returns-clause-found
returns-clause-found c =
    sym (at_drop_all (user_in c.args.user) c.entries-entry-items.result.now c.loop-entry.entry-index
    c.loop-entry-test.false)
    ∙ c.loop-entry.invariant

use Rattle.std.proofs.Common.{[], ◌∷◌, ◌++◌, refl, ap, ◌∙◌}
use Rattle.std.proofs.lemmas.List.{take_all}
use lib.Utf8.{encode}
use Rattle.std.proofs.lemmas.Result.{IfOk-from_err}
use Rattle.posix_acl.specs.Text.{entry_text, long_text}
use Rattle.posix_acl.proofs.Copied.{one_more_text}
use Rattle.posix_acl.proofs.text.write_long.Goals as goal

pub loop-entry-init : goal.loop-entry-init
loop-entry-init c = c.new-text.ensures.bytes

pub returns-in_err-push_entry : goal.returns-in_err-push_entry
returns-in_err-push_entry c = IfOk-from_err c.from_residual.result _ c.from_residual.ensures.0

pub returns-in_err-push : goal.returns-in_err-push
returns-in_err-push c =
    IfOk-from_err c.from_residual-in_err-push.result _ c.from_residual-in_err-push.ensures.0

pub loop-entry-preserved : goal.loop-entry-preserved
unfolding encode
loop-entry-preserved c =
    one_more_text (λ e. entry_text e ++ 10 ∷ []) c.args.entries.now c.loop-entry.entry-index [] _ _ _ _ _
    c.loop-entry-test.true refl
    c.loop-entry.invariant c.in_ok-push_entry.ensures c.in_ok-push.ensures.bytes

pub returns : goal.returns
returns c =
    c.loop-entry.invariant
    ∙ ap long_text (take_all c.loop-entry.entry-index c.args.entries.now c.loop-entry-test.false)

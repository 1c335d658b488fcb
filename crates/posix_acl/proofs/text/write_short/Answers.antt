use Rattle.std.proofs.Common.{◌∷◌, string_bytes, refl, sym, ap, ◌∙◌, append-nil}
use lib.Utf8.{encode}
use Rattle.std.proofs.lemmas.Result.{IfOk-from_err}
use Rattle.posix_acl.specs.Text.{entry_text}
use Rattle.posix_acl.proofs.Copied.{one_more_text, short_end, short_none}
use Rattle.posix_acl.proofs.text.write_short.Goals.{in-Some+in_ok-push_entry+else-loop-entry-test, in_default}
use Rattle.posix_acl.proofs.text.write_short.Goals as goal

pub returns-in_err-push_entry : goal.returns-in_err-push_entry
returns-in_err-push_entry c = IfOk-from_err c.from_residual.result _ c.from_residual.ensures.0

pub loop-entry-init : goal.loop-entry-init
loop-entry-init c = sym (append-nil (string_bytes c.push_entry.new.text))

pub returns-in_err-push : goal.returns-in_err-push
returns-in_err-push c =
    IfOk-from_err c.from_residual-in_err-push.result _ c.from_residual-in_err-push.ensures.0

pub returns-in_err-push_entry-2 : goal.returns-in_err-push_entry-2
returns-in_err-push_entry-2 c =
    IfOk-from_err c.from_residual-in_err-push_entry-2.result _ c.from_residual-in_err-push_entry-2.ensures.0

pub loop-entry-preserved : goal.loop-entry-preserved
unfolding encode
loop-entry-preserved c =
    one_more_text (λ e. 44 ∷ entry_text e) c.in-Some.others.now c.loop-entry.entry-index _ _ _ _ _ _
    c.loop-entry-test.true refl
    c.loop-entry.invariant c.in_ok-push.ensures.bytes c.in_ok-push_entry-2.ensures

pub returns : goal.returns
returns c =
    elim c.match-split_first.branch [
      | in-Some+in_ok-push_entry+else-loop-entry-test w ↦
          ap string_bytes w.text-is
          ∙ short_end c.args.entries.now w.in-Some.others.now w.in-Some.first.now
          w.loop-entry.entry-index _ _ _ w.in-Some.ensures.cases.0 w.loop-entry-test.false
          c.new-text.ensures.bytes w.in_ok-push_entry.ensures w.loop-entry.invariant
      | in_default w ↦
          ap string_bytes w.text-is ∙ c.new-text.ensures.bytes
          ∙ short_none c.args.entries.now w.in_default.ensures.cases
    ]

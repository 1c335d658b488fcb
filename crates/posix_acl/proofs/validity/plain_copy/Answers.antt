use Rattle.std.proofs.Common.{◌<◌, ◌^◌, ap, ◌∙◌, arith}
use Rattle.std.proofs.lemmas.List.{take_all}
use Rattle.std.proofs.lemmas.List.Elements.{All-nil, All-push}
use Rattle.std.proofs.lemmas.Result.{IfOk-from_err}
use Rattle.posix_acl.specs.declared.entry.Entry.{Entry}
use Rattle.posix_acl.specs.Entries.{plain_entries}
use Rattle.posix_acl.proofs.Copied.{one_more_plain}
use Rattle.posix_acl.proofs.validity.plain_copy.Goals as goal

pub returns-in_err-copy-clause-plain : goal.returns-in_err-copy-clause-plain
returns-in_err-copy-clause-plain c = IfOk-from_err c.from_residual.result _ c.from_residual.ensures.0

pub returns-in_err-copy-clause-fit : goal.returns-in_err-copy-clause-fit
returns-in_err-copy-clause-fit c = IfOk-from_err c.from_residual.result _ c.from_residual.ensures.0

pub loop-entry-init : goal.loop-entry-init
loop-entry-init c =
    record { plain = c.in_ok-copy.ensures.items; fit = rw c.in_ok-copy.ensures.items (All-nil _) }

pub returns-in_err-push-clause-plain : goal.returns-in_err-push-clause-plain
returns-in_err-push-clause-plain c =
    IfOk-from_err c.from_residual-in_err-push.result _ c.from_residual-in_err-push.ensures.0

pub returns-in_err-push-clause-fit : goal.returns-in_err-push-clause-fit
returns-in_err-push-clause-fit c =
    IfOk-from_err c.from_residual-in_err-push.result _ c.from_residual-in_err-push.ensures.0

pub loop-entry-preserved : goal.loop-entry-preserved
loop-entry-preserved c =
    let pushed = c.in_ok-push.ensures.items in
    let so_far = c.loop-entry.invariant in
    let fits : c.plain.result.id < 2 ^ 32 = omega arith in
    record {
      plain =
          one_more_plain c.args.entries.now _ _ c.loop-entry.entry-index _ c.loop-entry-test.true so_far.plain
          c.plain.ensures pushed;
      fit =
          rw pushed
          (All-push (λ (e : Entry). e.id < 2 ^ 32) c.loop-entry.copy.items c.plain.result so_far.fit fits);
    }

pub returns-clause-plain : goal.returns-clause-plain
returns-clause-plain c =
    c.loop-entry.invariant.plain
    ∙ ap plain_entries (take_all c.loop-entry.entry-index c.args.entries.now c.loop-entry-test.false)

pub returns-clause-fit : goal.returns-clause-fit
returns-clause-fit c = c.loop-entry.invariant.fit

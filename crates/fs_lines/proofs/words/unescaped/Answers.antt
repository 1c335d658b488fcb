use Rattle.std.proofs.Common.{Err, length, length-drop, sym, ap, ◌∙◌, arith}
use Rattle.std.proofs.lemmas.Result.{err_from_is_err_and}
use Rattle.fs_lines.specs.Lines.{unescaped}
use Rattle.fs_lines.proofs.Escapes.{with_front, none_more, reads_escape, escape_fails, begins_escape, reads_rest}
use Rattle.fs_lines.proofs.Faults.{out_of_memory}
use Rattle.fs_lines.proofs.words.unescaped.Goals as goal

pub returns-in_err-bytes : goal.returns-in_err-bytes
returns-in_err-bytes c = out_of_memory _ _ _ c.from_residual.ensures.1

pub returns-in_err-extend_from_slice : goal.returns-in_err-extend_from_slice
returns-in_err-extend_from_slice c = out_of_memory _ _ _ c.from_residual-in_err-extend_from_slice.ensures.1

pub returns-in_err-push : goal.returns-in_err-push
returns-in_err-push c = out_of_memory _ _ _ c.from_residual-in_err-push.ensures.1

pub returns-in_err-extend_from_slice-2 : goal.returns-in_err-extend_from_slice-2
returns-in_err-extend_from_slice-2 c = out_of_memory _ _ _ c.from_residual-in_err-extend_from_slice-2.ensures.1

pub returns-in_err-byte : goal.returns-in_err-byte
returns-in_err-byte c =
    let p = err_from_is_err_and c.from_residual-in_err-byte.result c.from_residual-in_err-byte.ensures.1 in
    let bad = c.in_err-byte.ensures.err in
    rw p.1 (λ other. escape_fails _ _ _ _ c.in-Some.at _ c.loop-at.invariant c.in-Some.ensures c.split_at.ensures.front c.split_at.ensures.back bad.1 ∙ ap Err (sym (p.2 ∙ bad.0)))

pub split_at-requires : goal.split_at-requires
split_at-requires c = omega (arith, c.in-Some.ensures.0.high)

pub first_escape-requires : goal.first_escape-requires
first_escape-requires c = rw c.split_at.ensures.back (begins_escape c.loop-at.rest.now c.in-Some.at c.in-Some.ensures.1)

pub loop-at-init : goal.loop-at-init
loop-at-init c = ap (λ bytes. with_front bytes (unescaped c.args.text.now)) c.in_ok-bytes.ensures.items ∙ none_more (unescaped c.args.text.now)

pub loop-at-smaller : goal.loop-at-smaller
loop-at-smaller c = omega (arith, c.in_ok-byte.ensures.ok.0, ap length c.split_at.ensures.back, length-drop c.in-Some.at c.loop-at.rest.now)

pub loop-at-preserved : goal.loop-at-preserved
loop-at-preserved c =
    reads_escape _ _ _ _ c.in_ok-byte.after.now _ _ c.in-Some.at c.in_ok-byte.byte _ c.loop-at.invariant c.in-Some.ensures c.split_at.ensures.front c.split_at.ensures.back c.in_ok-byte.ensures.ok.1
    c.in_ok-extend_from_slice.ensures.items c.in_ok-push.ensures.items

pub returns : goal.returns
returns c = reads_rest _ _ _ _ c.loop-at.invariant c.in_default.ensures c.in_ok-extend_from_slice-2.ensures.items

use Rattle.std.proofs.Common.{Err, length, sym, ap, ◌∙◌, rules, tests}
use Rattle.std.specs.List.{slice_split}
use Rattle.std.proofs.lemmas.Iterator.Consumers.{YieldsList-end}
use Rattle.std.proofs.lemmas.Iterator.Splits.{YieldsList-from_slice_split}
use Rattle.std.proofs.lemmas.Result.{err_from_is_err_and}
use Rattle.fs_lines.specs.Lines.{each}
use Rattle.posix_acl.specs.Text.{is_comma}
use Rattle.fs_lines.specs.Words.{id_of}
use Rattle.fs_lines.proofs.Each.{each_push_plain, fault_at, yields_next}
use Rattle.fs_lines.proofs.forms.read_ids.Goals as goal

pub loop-id-preserved : goal.loop-id-preserved
loop-id-preserved c =
    each_push_plain id_of (λ x. x.now) _ _ _ _ _ c.in_ok-push.ensures.items c.loop-id.invariant (sym c.in_ok-read_id.ensures)

pub returns-in_err-read_id : goal.returns-in_err-read_id
returns-in_err-read_id c =
    let next = yields_next (YieldsList-from_slice_split _ is_comma c.args.word.now (cc) (cc) (cc) (λ x r q k. search (rules, tests)))
    c.loop-id.yielded _ c.loop-id.yielded_by _ _ c.in-Some.id c.in-Some.is c.next.ensures.steps in
    let p = err_from_is_err_and c.from_residual.result c.from_residual.ensures.1 in
    rw p.1 (λ other.
    fault_at id_of (slice_split is_comma c.args.word.now) (length c.loop-id.yielded) c.in-Some.id.now _ p.0
    (ap (each id_of) (sym next.0) ∙ c.loop-id.invariant) next.1
    (ap id_of (sym next.2) ∙ sym c.in_err-read_id.ensures ∙ ap Err (sym p.2)))

pub returns : goal.returns
returns c =
    let end = YieldsList-end (YieldsList-from_slice_split _ is_comma c.args.word.now (cc) (cc) (cc) (λ x r q k. search (rules, tests)))
    c.loop-id.yielded _ c.loop-id.yielded_by _ _ c.in-None.is c.next.ensures.steps in
    ap (each id_of) (sym end.0) ∙ c.loop-id.invariant

use Rattle.std.proofs.Common.{sym, ◌∙◌, subst, length, rules, tests}
use Rattle.std.specs.List.{slice_split, flat_map}
use Rattle.std.proofs.lemmas.Iterator.Consumers.{YieldsList-turn, YieldsList-end}
use Rattle.std.proofs.lemmas.Iterator.Splits.{YieldsList-from_slice_split}
use Rattle.std.proofs.lemmas.Result.{err_from_is_err_and}
use Rattle.posix_acl.specs.Text.{is_newline, line_pieces, AreEntryTexts, IsNoText}
use Rattle.posix_acl.proofs.Pieces.{bad_line, one_line}
use Rattle.posix_acl.proofs.reading.read_text.Goals as goal

pub loop-line-preserved : goal.loop-line-preserved
loop-line-preserved c =
    one_line c.loop-line.entries.items c.read_line.new.entries.items c.loop-line.yielded c.in-Some.line c.in_ok-read_line.ensures.found c.loop-line.invariant

pub returns-in_err-read_line-clause-bad : goal.returns-in_err-read_line-clause-bad
returns-in_err-read_line-clause-bad c =
    let turn = YieldsList-turn (YieldsList-from_slice_split _ is_newline c.args.text.now (cc) (cc) (cc) (λ x r q k. search (rules, tests)))
    c.loop-line.yielded _ c.loop-line.yielded_by _ _ c.in-Some.line c.in-Some.is c.next.ensures.steps in
    let p = err_from_is_err_and c.from_residual.result c.from_residual.ensures.1 in
    rw p.1 (λ bad.
    bad_line (slice_split is_newline c.args.text.now) (length c.loop-line.yielded) c.in-Some.line.now turn.0
    (subst (λ l. IsNoText (line_pieces l)) turn.1 (c.in_err-read_line.ensures.bad (sym p.2 ∙ bad))))

pub returns-clause-found : goal.returns-clause-found
returns-clause-found c =
    let end = YieldsList-end (YieldsList-from_slice_split _ is_newline c.args.text.now (cc) (cc) (cc) (λ x r q k. search (rules, tests)))
    c.loop-line.yielded _ c.loop-line.yielded_by _ _ c.in-None.is c.next.ensures.steps in
    subst (λ ls. AreEntryTexts (flat_map line_pieces ls) c.loop-line.entries.items) end.0 c.loop-line.invariant

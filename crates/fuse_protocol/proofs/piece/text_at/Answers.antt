use Rattle.std.proofs.Common.{sym, ◌∙◌, arith, None, Some, ap, take, List, ℕ}
use Rattle.std.specs.List.{position}
use Rattle.fuse_protocol.proofs.Texts.{found_first, no_text_past, text_by_place}
use Rattle.fuse_protocol.specs.Names.{is_nul}
use Rattle.fuse_protocol.proofs.piece.text_at.Goals as goal

pub returns-then-from-at-clause-text : goal.returns-then-from-at-clause-text
returns-then-from-at-clause-text c = no_text_past c.args.from.now c.args.at (omega arith)

pub returns-in_err-end-clause-text : goal.returns-in_err-end-clause-text
returns-in_err-end-clause-text c =
    rw c.from_residual.ensures
    (text_by_place c.args.from.now c.args.at None (sym c.in_err-end.was ∙ c.first_nul.ensures ∙ ap (position is_nul) c.split_at.ensures.back))

pub returns-clause-text : goal.returns-clause-text
returns-clause-text c =
    ap (λ (rest : List ℕ). Some (take c.in_ok-end.end rest)) c.split_at.ensures.back
    ∙ text_by_place c.args.from.now c.args.at (Some c.in_ok-end.end)
    (sym c.in_ok-end.was ∙ c.first_nul.ensures ∙ ap (position is_nul) c.split_at.ensures.back)

pub returns-clause-no_nul : goal.returns-clause-no_nul
returns-clause-no_nul c = (found_first is_nul c.in_ok-end.end c.split_at.result.1.now (sym c.first_nul.ensures ∙ c.in_ok-end.was)).before

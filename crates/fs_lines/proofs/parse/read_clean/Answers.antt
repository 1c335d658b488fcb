use Rattle.std.proofs.Common.{Err, ap, ◌∙◌}
use Rattle.std.proofs.lemmas.Result.{err_from_is_err_and}
use Rattle.fs_lines.proofs.parse.read_clean.Goals as goal

pub returns-in_err-words-clause-said : goal.returns-in_err-words-clause-said
returns-in_err-words-clause-said c =
    let p = err_from_is_err_and c.from_residual.result c.from_residual.ensures.1 in
    rw p.1 (λ other. rw (c.in_err-words.ensures (λ e. other (p.2 ∙ e))) (ap Err p.2))

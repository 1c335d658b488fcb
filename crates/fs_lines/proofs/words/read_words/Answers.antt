use Rattle.std.proofs.Common.{Err, sym, ap, ◌∙◌}
use Rattle.std.proofs.lemmas.Result.{err_from_is_err_and}
use Rattle.fs_lines.proofs.Cutting.{reads_word, word_fails, all_read}
use Rattle.fs_lines.proofs.words.read_words.Goals as goal

pub loop-word-preserved : goal.loop-word-preserved
loop-word-preserved c = reads_word _ _ _ c.in-Some.word.now c.loop-word.rest.now c.in-Some.after.now _ c.loop-word.invariant c.in-Some.ensures.1 c.in_ok-read.ensures c.in_ok-push.ensures.items

pub returns-in_err-read : goal.returns-in_err-read
returns-in_err-read c =
    let p = err_from_is_err_and c.from_residual-in_err-read.result c.from_residual-in_err-read.ensures.1 in
    rw p.1 (λ other. word_fails c.loop-word.words.items c.in-Some.word.now c.loop-word.rest.now c.in-Some.after.now _ _ c.loop-word.invariant c.in-Some.ensures.1 (c.in_err-read.ensures (λ e. other (p.2 ∙ e)) ∙ ap Err (sym p.2)))

pub returns : goal.returns
returns c = all_read c.loop-word.words.items c.loop-word.rest.now _ c.loop-word.invariant c.in_default.ensures

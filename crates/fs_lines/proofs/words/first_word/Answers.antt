use Rattle.std.proofs.Common.{◌<◌, length, sym, arith}
use Rattle.std.proofs.lemmas.Bool.{eqb-true}
use Rattle.fs_lines.proofs.Cutting.{no_word, first_word_is}
use Rattle.fs_lines.proofs.words.first_word.Goals as goal

pub returns-then-is_empty : goal.returns-then-is_empty
returns-then-is_empty c = no_word _ c.split_at.result.1.now c.spaces_before.result c.spaces_before.ensures.count c.split_at.ensures.back (eqb-true _ _ (sym c.if-is_empty.ensures))

pub returns : goal.returns
returns c =
    let some : 0 < length c.split_at.result.1.now = grind (arith, c.if-is_empty.ensures) in
    first_word_is _ _ _ _ c.spaces_before.result c.len_before.result c.spaces_before.ensures.count c.split_at.ensures.back some c.len_before.ensures.count
    c.split_at-2.ensures.front c.split_at-2.ensures.back

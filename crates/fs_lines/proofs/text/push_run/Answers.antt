use Rattle.std.proofs.Common.{sym, ◌∙◌}
use Rattle.fs_lines.proofs.Spelling.{text_as_it_stands, text_is_utf8}
use Rattle.fs_lines.proofs.text.push_run.Goals as goal

pub utf8_text-requires : goal.utf8_text-requires
utf8_text-requires c =
    text_is_utf8 c.args.run.now c.args.run.now (λ i. (c.type_inv.run i).fits)
    (sym (text_as_it_stands c.args.run.now (sym c.stand_for_themselves.ensures ∙ c.if-stand_for_themselves.true)))

pub utf8_text-requires-2 : goal.utf8_text-requires-2
utf8_text-requires-2 c = text_is_utf8 c.args.run.now _ (λ i. (c.type_inv.run i).fits) c.spell-len.ensures.text

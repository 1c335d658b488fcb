use Rattle.std.proofs.Common.{rules, ap, ◌∙◌}
use Rattle.fs_info.specs.InfoTexts.{truth_text}
use Rattle.fs_info.proofs.printing.print_state_members.Goals as goal

pub returns : goal.returns
returns g c = rw (← (c.true_or_false.ensures ∙ ap truth_text c.keeps_times.ensures), ← c.true_or_false-2.ensures) (search rules)

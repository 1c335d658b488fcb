use Rattle.std.proofs.Common.{◌∙◌, ap}
use Rattle.std.proofs.lemmas.Result.{IfOk-weaker}
use Rattle.fs_command.specs.Words.{with_size}
use Rattle.fs_command.proofs.words.format_command.Goals as goal

pub returns : goal.returns
returns c = IfOk-weaker c.with_size.result _ _ (λ command is. is ∙ ap with_size c.in_ok-command.ensures) c.with_size.ensures

use Rattle.std.proofs.Common.{◌∙◌, ap, ap₂}
use Rattle.std.proofs.lemmas.Result.{IfOk-weaker}
use Rattle.clap.specs.Words.{rule_of, with_rule}
use Rattle.clap.specs.declared.builder.arg.Arg.{Arg}
use Rattle.fs_command.proofs.words.run_command.Goals as goal

pub returns : goal.returns
returns c =
    IfOk-weaker c.arg.result _ _ (λ command adds. adds.shape (ap (λ (a : Arg). a.global) c.help.ensures ∙ c.new.ensures.optional.1)
    ∙ ap₂ with_rule c.in_ok-on_image.ensures (ap rule_of c.help.ensures ∙ c.new.ensures.rule)) c.arg.ensures

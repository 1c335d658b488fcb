use Rattle.std.proofs.Common.{◌≡◌, ◌∙◌, ap, ap₂, codes}
use Rattle.std.proofs.lemmas.Result.{IfOk-weaker}
use Rattle.clap.specs.Words.{app_of, rule_of, with_rule}
use Rattle.clap.specs.declared.builder.arg.Arg.{Arg}
use Rattle.fs_command.specs.Words.{must_be_given, text_option}
use Rattle.fs_command.proofs.words.with_size.Goals as goal

pub returns : goal.returns
returns c =
    let one : app_of c.in_ok-arg.field-0 ≡ with_rule (app_of c.args.command) (must_be_given (text_option (codes "size"))) =
    c.in_ok-arg.ensures.shape (ap (λ (a : Arg). a.global) c.help.ensures ∙ ap (λ (a : Arg). a.global) c.required.ensures ∙ c.text_option.ensures.local)
    ∙ ap (with_rule (app_of c.args.command)) (ap rule_of c.help.ensures ∙ ap rule_of c.required.ensures ∙ ap must_be_given c.text_option.ensures.rule) in
    IfOk-weaker c.arg-2.result _ _ (λ command adds. adds.shape (ap (λ (a : Arg). a.global) c.help-2.ensures ∙ c.number.ensures.local)
    ∙ ap₂ with_rule one (ap rule_of c.help-2.ensures ∙ c.number.ensures.rule)) c.arg-2.ensures

use Rattle.std.proofs.Common.{◌≡◌, ◌∙◌, ap, ap₂, codes}
use Rattle.std.proofs.lemmas.Result.{IfOk-weaker}
use Rattle.clap.specs.Words.{app_of, new_app, rule_of, with_rule}
use Rattle.clap.specs.declared.builder.arg.Arg.{Arg}
use Rattle.fs_command.specs.Words.{image, must_be_given, number_option}
use Rattle.fs_command.proofs.words.mkfs_command.Goals as goal

pub returns : goal.returns
returns c =
    let two : app_of c.in_ok-arg.field-0 ≡ with_rule (with_rule (new_app (codes "mkfs")) image) (must_be_given (number_option (codes "sectors") 1024 65536)) =
    c.in_ok-arg.ensures.shape (ap (λ (a : Arg). a.global) c.help.ensures ∙ ap (λ (a : Arg). a.global) c.required.ensures ∙ c.number.ensures.local)
    ∙ ap₂ with_rule c.in_ok-on_image.ensures (ap rule_of c.help.ensures ∙ ap rule_of c.required.ensures ∙ ap must_be_given c.number.ensures.rule) in
    IfOk-weaker c.arg-2.result _ _ (λ command adds.
    adds.shape (ap (λ (a : Arg). a.global) c.help-2.ensures ∙ ap (λ (a : Arg). a.global) c.required-2.ensures ∙ c.number-2.ensures.local)
    ∙ ap₂ with_rule two (ap rule_of c.help-2.ensures ∙ ap rule_of c.required-2.ensures ∙ ap must_be_given c.number-2.ensures.rule)) c.arg-2.ensures

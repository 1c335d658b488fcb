use Rattle.std.proofs.Common.{◌≡◌, ◌∙◌, ap, ap₂, codes}
use Rattle.std.proofs.lemmas.Result.{IfOk-weaker}
use Rattle.clap.specs.Words.{App, app_of, new_app, rule_of, with_rule}
use Rattle.clap.specs.declared.builder.arg.Arg.{Arg}
use Rattle.fs_command.specs.Words.{image, must_be_given, required_rule, text_option}
use Rattle.fs_command.proofs.words.access_command.Goals as goal

-- the command with its words that have to be given, one more each
abbrev at_path : App
at_path = with_rule (with_rule (new_app (codes "access")) image) (required_rule (codes "PATH"))

abbrev for_perms : App
for_perms = with_rule at_path (required_rule (codes "PERM"))

abbrev of_user : App
of_user = with_rule for_perms (must_be_given (text_option (codes "user")))

pub returns : goal.returns
returns c =
    let one : app_of c.in_ok-arg.field-0 ≡ at_path =
    c.in_ok-arg.ensures.shape (ap (λ (a : Arg). a.global) c.help.ensures ∙ c.required.ensures.local)
    ∙ ap₂ with_rule c.in_ok-on_image.ensures (ap rule_of c.help.ensures ∙ c.required.ensures.rule) in
    let two : app_of c.in_ok-arg-2.field-0 ≡ for_perms =
    c.in_ok-arg-2.ensures.shape (ap (λ (a : Arg). a.global) c.help-2.ensures ∙ c.required-2.ensures.local)
    ∙ ap₂ with_rule one (ap rule_of c.help-2.ensures ∙ c.required-2.ensures.rule) in
    let three : app_of c.in_ok-arg-3.field-0 ≡ of_user =
    c.in_ok-arg-3.ensures.shape (ap (λ (a : Arg). a.global) c.help-3.ensures ∙ ap (λ (a : Arg). a.global) c.required-3.ensures ∙ c.text_option.ensures.local)
    ∙ ap₂ with_rule two (ap rule_of c.help-3.ensures ∙ ap rule_of c.required-3.ensures ∙ ap must_be_given c.text_option.ensures.rule) in
    let four : app_of c.in_ok-arg-4.field-0 ≡ with_rule of_user (text_option (codes "caps")) =
    c.in_ok-arg-4.ensures.shape (ap (λ (a : Arg). a.global) c.help-4.ensures ∙ c.text_option-2.ensures.local)
    ∙ ap₂ with_rule three (ap rule_of c.help-4.ensures ∙ c.text_option-2.ensures.rule) in
    IfOk-weaker c.arg-5.result _ _ (λ command adds. adds.shape (ap (λ (a : Arg). a.global) c.help-5.ensures ∙ c.flag.ensures.local)
    ∙ ap₂ with_rule four (ap rule_of c.help-5.ensures ∙ c.flag.ensures.rule)) c.arg-5.ensures

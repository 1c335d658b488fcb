use Rattle.std.proofs.Common.{◌≡◌, ◌∙◌, ap, ap₂, codes}
use Rattle.std.proofs.lemmas.Result.{IfOk-weaker}
use Rattle.clap.specs.Words.{app_of, new_app, rule_of, with_rule}
use Rattle.clap.specs.declared.builder.arg.Arg.{Arg}
use Rattle.fs_command.specs.Words.{flag, image, text_option}
use Rattle.fs_command.proofs.words.fuse_command.Goals as goal

pub returns : goal.returns
returns c =
    let one : app_of c.in_ok-arg.field-0 ≡ with_rule (with_rule (new_app (codes "fuse")) image) (text_option (codes "denials")) =
    c.in_ok-arg.ensures.shape (ap (λ (a : Arg). a.global) c.help.ensures ∙ c.text_option.ensures.local)
    ∙ ap₂ with_rule c.in_ok-on_image.ensures (ap rule_of c.help.ensures ∙ c.text_option.ensures.rule) in
    let two : app_of c.in_ok-arg-2.field-0
    ≡ with_rule (with_rule (with_rule (new_app (codes "fuse")) image) (text_option (codes "denials"))) (flag (codes "own-rules")) =
    c.in_ok-arg-2.ensures.shape (ap (λ (a : Arg). a.global) c.help-2.ensures ∙ c.flag.ensures.local)
    ∙ ap₂ with_rule one (ap rule_of c.help-2.ensures ∙ c.flag.ensures.rule) in
    IfOk-weaker c.arg-3.result _ _ (λ command adds. adds.shape (ap (λ (a : Arg). a.global) c.help-3.ensures ∙ c.number.ensures.local)
    ∙ ap₂ with_rule two (ap rule_of c.help-3.ensures ∙ c.number.ensures.rule)) c.arg-3.ensures

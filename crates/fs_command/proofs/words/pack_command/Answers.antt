use Rattle.std.proofs.Common.{◌≡◌, ◌∙◌, ap, ap₂, codes}
use Rattle.std.proofs.lemmas.Result.{IfOk-weaker}
use Rattle.clap.specs.Words.{App, app_of, new_app, rule_of, with_rule}
use Rattle.clap.specs.declared.builder.arg.Arg.{Arg}
use Rattle.fs_command.specs.Words.{directory, image, number_option, with_size}
use Rattle.fs_command.proofs.words.pack_command.Goals as goal

-- the command with its words that have to be given
abbrev from_directory : App
from_directory = with_rule (with_rule (new_app (codes "pack")) image) directory

pub returns : goal.returns
returns c =
    let one : app_of c.in_ok-command.command ≡ from_directory =
    c.in_ok-command.ensures.shape (ap (λ (a : Arg). a.global) c.help.ensures ∙ c.directory.ensures.local)
    ∙ ap₂ with_rule c.in_ok-on_image.ensures (ap rule_of c.help.ensures ∙ c.directory.ensures.rule) in
    let two : app_of c.in_ok-arg.field-0 ≡ with_rule (with_size from_directory) (number_option (codes "uid") 0 4294967295) =
    c.in_ok-arg.ensures.shape (ap (λ (a : Arg). a.global) c.help-2.ensures ∙ c.number.ensures.local)
    ∙ ap₂ with_rule (c.in_ok-with_size.ensures ∙ ap with_size one) (ap rule_of c.help-2.ensures ∙ c.number.ensures.rule) in
    IfOk-weaker c.arg-3.result _ _ (λ command adds. adds.shape (ap (λ (a : Arg). a.global) c.help-3.ensures ∙ c.number-2.ensures.local)
    ∙ ap₂ with_rule two (ap rule_of c.help-3.ensures ∙ c.number-2.ensures.rule)) c.arg-3.ensures

use Rattle.std.proofs.Common.{◌∙◌, sym, ap, Some}
use Rattle.std.specs.Prelude.{option_map}
use Rattle.std.proofs.lemmas.Result.{IfOk-weaker}
use Rattle.clap.specs.Words.{found_of}
use Rattle.fs_command.proofs.Getters.{text_is_some, text_is}
use Rattle.fs_command.proofs.words.text_given.Goals as goal

pub unwrap-requires : goal.unwrap-requires
unwrap-requires c = text_is_some (found_of c.args.matches.now) c.args.name.now c.get_str.result c.get_str.ensures c.requires.given

pub returns : goal.returns
returns c =
    IfOk-weaker c.new.result _ _ (λ text is. text_is (found_of c.args.matches.now) c.args.name.now c.get_str.result c.get_str.ensures
    ∙ ap (option_map (λ s. s.now)) c.unwrap.ensures ∙ ap Some (sym is)) c.new.ensures

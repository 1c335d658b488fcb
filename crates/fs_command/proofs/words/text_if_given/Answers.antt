use Rattle.std.proofs.Common.{◌∙◌, sym, ap, Some}
use Rattle.std.specs.Prelude.{option_map}
use Rattle.clap.specs.Words.{found_of}
use Rattle.fs_command.proofs.Getters.{text_is}
use Rattle.fs_command.proofs.words.text_if_given.Goals as goal

pub returns-in_ok-new-in-Some : goal.returns-in_ok-new-in-Some
returns-in_ok-new-in-Some c =
    text_is (found_of c.args.matches.now) c.args.name.now c.get_str.result c.get_str.ensures
    ∙ ap (option_map (λ s. s.now)) c.in-Some.is ∙ ap Some (sym c.in_ok-new-in-Some.ensures)

pub returns-in-None : goal.returns-in-None
returns-in-None c =
    text_is (found_of c.args.matches.now) c.args.name.now c.get_str.result c.get_str.ensures ∙ ap (option_map (λ s. s.now)) c.in-None.is

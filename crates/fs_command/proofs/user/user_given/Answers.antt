use Rattle.std.proofs.Common.{◌∙◌, ap, codes}
use Rattle.std.specs.Prelude.{option_map}
use Rattle.clap.specs.Words.{found_of, rows_of}
use Rattle.fs_command.proofs.Askers.{user_ends}
use Rattle.fs_command.proofs.Getters.{text_is_some, text_is}
use Rattle.fs_command.proofs.user.user_given.Goals as goal

pub unwrap-user-requires : goal.unwrap-user-requires
unwrap-user-requires c = text_is_some (found_of c.args.matches.now) (codes "user") c.get_str.result c.get_str.ensures c.requires.given

pub returns : goal.returns
returns c =
    let found = found_of c.args.matches.now in
    user_ends (rows_of found) c.unwrap-user.result.now _ c.read_user.result
    (text_is found (codes "user") c.get_str.result c.get_str.ensures ∙ ap (option_map (λ s. s.now)) c.unwrap-user.ensures)
    (text_is found (codes "caps") c.get_str-2.result c.get_str-2.ensures) c.read_user.ensures

use Rattle.std.proofs.Common.{◌∙◌, sym, ap, codes}
use Rattle.std.specs.Prelude.{option_map}
use Rattle.clap.specs.Words.{found_of, rows_of}
use Rattle.fs_command.specs.Users.{perms_said}
use Rattle.fs_command.proofs.Askers.{no_value, perms_for}
use Rattle.fs_command.proofs.Getters.{text_is_some, text_is}
use Rattle.fs_command.proofs.user.perms_given.Goals as goal

pub unwrap-requires : goal.unwrap-requires
unwrap-requires c = text_is_some (found_of c.args.matches.now) (codes "PERM") c.get_str.result c.get_str.ensures c.requires.given

pub returns-in_default : goal.returns-in_default
returns-in_default c = (
  c.unwrap.result.now,
  text_is (found_of c.args.matches.now) (codes "PERM") c.get_str.result c.get_str.ensures ∙ ap (option_map (λ s. s.now)) c.unwrap.ensures,
  ap perms_said (sym c.as_bytes.ensures.value) ∙ sym c.perms_said.ensures ∙ no_value _ c.in_default.not-Some,
)

pub returns : goal.returns
returns c =
    perms_for (rows_of (found_of c.args.matches.now)) c.unwrap.result.now c.in-Some.perms
    (text_is (found_of c.args.matches.now) (codes "PERM") c.get_str.result c.get_str.ensures ∙ ap (option_map (λ s. s.now)) c.unwrap.ensures)
    (ap perms_said (sym c.as_bytes.ensures.value) ∙ sym c.perms_said.ensures ∙ c.in-Some.is)

use Rattle.std.proofs.Common.{◌≡◌, ◌∙◌, sym, ap, subst, Option, Some, codes}
use Rattle.std.specs.Prelude.{option_map}
use Rattle.clap.specs.Words.{Text, first_of, found_of, rows_of}
use Rattle.fs_command.specs.Words.{IsSizeFor}
use Rattle.fs_command.proofs.Getters.{text_is_some, text_is}
use Rattle.fs_command.proofs.words.sectors_given.Goals as goal

pub unwrap-requires : goal.unwrap-requires
unwrap-requires c = text_is_some (found_of c.args.matches.now) (codes "size") c.get_str.result c.get_str.ensures c.requires.given

pub returns-in_default : goal.returns-in_default
returns-in_default c = (
  c.unwrap.result.now,
  text_is (found_of c.args.matches.now) (codes "size") c.get_str.result c.get_str.ensures ∙ ap (option_map (λ s. s.now)) c.unwrap.ensures,
  c.in_default.ensures.none,
)

pub returns : goal.returns
returns c =
    let size_is : first_of (codes "size") (rows_of (found_of c.args.matches.now)) ≡ Some c.unwrap.result.now =
    text_is (found_of c.args.matches.now) (codes "size") c.get_str.result c.get_str.ensures ∙ ap (option_map (λ s. s.now)) c.unwrap.ensures in
    subst (λ (o : Option Text). IsSizeFor o c.in-Some.sectors) (sym size_is) c.in-Some.ensures.given

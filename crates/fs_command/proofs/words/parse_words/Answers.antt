use Rattle.std.proofs.Common.{◌≡◌, ◌∙◌, ap, sym, refl, subst, List, [], Option, map, string_bytes, true}
use Rattle.clap.specs.Words.{App, Row, Text, HasKind, fault_of, is_simple, is_simple_and_free, subcommand_rows_of, subcommand_of}
use Rattle.clap.proofs.OnLiterals.{clap_on_literals}
use Rattle.fs_command.specs.Words.{command_line, HasValues}
use Rattle.fs_command.proofs.Refusals.{if_taken, read, refused}
use Rattle.fs_command.proofs.Values.{has_values}
use Rattle.fs_command.proofs.words.parse_words.Goals as goal

inofs_is_simple : is_simple command_line ≡ true
unfolding clap_on_literals
inofs_is_simple = refl

inofs_is_free : is_simple_and_free command_line ≡ true
unfolding clap_on_literals
inofs_is_free = refl

-- nothing refuses the words, by the definition of the command line
none_of : (app : App) (words : List Text) → app ≡ command_line → (is_simple_and_free app ≡ true → fault_of app words ≡ []) → fault_of command_line words ≡ []
none_of app words is kinds = ap (λ a. fault_of a words) (sym is) ∙ kinds (ap is_simple_and_free is ∙ inofs_is_free)

-- and they name a command with its values by it
named_by : (app : App) (words : List Text) (named : Option (Text × List Row)) → app ≡ command_line → (is_simple app ≡ true → named ≡ subcommand_of app words)
    → named ≡ subcommand_of command_line words
named_by app words named is read = read (ap is_simple is ∙ inofs_is_simple) ∙ ap (λ a. subcommand_of a words) is

pub returns-in_err-matches-clause-said : goal.returns-in_err-matches-clause-said
returns-in_err-matches-clause-said c =
    let is = c.in_ok-program.ensures in
    let words = map string_bytes c.args.words.now in
    let error = c.in_err-matches.field-0.0 in
    refused words error c.from_residual-in_err-matches.result c.from_residual-in_err-matches.ensures.1
    (subst (λ (a : App). HasKind (fault_of a words) error) is (c.in_err-matches.ensures.kinds (ap is_simple_and_free is ∙ inofs_is_free)))

pub named_job-requires : goal.named_job-requires
named_job-requires c =
    let words = map string_bytes c.args.words.now in
    let named = named_by _ words _ c.in_ok-program.ensures (λ simple. (c.in_ok-matches.ensures.matches simple).1) in
    subst HasValues (sym named) (has_values words (none_of _ words c.in_ok-program.ensures c.in_ok-matches.ensures.kinds))

pub returns-clause-said : goal.returns-clause-said
returns-clause-said c =
    let words = map string_bytes c.args.words.now in
    read words (subcommand_rows_of c.in_ok-matches.matches) c.named_job.result (none_of _ words c.in_ok-program.ensures c.in_ok-matches.ensures.kinds)
    (named_by _ words _ c.in_ok-program.ensures (λ simple. (c.in_ok-matches.ensures.matches simple).1)) c.named_job.ensures

pub returns-clause-taken : goal.returns-clause-taken
returns-clause-taken c =
    if_taken c.named_job.result (none_of _ (map string_bytes c.args.words.now) c.in_ok-program.ensures c.in_ok-matches.ensures.kinds)

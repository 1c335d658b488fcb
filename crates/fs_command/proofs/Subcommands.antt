-- The program with one command more.
use Rattle.std.specs.Prelude.{◌≡◌, true, Result, Ok, Err, IsOkAnd, IfOk}
use Rattle.std.proofs.Common.{◌∙◌, ap, ap₂}
use Rattle.clap.specs.Words.{AddsSubcommand, App, app_of, with_subcommand}
use Rattle.clap.specs.declared.builder.command.Command.{Command}
use Rattle.clap.proofs.SimpleLemmas.{plain_fields}

one_more : (old sub new : Command) (a s : App) → s.top.is_plain ≡ true → AddsSubcommand old sub new → app_of old ≡ a → app_of sub ≡ s → app_of new ≡ with_subcommand a s.top
one_more old sub new a s plain adds old_is sub_is =
    adds.shape (plain_fields sub (ap (λ (x : App). x.top.is_plain) sub_is ∙ plain)).globals ∙ ap₂ with_subcommand old_is (ap (λ (x : App). x.top) sub_is)

-- and it was made
pub one_made : {E : Type 0} (old : Command) (made : Result Command E) (new : Command) (a s : App) → s.top.is_plain ≡ true
    → IsOkAnd made (λ sub. AddsSubcommand old sub new) → app_of old ≡ a → IfOk made (λ sub. app_of sub ≡ s) → app_of new ≡ with_subcommand a s.top
one_made old (Ok sub) new a s plain adds old_is sub_is = one_more old sub new a s plain adds old_is sub_is
one_made old (Err e) new a s plain adds old_is sub_is = absurd adds

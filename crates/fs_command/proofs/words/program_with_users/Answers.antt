use Rattle.std.proofs.Common.{refl}
use Rattle.std.proofs.lemmas.Result.{IfOk-weaker}
use Rattle.clap.specs.Words.{with_subcommand}
use Rattle.fs_command.specs.Words.{with_makers, unpack, run, check}
use Rattle.fs_command.proofs.Subcommands.{one_made}
use Rattle.fs_command.proofs.words.program_with_users.Goals as goal

pub returns : goal.returns
returns c =
    let one = one_made _ _ _ with_makers unpack refl c.in_ok-program-2.ensures c.in_ok-program.ensures c.unpack_command.ensures in
    let two = one_made _ _ _ (with_subcommand with_makers unpack.top) run refl c.in_ok-program-3.ensures one c.run_command.ensures in
    IfOk-weaker c.with_command-3.result _ _ (λ command adds. one_made _ _ command (with_subcommand (with_subcommand with_makers unpack.top) run.top) check refl adds two c.check_command.ensures) c.with_command-3.ensures

use Rattle.std.proofs.Common.{refl}
use Rattle.std.proofs.lemmas.Result.{IfOk-weaker}
use Rattle.clap.specs.Words.{with_subcommand}
use Rattle.fs_command.specs.Words.{alone, mkfs, format, pack}
use Rattle.fs_command.proofs.Subcommands.{one_made}
use Rattle.fs_command.proofs.words.program_with_makers.Goals as goal

pub returns : goal.returns
returns c =
    let one = one_made _ _ _ alone mkfs refl c.in_ok-program.ensures c.program_alone-program.ensures c.mkfs_command.ensures in
    let two = one_made _ _ _ (with_subcommand alone mkfs.top) format refl c.in_ok-program-2.ensures one c.format_command.ensures in
    IfOk-weaker c.with_command-3.result _ _ (λ command adds. one_made _ _ command (with_subcommand (with_subcommand alone mkfs.top) format.top) pack refl adds two c.pack_command.ensures) c.with_command-3.ensures

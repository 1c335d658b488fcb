use Rattle.std.proofs.Common.{refl}
use Rattle.std.proofs.lemmas.Result.{IfOk-weaker}
use Rattle.clap.specs.Words.{with_subcommand}
use Rattle.fs_command.specs.Words.{with_users, info, upgrade, fuse, access}
use Rattle.fs_command.proofs.Subcommands.{one_made}
use Rattle.fs_command.proofs.words.program.Goals as goal

pub returns : goal.returns
returns c =
    let one = one_made _ _ _ with_users info refl c.in_ok-program-2.ensures c.in_ok-program.ensures c.info_command.ensures in
    let two = one_made _ _ _ (with_subcommand with_users info.top) upgrade refl c.in_ok-program-3.ensures one c.upgrade_command.ensures in
    let three = one_made _ _ _ (with_subcommand (with_subcommand with_users info.top) upgrade.top) fuse refl c.in_ok-program-4.ensures two c.fuse_command.ensures in
    IfOk-weaker c.with_command-4.result _ _ (λ command adds.
    one_made _ _ command (with_subcommand (with_subcommand (with_subcommand with_users info.top) upgrade.top) fuse.top) access refl adds three c.access_command.ensures)
    c.with_command-4.ensures

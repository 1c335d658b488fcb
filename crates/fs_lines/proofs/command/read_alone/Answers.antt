use Rattle.std.proofs.Common.{refl}
use Rattle.fs_lines.specs.Commands.{lone_commands}
use Rattle.fs_lines.proofs.Names.{no_row}
use Rattle.fs_lines.proofs.command.read_alone.Goals as goal

pub returns-in_default-clause-said : goal.returns-in_default-clause-said
returns-in_default-clause-said c = λ other. rw (no_row lone_commands c.args.name.now refl c.in_default.ensures.cases.0) refl

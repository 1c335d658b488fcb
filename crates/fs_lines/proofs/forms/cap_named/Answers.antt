use Rattle.std.proofs.Common.{sym}
use Rattle.fs_lines.proofs.Capabilities.{names_no_cap}
use Rattle.fs_lines.proofs.forms.cap_named.Goals as goal

pub returns-in-Err : goal.returns-in-Err
returns-in-Err c = sym (names_no_cap c.args.name.now c.in-Err.ensures.cases.0)

use Rattle.std.proofs.Common.{sym, ◌∙◌}
use Rattle.posix_acl.specs.Text.{is_hash}
use Rattle.posix_acl.proofs.Cuts.{front_found, front_none}
use Rattle.posix_acl.proofs.reading.uncommented.Goals as goal

pub returns-in-Some : goal.returns-in-Some
returns-in-Some c = front_found is_hash c.args.line.now c.in-Some.at (sym c.position_of.ensures ∙ c.in-Some.is)

pub returns-in-None : goal.returns-in-None
returns-in-None c = front_none is_hash c.args.line.now (sym c.position_of.ensures ∙ c.in-None.is)

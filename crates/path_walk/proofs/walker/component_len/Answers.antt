use Rattle.std.proofs.Common.{sym, ◌∙◌}
use Rattle.path_walk.proofs.Cutting.{len_some, len_none}
use Rattle.path_walk.proofs.walker.component_len.Goals as goal

pub returns-in-Some : goal.returns-in-Some
returns-in-Some c = len_some c.args.path.now c.in-Some.len (sym c.first_slash.ensures ∙ c.in-Some.is)

pub returns-in-None : goal.returns-in-None
returns-in-None c = len_none c.args.path.now (sym c.first_slash.ensures ∙ c.in-None.is)

use Rattle.std.proofs.Common.{sym, ◌∙◌}
use Rattle.fs_model.specs.Rules.{no_geometry}
use Rattle.fs_check.proofs.Openings.{none_without_sectors, no_geometry_there}
use Rattle.fs_info.proofs.opening.open_geometry.Goals as goal

pub returns-then-size-eq0-clause-fault : goal.returns-then-size-eq0-clause-fault
returns-then-size-eq0-clause-fault g c = no_geometry (none_without_sectors _ _ (sym c.size-size.ensures ∙ c.if-size-eq0.true))

pub returns-in-None-clause-fault : goal.returns-in-None-clause-fault
returns-in-None-clause-fault g c =
    no_geometry (no_geometry_there _ c.size-size.result _ c.read.new.to c.size-size.ensures c.in_ok-read.ensures.content c.in-None.ensures.none)

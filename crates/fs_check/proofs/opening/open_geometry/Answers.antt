use Rattle.std.proofs.Common.{sym, ◌∙◌}
use Rattle.sector_disk.proofs.Moments.{reads_nothing}
use Rattle.fs_model.specs.Rules.{no_geometry}
use Rattle.fs_check.proofs.Carrying.{reads_once}
use Rattle.fs_check.proofs.Openings.{none_without_sectors, no_geometry_there}
use Rattle.fs_check.proofs.opening.open_geometry.Goals as goal

pub returns-then-size-eq0-clause-passed : goal.returns-then-size-eq0-clause-passed
returns-then-size-eq0-clause-passed g c = record {
  reads = reads_nothing;
  reason = no_geometry (none_without_sectors _ _ (sym c.size-size.ensures ∙ c.if-size-eq0.true));
}

pub returns-in-None-clause-passed : goal.returns-in-None-clause-passed
returns-in-None-clause-passed g c = record {
  reads = reads_once c.read.ensures.same c.read.ensures.time c.read.ensures.cause.later c.read.ensures.quiet (g.met.D.Disk.counts_now c.args.disk.now);
  reason = no_geometry (no_geometry_there _ c.size-size.result _ c.read.new.to c.size-size.ensures c.in_ok-read.ensures.content c.in-None.ensures.none);
}

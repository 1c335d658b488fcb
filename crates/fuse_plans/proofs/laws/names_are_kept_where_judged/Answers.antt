use Rattle.fuse_plans.proofs.KeptNames.{names_are_kept_where_judged, only_missing_names_are_absent}
use Rattle.fuse_plans.proofs.laws.names_are_kept_where_judged.Goals as goal

pub returns-clause-kept : goal.returns-clause-kept
returns-clause-kept c = names_are_kept_where_judged

pub returns-clause-absent : goal.returns-clause-absent
returns-clause-absent c = only_missing_names_are_absent

use Rattle.fuse_plans.proofs.JudgedLookups.{judged_lookups_are_granted as law}
use Rattle.fuse_plans.proofs.laws.judged_lookups_are_granted.Goals as goal

pub returns : goal.returns
returns c = law

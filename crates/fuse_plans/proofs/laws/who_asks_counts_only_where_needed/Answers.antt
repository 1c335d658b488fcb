use Rattle.fuse_plans.proofs.WhoAsks.{who_asks_counts_only_where_needed as law}
use Rattle.fuse_plans.proofs.laws.who_asks_counts_only_where_needed.Goals as goal

pub returns : goal.returns
returns c = law

use Rattle.host_trees.proofs.Asking.{asks_then}
use Rattle.host_trees.proofs.objects.stamp_at.Goals as goal

pub returns : goal.returns
returns g c = asks_then c.status.ensures.makes c.stamp.ensures

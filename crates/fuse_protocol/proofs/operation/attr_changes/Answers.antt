use Rattle.fuse_protocol.specs.Operations.{attr_changes}
use Rattle.fuse_protocol.proofs.operation.attr_changes.Goals as goal

pub returns : goal.returns
unfolding attr_changes
returns c = cc

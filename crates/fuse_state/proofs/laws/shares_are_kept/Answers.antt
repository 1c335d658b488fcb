use Rattle.fuse_state.proofs.Holders.{new_within}
use Rattle.fuse_state.proofs.KeptShares.{more_keep, fewer_keep, further_may, root_may}
use Rattle.fuse_state.proofs.laws.shares_are_kept.Goals as goal

pub returns : goal.returns
returns c = record { begin = new_within; more = more_keep; fewer = fewer_keep; further = further_may; root = root_may }

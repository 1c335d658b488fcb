use Rattle.fuse_plans.proofs.ListingLaws.{listings-go_on, names-keep_their_offsets}
use Rattle.fuse_plans.proofs.laws.listings_go_on.Goals as goal

pub returns-clause-goes_on : goal.returns-clause-goes_on
returns-clause-goes_on c = listings-go_on

pub returns-clause-offsets : goal.returns-clause-offsets
returns-clause-offsets c = names-keep_their_offsets

use Rattle.std.proofs.Common.{rules}
use Rattle.fs_model.proofs.listing.Listing.new.Goals as goal

pub returns : goal.returns
returns c = search rules

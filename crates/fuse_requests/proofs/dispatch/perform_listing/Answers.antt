use Rattle.fuse_requests.proofs.Answerings.{answers}
use Rattle.std.proofs.Common.{refl}
use Rattle.fuse_requests.proofs.dispatch.perform_listing.Goals as goal

pub returns-clause-answered : goal.returns-clause-answered
returns-clause-answered g c = answers refl c.read_directory_plus.ensures c.response_of.ensures

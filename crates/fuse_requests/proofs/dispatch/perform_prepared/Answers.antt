use Rattle.std.proofs.Common.{refl}
use Rattle.fuse_requests.proofs.dispatch.perform_prepared.Goals as goal

pub returns-in-Silent-clause-answered : goal.returns-in-Silent-clause-answered
returns-in-Silent-clause-answered g c = c.perform_silently.ensures c.args.asked c.args.value.now refl

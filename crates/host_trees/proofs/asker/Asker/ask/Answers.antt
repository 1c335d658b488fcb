use Rattle.host_trees.proofs.Asking.{asked_so}
use Rattle.host_trees.proofs.asker.Asker.ask.Goals as goal

pub returns : goal.returns
returns g c = asked_so c.args.event.now c.serve-reply.result c.serve-reply.ensures c.is_done-done.ensures c.both-self.ensures

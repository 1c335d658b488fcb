use Rattle.fuse_serving.specs.Exchanges.{passes_none}
use Rattle.fuse_serving.proofs.Passing.{learns_one}
use Rattle.fuse_serving.proofs.serving.learn.Goals as goal

pub returns-in-Nobody-clause-passes : goal.returns-in-Nobody-clause-passes
returns-in-Nobody-clause-passes g c = rw c.in-Nobody.is (passes_none _)

pub returns-in-User-clause-passes : goal.returns-in-User-clause-passes
returns-in-User-clause-passes g c = rw c.in-User.is (passes_none _)

pub returns-in-Process-clause-passes : goal.returns-in-Process-clause-passes
returns-in-Process-clause-passes g c = learns_one g.K.Kernel.Does _ _ c.args.who c.args.spoken.now _ c.in-Process.is c.caller.ensures

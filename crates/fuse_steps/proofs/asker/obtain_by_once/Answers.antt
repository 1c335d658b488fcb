use Rattle.fuse_steps.proofs.asker.obtain_by_once.Goals as goal

pub returns : goal.returns
returns g c = c.obtain_by.ensures

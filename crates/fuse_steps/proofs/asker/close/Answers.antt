use Rattle.fuse_steps.proofs.asker.close.Goals as goal

pub returns : goal.returns
returns g c = (_, c.ask_by.ensures)

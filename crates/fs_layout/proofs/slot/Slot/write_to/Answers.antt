use Rattle.fs_layout.proofs.slot.Slot.write_to.Goals as goal

pub returns : goal.returns
returns c = c.write_in.ensures

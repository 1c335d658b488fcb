use Rattle.fs_layout.proofs.slot.Slot.read_from.Goals as goal

pub returns-clause-first_fault : goal.returns-clause-first_fault
returns-clause-first_fault c = c.read_in.ensures.first_fault

pub returns-clause-found : goal.returns-clause-found
returns-clause-found c = c.read_in.ensures.found

pub returns-clause-only : goal.returns-clause-only
returns-clause-only c = c.read_in.ensures.only

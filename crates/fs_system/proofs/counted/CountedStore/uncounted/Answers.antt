use Rattle.fs_system.proofs.counted.CountedStore.uncounted.Goals as goal

pub invariant_of-result : goal.invariant_of-result
invariant_of-result g c = record { space = tt; counts_are = c.requires }

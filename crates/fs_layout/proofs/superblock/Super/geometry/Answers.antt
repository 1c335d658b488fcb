use Rattle.fs_layout.proofs.Places.{found_fits}
use Rattle.fs_layout.proofs.superblock.Super.geometry.Goals as goal

pub returns-clause-fits : goal.returns-clause-fits
returns-clause-fits c = found_fits c.args.self c.geometry_in.result c.geometry_in.ensures.value

use Rattle.fs_layout.specs.Bytes.{zeros}
use Rattle.fs_images.specs.NewTables.{root_table}
use Rattle.fs_images.proofs.MakingTables.{root_is_inode}
use Rattle.fs_images.proofs.new_tables.root_sector.Goals as goal

pub write_to-requires-clause-valid : goal.write_to-requires-clause-valid
write_to-requires-clause-valid c = root_is_inode

pub returns : goal.returns
unfolding root_table zeros
returns c = c.write_to.ensures

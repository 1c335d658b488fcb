use Rattle.fs_model.proofs.NewDiskStands.{new_disk_stands}
use Rattle.fs_model.proofs.laws.a_new_disk_stands_for_an_empty_root.Goals as goal

pub returns : goal.returns
returns c = new_disk_stands

use Rattle.fs_model.proofs.Upgraded.{stands_in_version}
use Rattle.fs_model.proofs.laws.an_image_stands_in_another_version.Goals as goal

pub returns : goal.returns
returns c = stands_in_version

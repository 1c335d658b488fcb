use Rattle.fs_model.proofs.NewImages.{new_images_exist, some_image_stands}
use Rattle.fs_model.proofs.laws.some_image_stands_for_a_tree.Goals as goal

pub returns : goal.returns
returns c = record { new = new_images_exist; some = some_image_stands }

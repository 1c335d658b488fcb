use Rattle.path_walk.proofs.HeldNodes.{number_below, held_node, held_kind, held_names, held_parent, held_access, held_target}
use Rattle.path_walk.proofs.HeldInodes.{held_inodes}
use Rattle.path_walk.proofs.laws.inodes_say_what_stands.Goals as goal

pub returns : goal.returns
returns c = record {
  numbers = λ p image t n h there. number_below h n there;
  nodes = λ p image t n node h at. held_node h n node at;
  kinds = λ p image t n node h at. held_kind h n node at;
  directories = λ p image t n h d. (held_names h n d, held_parent h n d);
  access = λ p image t n x h e. held_access h n x e;
  sound = λ p image t h. held_inodes h;
  targets = λ p image t n node target h at is. held_target h n node target at is;
}

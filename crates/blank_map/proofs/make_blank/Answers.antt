use Rattle.blank_map.proofs.Placed.{placed_after}
use Rattle.blank_map.proofs.make_blank.Goals as goal

pub is_blank-requires : goal.is_blank-requires
is_blank-requires g c = placed_after c.requires c.put_blank.ensures

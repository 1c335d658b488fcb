use Rattle.blank_map.proofs.Placed.{placed_after}
use Rattle.storage_tests.proofs.tests.bitmaps.agreed_without.Goals as goal

pub is_ready-requires : goal.is_ready-requires
is_ready-requires g c = placed_after c.requires c.put_all_but.ensures

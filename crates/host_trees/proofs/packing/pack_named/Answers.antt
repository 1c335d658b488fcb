use Rattle.host_trees.proofs.Asking.{tells_asked, tells_then, tells_told}
use Rattle.host_trees.proofs.packing.pack_named.Goals as goal

pub returns : goal.returns
returns g c = tells_then (tells_asked _ c.pack_object-packed.ensures) (tells_told c.name_if_lacking.ensures.told)

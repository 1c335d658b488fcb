use Rattle.host_trees.proofs.Asking.{tells_asked, tells_then, tells_told}
use Rattle.host_trees.proofs.unpacking.unpack_below.Goals as goal

pub returns-in-Ok : goal.returns-in-Ok
returns-in-Ok g c = tells_then (tells_asked _ c.listing_of.ensures) c.unpack_names.ensures

pub returns-in-Err : goal.returns-in-Err
returns-in-Err g c = tells_then (tells_asked _ c.listing_of.ensures) (tells_told c.name_lack.ensures.told)

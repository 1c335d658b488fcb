use Rattle.std.proofs.Common.{subst}
use Rattle.sector_disk.specs.Whole.{AreSectors}
use Rattle.sector_disk.proofs.Placed.{shown_is, shown_whole}
use Rattle.sector_disk.proofs.sectors.Sectors.tell_whole.Goals as goal

pub returns : goal.returns
returns c =
    let i = c.self.inside in
    subst AreSectors (shown_is c.self.view_is) (shown_whole i.places i.contents.items i.owners.items c.self.invariant)

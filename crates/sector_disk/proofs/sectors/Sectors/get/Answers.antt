use Rattle.sector_disk.proofs.Placed.{read_placed}
use Rattle.sector_disk.proofs.sectors.Sectors.get.Goals as goal

pub returns-clause-placed : goal.returns-clause-placed
returns-clause-placed c =
    let i = c.self.inside in
    read_placed i.places i.contents.items i.owners.items c.args.self.now c.args.n c.get.result c.index.result.now c.self.invariant c.self.view_is c.requires
    c.get.ensures c.index.ensures

use Rattle.sector_disk.proofs.Sparse.{block_fits, found, place_fits, number_read}
use Rattle.sector_disk.proofs.numbers.Numbers.get.Goals as goal

pub index-block-requires : goal.index-block-requires
index-block-requires c =
    block_fits c.args.self.now c.args.n c.self.inside.blocks.len c.self.invariant c.self.view_is c.requires c.self.inside.blocks.ok.0

pub index-requires : goal.index-requires
index-requires c =
    place_fits c.self.inside.stored.len
    (found c.args.self.now c.args.n c.index-block.result.now c.place_in.result c.self.invariant c.self.view_is c.requires c.index-block.ensures c.place_in.ensures)
    c.self.inside.stored.ok.0

pub returns : goal.returns
returns c =
    number_read c.index.result.now
    (found c.args.self.now c.args.n c.index-block.result.now c.place_in.result c.self.invariant c.self.view_is c.requires c.index-block.ensures c.place_in.ensures)
    c.index.ensures

use Rattle.sector_disk.proofs.Sparse.{block_fits, found, place_fits, some_used, put_sparse, put_numbers}
use Rattle.sector_disk.proofs.numbers.Numbers.replace.Goals as goal

pub index-block-requires : goal.index-block-requires
index-block-requires c =
    block_fits c.args.self.now c.args.n c.self.inside.blocks.len c.self.invariant c.self.view_is c.requires.below c.self.inside.blocks.ok.0

pub index_mut-requires : goal.index_mut-requires
index_mut-requires c =
    place_fits c.self.inside.stored.len
    (found c.args.self.now c.args.n c.index-block.result.now c.place_in.result c.self.invariant c.self.view_is c.requires.below c.index-block.ensures c.place_in.ensures)
    c.self.inside.stored.ok.0

pub invariant_of-self : goal.invariant_of-self
invariant_of-self c =
    let there = found c.args.self.now c.args.n c.index-block.result.now c.place_in.result c.self.invariant c.self.view_is c.requires.below c.index-block.ensures c.place_in.ensures in
    put_sparse c.args.value there (some_used there c.requires.some)

pub returns : goal.returns
returns c =
    let there = found c.args.self.now c.args.n c.index-block.result.now c.place_in.result c.self.invariant c.self.view_is c.requires.below c.index-block.ensures c.place_in.ensures in
    put_numbers c.args.value there (some_used there c.requires.some)

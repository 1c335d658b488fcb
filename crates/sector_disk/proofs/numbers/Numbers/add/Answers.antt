use Rattle.sector_disk.proofs.Sparse.{block_fits, found, place_fits, put_numbers, grown, grown_put_sparse, grown_put_numbers}
use Rattle.sector_disk.proofs.numbers.Numbers.add.Goals as goal

pub index-block-requires : goal.index-block-requires
index-block-requires c =
    block_fits c.args.self.now c.args.n c.self.inside.blocks.len c.self.invariant c.self.view_is c.requires c.self.inside.blocks.ok.0

pub index_mut-requires : goal.index_mut-requires
index_mut-requires c =
    place_fits c.self.inside.stored.len
    (found c.args.self.now c.args.n c.index-block.result.now c.place_in.result c.self.invariant c.self.view_is c.requires c.index-block.ensures c.place_in.ensures)
    c.self.inside.stored.ok.0

pub index_mut-requires-2 : goal.index_mut-requires-2
index_mut-requires-2 c =
    block_fits c.args.self.now c.args.n c.self.inside.blocks.len c.self.invariant c.self.view_is c.requires c.self.inside.blocks.ok.0

pub returns-then-block-ne0-clause-ok : goal.returns-then-block-ne0-clause-ok
returns-then-block-ne0-clause-ok c =
    put_numbers c.args.value
    (found c.args.self.now c.args.n c.index-block.result.now c.place_in.result c.self.invariant c.self.view_is c.requires c.index-block.ensures c.place_in.ensures)
    c.if-block-ne0.true

pub invariant_of-self-2 : goal.invariant_of-self-2
invariant_of-self-2 c =
    grown_put_sparse c.place_in-2.result c.args.value
    (grown c.args.self.now c.args.n c.in-Ok.last c.len.result c.len-2.result c.self.inside.stored.len c.resize.new.self.items c.self.invariant c.self.view_is c.requires
    c.self.inside.stored.ok.0 c.in-Ok.ensures.1 c.len.ensures c.len-2.ensures c.in_ok-resize.ensures.items) c.place_in-2.ensures

pub returns-clause-ok : goal.returns-clause-ok
returns-clause-ok c =
    grown_put_numbers c.index-block.result.now c.place_in-2.result c.args.value
    (grown c.args.self.now c.args.n c.in-Ok.last c.len.result c.len-2.result c.self.inside.stored.len c.resize.new.self.items c.self.invariant c.self.view_is c.requires
    c.self.inside.stored.ok.0 c.in-Ok.ensures.1 c.len.ensures c.len-2.ensures c.in_ok-resize.ensures.items) c.index-block.ensures c.if-block-ne0.false c.place_in-2.ensures

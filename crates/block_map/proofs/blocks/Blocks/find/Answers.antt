use Rattle.std.proofs.Common.{ap, arith}
use Rattle.fs_layout.specs.Header.{log_end}
use Rattle.block_map.proofs.Numbers.{number_within}
use Rattle.block_map.proofs.Overwriting.{loaded_number}
use Rattle.block_map.proofs.blocks.Blocks.find.Goals as goal

pub returns-clause-at_hand : goal.returns-clause-at_hand
returns-clause-at_hand g c = c.in_ok-load.ensures.loaded.at_hand

pub returns-clause-number : goal.returns-clause-number
returns-clause-number g c =
    let image = (g.S.Sectors.state c.args.s.now).sectors in
    loaded_number image c.args.k (c.number.ensures image c.in_ok-load.ensures.loaded) c.in_ok-load.ensures.inode

pub returns-clause-inside : goal.returns-clause-inside
returns-clause-inside g c = λ some.
    let store = c.in_ok-load.ensures.same.store in
    let w = number_within (g.S.Sectors.state c.args.s.now).header c.args.self.now.inode c.args.k c.requires.within (returns-clause-number g c) some in
    (omega (arith, w.0, ap log_end store.header), omega (arith, w.1, store.reads.narrowed.size))

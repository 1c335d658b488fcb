use Rattle.std.proofs.Common.{◌+◌, ap, arith}
use Rattle.fs_layout.specs.Header.{log_end}
use Rattle.block_map.proofs.Numbers.{listed_within}
use Rattle.bit_alloc.proofs.Passing.{no_fault}
use Rattle.sector_txn.proofs.TransactionRuns.{store_joined}
use Rattle.block_map.proofs.size.cut_level.Goals as goal

pub put-requires-clause-part : goal.put-requires-clause-part
put-requires-clause-part g c =
    let w = listed_within (g.S.Sectors.state c.args.s.now).header c.args.inode.now (c.args.level + 1) _ c.requires.within c.in_ok-sector.ensures.number c.if-sector-eq0.false in
    omega (arith, w.0, ap log_end c.in_ok-sector.ensures.same.store.header)

pub put-requires-clause-on_disk : goal.put-requires-clause-on_disk
put-requires-clause-on_disk g c =
    let w = listed_within (g.S.Sectors.state c.args.s.now).header c.args.inode.now (c.args.level + 1) _ c.requires.within c.in_ok-sector.ensures.number c.if-sector-eq0.false in
    omega (arith, w.1, c.in_ok-sector.ensures.same.store.reads.narrowed.size)

pub returns-then-sector-eq0-clause-cause : goal.returns-then-sector-eq0-clause-cause
returns-then-sector-eq0-clause-cause g c = no_fault c.in_ok-sector.ensures.same.store

pub returns-clause-store : goal.returns-clause-store
returns-clause-store g c = store_joined c.in_ok-sector.ensures.same.store c.put.ensures.store

pub returns-clause-cause : goal.returns-clause-cause
returns-clause-cause g c = no_fault (store_joined c.in_ok-sector.ensures.same.store c.put.ensures.store)

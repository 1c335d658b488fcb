use Rattle.std.proofs.Common.{sym, arith}
use Rattle.block_map.proofs.Givings.{empties, emptied_holds}
use Rattle.block_map.proofs.Saving.{saved_after}
use Rattle.block_map.proofs.Sizing.{may_change}
use Rattle.bit_alloc.proofs.Passing.{fault_on, no_fault}
use Rattle.sector_txn.proofs.TransactionRuns.{store_joined}
use Rattle.block_map.proofs.release.release_all.Goals as goal

pub returns-clause-change : goal.returns-clause-change
returns-clause-change g c =
    (saved_after c.requires.sound c.requires.below (sym c.requires.inode)
    (empties (may_change 0 c.requires.sound c.requires.below c.requires.inode c.requires.kind) c.requires.kind c.in_ok-give_from.ensures.given) c.in_ok-give_from.ensures.given.puts
    (let f = c.in_ok-give_from.ensures.given.free in omega (arith, f)) c.in_ok-write_inode.ensures.saved c.in_ok-write_inode.ensures.puts).content

pub returns-clause-held : goal.returns-clause-held
returns-clause-held g c = emptied_holds (g.S.Sectors.state c.write_inode.new.s).sectors c.args.inode.now

pub give_from-requires-clause-may : goal.give_from-requires-clause-may
give_from-requires-clause-may g c = may_change 0 c.requires.sound c.requires.below c.requires.inode c.requires.kind

pub write_inode-requires-clause-fits : goal.write_inode-requires-clause-fits
write_inode-requires-clause-fits g c =
    (empties (may_change 0 c.requires.sound c.requires.below c.requires.inode c.requires.kind) c.requires.kind c.in_ok-give_from.ensures.given).fits

pub returns-in_err-write_inode-clause-store : goal.returns-in_err-write_inode-clause-store
returns-in_err-write_inode-clause-store g c = store_joined c.in_ok-give_from.ensures.store c.in_err-write_inode.ensures.store

pub returns-in_err-write_inode-clause-cause : goal.returns-in_err-write_inode-clause-cause
returns-in_err-write_inode-clause-cause g c = fault_on c.in_ok-give_from.ensures.store c.in_err-write_inode.ensures.cause c.from_residual-in_err-write_inode.result c.from_residual-in_err-write_inode.ensures

pub returns-clause-store : goal.returns-clause-store
returns-clause-store g c = store_joined c.in_ok-give_from.ensures.store c.in_ok-write_inode.ensures.store

pub returns-clause-cause : goal.returns-clause-cause
returns-clause-cause g c = no_fault (store_joined c.in_ok-give_from.ensures.store c.in_ok-write_inode.ensures.store)

use Rattle.bit_alloc.specs.Room.{bitmaps}
use Rattle.fs_layout.proofs.Bits.{has_bit}
use Rattle.sector_txn.proofs.TransactionRuns.{changes_joined, store_joined}
use Rattle.bit_alloc.proofs.Soundness.{put_keeps_bitmaps}
use Rattle.inode_table.proofs.Sound.{puts_data, puts_bitmap}
use Rattle.bit_alloc.proofs.Passing.{no_fault_of}
use Rattle.inode_table.proofs.inodes.store.Goals as goal

pub returns-then-sector-ne0-clause-puts : goal.returns-then-sector-ne0-clause-puts
returns-then-sector-ne0-clause-puts g c = puts_data c.args.geometry (bitmaps c.args.geometry) c.put.ensures (c.requires.owned c.if-sector-ne0.true)

pub returns-then-sector-ne0-clause-bitmaps : goal.returns-then-sector-ne0-clause-bitmaps
returns-then-sector-ne0-clause-bitmaps g c = put_keeps_bitmaps c.requires.bitmaps c.put.ensures.store (c.requires.owned c.if-sector-ne0.true).0 c.put.ensures.sectors

pub returns-clause-puts : goal.returns-clause-puts
returns-clause-puts g c =
    let p = c.args.geometry in
    let free = c.in_ok-to.ensures.taken.free in
    changes_joined (puts_bitmap p c.in_ok-to.to c.requires.bitmaps.geometry (has_bit c.requires.bitmaps.geometry c.in_ok-to.to free.1) c.in_ok-to.ensures.puts)
    (puts_data p (bitmaps p) c.put-2.ensures (free.0, free.1))

pub returns-clause-bitmaps : goal.returns-clause-bitmaps
returns-clause-bitmaps g c = put_keeps_bitmaps c.in_ok-to.ensures.bitmaps c.put-2.ensures.store c.in_ok-to.ensures.taken.free.0 c.put-2.ensures.sectors

pub returns-clause-store : goal.returns-clause-store
returns-clause-store g c = store_joined c.in_ok-to.ensures.puts.store c.put-2.ensures.store

pub returns-clause-cause : goal.returns-clause-cause
returns-clause-cause g c = no_fault_of (store_joined c.in_ok-to.ensures.puts.store c.put-2.ensures.store)

use Rattle.std.proofs.Common.{◌∷◌, [], suc, refl, sym, arith, ap, subst}
use Rattle.fs_layout.specs.declared.inode.Inode.{Inode}
use Rattle.fs_layout.specs.Header.{log_end}
use Rattle.fs_layout.specs.Bytes.{zeros}
use Rattle.fs_layout.specs.Images.{holder}
use Rattle.sector_txn.proofs.TransactionRuns.{still_put, store_joined}
use Rattle.bit_alloc.specs.Room.{bitmaps}
use Rattle.block_map.specs.Steps.{AddsSector}
use Rattle.block_map.proofs.AddedPointers.{lists_sector, lists_at_hand}
use Rattle.block_map.proofs.Numbers.{listed_within}
use Rattle.block_map.proofs.Rewritten.{was_full}
use Rattle.block_map.proofs.Rooms.{lacking_beside, lacking_unput, puts_beside}
use Rattle.block_map.proofs.Wrote.{may_within, pointers_puts}
use Rattle.bit_alloc.proofs.Passing.{no_fault_of}
use Rattle.block_map.proofs.steps.list_sector.Goals as goal

pub take_sector-requires-clause-room : goal.take_sector-requires-clause-room
take_sector-requires-clause-room g c =
    let l = lacking_beside (g.S.Sectors.state c.args.s.now) c.args.above (bitmaps c.args.geometry) in
    omega (arith, l.0, c.requires.room)

pub returns-in_err-number-clause-full : goal.returns-in_err-number-clause-full
returns-in_err-number-clause-full g c = λ is.
    let e = c.from_residual.ensures in
    c.in_err-number.ensures.full (was_full c.from_residual.result c.in_err-number.field-0.0 e.0 e.1 is)

pub put-requires-clause-part : goal.put-requires-clause-part
put-requires-clause-part g c =
    omega (arith, (listed_within (g.S.Sectors.state c.args.s.now).header c.args.blocks.now.inode (suc c.args.level) (holder 1 c.args.i) (may_within c.requires.may) c.requires.above.0 c.requires.above.1).0, ap log_end c.in_ok-number.ensures.store.header)

pub put-requires-clause-on_disk : goal.put-requires-clause-on_disk
put-requires-clause-on_disk g c =
    omega (arith, (listed_within (g.S.Sectors.state c.args.s.now).header c.args.blocks.now.inode (suc c.args.level) (holder 1 c.args.i) (may_within c.requires.may) c.requires.above.0 c.requires.above.1).1, c.in_ok-number.ensures.store.reads.narrowed.size)

pub put-requires-clause-room : goal.put-requires-clause-room
put-requires-clause-room g c = λ none.
    let r = (puts_beside c.in_ok-number.ensures.taken.puts c.args.above).room in
    let z = lacking_unput (g.S.Sectors.state c.take_sector.new.s) c.args.above (bitmaps c.args.geometry) none in
    omega (arith, r, z, c.requires.room)

pub returns-clause-added : goal.returns-clause-added
unfolding zeros
returns-clause-added g c =
    subst (λ (w : Inode). AddsSector c.args.geometry (c.args.above ∷ []) c.args.level c.args.i (g.S.Sectors.state c.args.s.now) (g.S.Sectors.state c.put.new.self) c.args.blocks.now.inode w)
    (sym c.was_taken.ensures.inode)
    (lists_sector c.requires.may refl c.in_ok-number.ensures.taken.taken c.in_ok-number.ensures.taken.free c.in_ok-number.ensures.taken.tables c.requires.number.2 c.requires.above.1
    c.requires.content c.write_pointer.ensures c.put.ensures.sectors c.put.ensures.store
    (pointers_puts (suc c.args.level) (holder 1 c.args.i) c.requires.may c.requires.above.0 c.requires.above.1 c.in_ok-number.ensures.taken.puts c.put.ensures)
    (still_put c.put.ensures _ c.in_ok-number.ensures.taken.has) c.args.level c.requires.number.0 c.requires.above.0 c.requires.none c.requires.inside)

pub returns-clause-at_hand : goal.returns-clause-at_hand
unfolding zeros
returns-clause-at_hand g c =
    lists_at_hand c.requires.may refl c.in_ok-number.ensures.taken.taken c.in_ok-number.ensures.taken.free c.in_ok-number.ensures.taken.tables c.requires.number.2 c.requires.above.1
    c.requires.content c.write_pointer.ensures c.put.ensures.sectors c.put.ensures.store
    (pointers_puts (suc c.args.level) (holder 1 c.args.i) c.requires.may c.requires.above.0 c.requires.above.1 c.in_ok-number.ensures.taken.puts c.put.ensures)
    (still_put c.put.ensures _ c.in_ok-number.ensures.taken.has) c.args.level c.requires.number.0 c.requires.above.0 c.requires.none c.requires.at_hand refl c.was_taken.ensures

pub returns-clause-store : goal.returns-clause-store
returns-clause-store g c = store_joined c.in_ok-number.ensures.store c.put.ensures.store

pub returns-clause-cause : goal.returns-clause-cause
returns-clause-cause g c = no_fault_of (store_joined c.in_ok-number.ensures.store c.put.ensures.store)

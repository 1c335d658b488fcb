use Rattle.std.proofs.Common.{◌≡◌, ◌≢◌, ◌∷◌, ◌++◌, ℕ, List, refl, sym, ap, subst, ◌∙◌, arith, rules}
use Rattle.fs_layout.specs.Header.{log_end}
use Rattle.fs_layout.specs.declared.inode.Inode.{Inode}
use Rattle.fs_layout.specs.declared.inode.TheConstants.{DIRECT_BLOCKS}
use Rattle.fs_layout.specs.Images.{holder, pointer}
use Rattle.sector_txn.specs.Sectors.{lacking}
use Rattle.sector_txn.proofs.TransactionRuns.{store_joined, store_same}
use Rattle.bit_alloc.specs.Room.{bitmaps}
use Rattle.block_map.specs.Steps.{WritesBlock}
use Rattle.block_map.proofs.Numbers.{at_hand_near, listed_within, loaded_sector, number_within}
use Rattle.block_map.proofs.Rewritten.{was_full}
use Rattle.block_map.proofs.Rooms.{lacking_unput, puts_beside}
use Rattle.block_map.proofs.Writings.{there_at_hand, writes_block_there, direct_at_hand, writes_direct_block, entry_at_hand, pointers_are, writes_entry_block}
use Rattle.block_map.proofs.Wrote.{block_whole, may_within, rewrite_puts, pointers_puts}
use Rattle.block_map.proofs.Failing.{bitmap_cause}
use Rattle.bit_alloc.proofs.Passing.{no_fault_of, other_fault_on}
use Rattle.block_map.proofs.steps.write_loaded.Goals as goal

pub rewrite-requires-clause-part : goal.rewrite-requires-clause-part
rewrite-requires-clause-part g c =
    (number_within (g.S.Sectors.state c.args.s.now).header c.args.blocks.now.inode c.args.k (may_within c.requires.may) (c.number-number.ensures _ c.requires.loaded) c.if-number-ne0.true).0

pub rewrite-requires-clause-on_disk : goal.rewrite-requires-clause-on_disk
rewrite-requires-clause-on_disk g c =
    (number_within (g.S.Sectors.state c.args.s.now).header c.args.blocks.now.inode c.args.k (may_within c.requires.may) (c.number-number.ensures _ c.requires.loaded) c.if-number-ne0.true).1

pub rewrite-requires-clause-whole : goal.rewrite-requires-clause-whole
rewrite-requires-clause-whole g c =
    block_whole c.args.k c.requires.may (c.number-number.ensures (g.S.Sectors.state c.args.s.now).sectors c.requires.loaded) c.if-number-ne0.true

pub returns-then-number-ne0-clause-written : goal.returns-then-number-ne0-clause-written
returns-then-number-ne0-clause-written g c =
    let old = g.S.Sectors.state c.args.s.now in
    let p = c.args.geometry in
    let v = c.args.blocks.now.inode in
    let is : c.number-number.result ≡ pointer old.sectors v c.args.k = c.number-number.ensures old.sectors c.requires.loaded in
    writes_block_there (g.S.Sectors.state c.rewrite.new.s) c.args.k c.args.at c.args.bytes.now c.requires.may (sym is) c.if-number-ne0.true c.in_ok-rewrite.ensures.written c.requires.fits.0 (λ i. let f = c.type_inv.bytes i in search rules)
    (rewrite_puts c.args.k c.requires.may is c.if-number-ne0.true c.in_ok-rewrite.ensures.puts) c.requires.fits.1

pub returns-then-number-ne0-clause-at_hand : goal.returns-then-number-ne0-clause-at_hand
returns-then-number-ne0-clause-at_hand g c =
    let old = g.S.Sectors.state c.args.s.now in
    let is : c.number-number.result ≡ pointer old.sectors c.args.blocks.now.inode c.args.k = c.number-number.ensures old.sectors c.requires.loaded in
    there_at_hand (g.S.Sectors.state c.rewrite.new.s) c.args.k c.args.at c.args.bytes.now c.requires.may (sym is) c.if-number-ne0.true c.in_ok-rewrite.ensures.written c.requires.loaded.at_hand refl

pub returns-in_err-number-clause-full : goal.returns-in_err-number-clause-full
returns-in_err-number-clause-full g c = λ is.
    let old = g.S.Sectors.state c.args.s.now in
    let v = c.args.blocks.now.inode in
    let none : pointer old.sectors v c.args.k ≡ 0 = sym (c.number-number.ensures old.sectors c.requires.loaded) ∙ c.if-number-ne0.false in
    let e = c.from_residual-in_err-number.ensures in
    (none, c.in_err-number.ensures.full (was_full c.from_residual-in_err-number.result c.in_err-number.field-0.0 e.0 e.1 is))

pub put_pointer-requires-clause-within : goal.put_pointer-requires-clause-within
put_pointer-requires-clause-within g c =
    let ge = c.if-k-lt-DIRECT_BLOCKS.false in
    let sector = loaded_sector c.requires.loaded ge in
    let w = listed_within (g.S.Sectors.state c.args.s.now).header c.args.blocks.now.inode 1 (holder DIRECT_BLOCKS c.args.k) (may_within c.requires.may) (sym sector) (λ e. c.requires.pointers ge (sector ∙ e)) in
    (omega (arith, w.0, ap log_end c.in_ok-number.ensures.store.header), omega (arith, w.1, c.in_ok-number.ensures.store.reads.narrowed.size))

pub put_pointer-requires-clause-room : goal.put_pointer-requires-clause-room
put_pointer-requires-clause-room g c = λ none.
    let old = g.S.Sectors.state c.args.s.now in
    let v = c.args.blocks.now.inode in
    let u = c.args.blocks.now.sector in
    let ge = c.if-k-lt-DIRECT_BLOCKS.false in
    let e = ap (λ (ns : List ℕ). lacking old (ns ++ bitmaps c.args.geometry)) (pointers_are old.sectors v c.args.k ge) in
    let f = ap (λ (t : ℕ). lacking old (t ∷ bitmaps c.args.geometry)) (loaded_sector c.requires.loaded ge) in
    let r = (puts_beside c.in_ok-number.ensures.taken.puts u).room in
    let z = lacking_unput (g.S.Sectors.state c.take_block.new.s) u (bitmaps c.args.geometry) none in
    omega (arith, r, z, e, f, c.requires.room)

pub returns-then-k-lt-DIRECT_BLOCKS-clause-written : goal.returns-then-k-lt-DIRECT_BLOCKS-clause-written
returns-then-k-lt-DIRECT_BLOCKS-clause-written g c =
    let old = g.S.Sectors.state c.args.s.now in
    let none : pointer old.sectors c.args.blocks.now.inode c.args.k ≡ 0 = sym (c.number-number.ensures old.sectors c.requires.loaded) ∙ c.if-number-ne0.false in
    writes_direct_block c.args.at c.args.bytes.now c.requires.may none c.requires.fits.0 refl c.requires.fits.1 c.requires.inside
    c.in_ok-number.ensures.taken.taken c.in_ok-number.ensures.taken.free c.in_ok-number.ensures.taken.tables c.in_ok-number.ensures.taken.puts c.if-k-lt-DIRECT_BLOCKS.true

pub returns-then-k-lt-DIRECT_BLOCKS-clause-at_hand : goal.returns-then-k-lt-DIRECT_BLOCKS-clause-at_hand
returns-then-k-lt-DIRECT_BLOCKS-clause-at_hand g c =
    let old = g.S.Sectors.state c.args.s.now in
    let none : pointer old.sectors c.args.blocks.now.inode c.args.k ≡ 0 = sym (c.number-number.ensures old.sectors c.requires.loaded) ∙ c.if-number-ne0.false in
    at_hand_near c.in_ok-number.number (direct_at_hand c.args.at c.args.bytes.now c.requires.may none c.requires.fits.0 refl c.requires.fits.1 c.requires.inside
    c.in_ok-number.ensures.taken.taken c.in_ok-number.ensures.taken.free c.in_ok-number.ensures.taken.tables c.in_ok-number.ensures.taken.puts c.if-k-lt-DIRECT_BLOCKS.true c.requires.loaded.at_hand refl)

pub returns-else-k-lt-DIRECT_BLOCKS-clause-written : goal.returns-else-k-lt-DIRECT_BLOCKS-clause-written
returns-else-k-lt-DIRECT_BLOCKS-clause-written g c =
    let old = g.S.Sectors.state c.args.s.now in
    let v = c.args.blocks.now.inode in
    let ge = c.if-k-lt-DIRECT_BLOCKS.false in
    let sector = loaded_sector c.requires.loaded ge in
    let has : c.args.blocks.now.sector ≢ 0 = λ e. c.requires.pointers ge (sector ∙ e) in
    let none : pointer old.sectors v c.args.k ≡ 0 = sym (c.number-number.ensures old.sectors c.requires.loaded) ∙ c.if-number-ne0.false in
    subst (λ (w : Inode). WritesBlock c.args.geometry c.args.k c.args.at c.args.bytes.now old (g.S.Sectors.state c.put_pointer.new.s) v w) (sym c.put_pointer.ensures.inode)
    (writes_entry_block c.args.at c.args.bytes.now c.requires.may none c.requires.fits.0 refl c.requires.fits.1 c.requires.inside
    c.in_ok-number.ensures.taken.taken c.in_ok-number.ensures.taken.free c.in_ok-number.ensures.taken.tables ge (sym sector) has
    (c.requires.loaded.at_hand.is has) c.put_pointer.ensures.pointers c.put_pointer.ensures.put.sectors c.put_pointer.ensures.put.store (pointers_puts 1 (holder DIRECT_BLOCKS c.args.k) c.requires.may (sym sector) has c.in_ok-number.ensures.taken.puts c.put_pointer.ensures.put))

pub returns-else-k-lt-DIRECT_BLOCKS-clause-at_hand : goal.returns-else-k-lt-DIRECT_BLOCKS-clause-at_hand
returns-else-k-lt-DIRECT_BLOCKS-clause-at_hand g c =
    let ge = c.if-k-lt-DIRECT_BLOCKS.false in
    let sector = loaded_sector c.requires.loaded ge in
    let has : c.args.blocks.now.sector ≢ 0 = λ e. c.requires.pointers ge (sector ∙ e) in
    let none = sym (c.number-number.ensures (g.S.Sectors.state c.args.s.now).sectors c.requires.loaded) ∙ c.if-number-ne0.false in
    entry_at_hand c.args.at c.args.bytes.now c.requires.may none c.requires.fits.0 refl c.requires.fits.1 c.requires.inside
    c.in_ok-number.ensures.taken.taken c.in_ok-number.ensures.taken.free c.in_ok-number.ensures.taken.tables ge (sym sector) has
    (c.requires.loaded.at_hand.is has) c.put_pointer.ensures.pointers c.put_pointer.ensures.put.sectors c.put_pointer.ensures.put.store (pointers_puts 1 (holder DIRECT_BLOCKS c.args.k) c.requires.may (sym sector) has c.in_ok-number.ensures.taken.puts c.put_pointer.ensures.put)
    _ c.put_pointer.ensures.inode (c.put_pointer.ensures.here.0 ∙ c.requires.loaded.index ge) c.put_pointer.ensures.here.1 refl

pub returns-else-k-lt-DIRECT_BLOCKS-clause-store : goal.returns-else-k-lt-DIRECT_BLOCKS-clause-store
returns-else-k-lt-DIRECT_BLOCKS-clause-store g c = store_joined c.in_ok-number.ensures.store c.put_pointer.ensures.put.store

-- ---- where a call fails, and where none does
pub returns-in_err-number-clause-store : goal.returns-in_err-number-clause-store
returns-in_err-number-clause-store g c = c.in_err-number.ensures.store

pub returns-in_err-number-clause-cause : goal.returns-in_err-number-clause-cause
returns-in_err-number-clause-cause g c = bitmap_cause c.from_residual-in_err-number.result _ c.from_residual-in_err-number.ensures c.in_err-number.ensures.cause

pub returns-in_err-rewrite-clause-store : goal.returns-in_err-rewrite-clause-store
returns-in_err-rewrite-clause-store g c = c.in_err-rewrite.ensures.store

pub returns-in_err-rewrite-clause-cause : goal.returns-in_err-rewrite-clause-cause
returns-in_err-rewrite-clause-cause g c = other_fault_on (store_same {txn = g.S.Sectors.state c.args.s.now}) c.in_err-rewrite.ensures.cause c.from_residual.result c.from_residual.ensures.0

pub returns-then-number-ne0-clause-cause : goal.returns-then-number-ne0-clause-cause
returns-then-number-ne0-clause-cause g c = no_fault_of c.in_ok-rewrite.ensures.store

pub returns-then-number-ne0-clause-store : goal.returns-then-number-ne0-clause-store
returns-then-number-ne0-clause-store g c = c.in_ok-rewrite.ensures.store

pub returns-then-k-lt-DIRECT_BLOCKS-clause-cause : goal.returns-then-k-lt-DIRECT_BLOCKS-clause-cause
returns-then-k-lt-DIRECT_BLOCKS-clause-cause g c = no_fault_of c.in_ok-number.ensures.store

pub returns-then-k-lt-DIRECT_BLOCKS-clause-store : goal.returns-then-k-lt-DIRECT_BLOCKS-clause-store
returns-then-k-lt-DIRECT_BLOCKS-clause-store g c = c.in_ok-number.ensures.store

pub returns-else-k-lt-DIRECT_BLOCKS-clause-cause : goal.returns-else-k-lt-DIRECT_BLOCKS-clause-cause
returns-else-k-lt-DIRECT_BLOCKS-clause-cause g c = no_fault_of (store_joined c.in_ok-number.ensures.store c.put_pointer.ensures.put.store)

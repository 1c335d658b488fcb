use Rattle.std.proofs.Common.{rules, ◌≡◌, ◌≢◌, ◌/◌, ◌+◌, ◌*◌, ◌≤◌, ◌<◌, get_or, ℕ, List, [], length, sym, ap, subst, ◌∙◌, arith}
use Rattle.std.proofs.lemmas.List.{length-take-le}
use Rattle.fs_layout.specs.declared.inode.TheConstants.{DIRECT_BLOCKS, SECTOR_POINTERS}
use Rattle.fs_layout.specs.declared.geometry.Geometry.{Geometry}
use Rattle.fs_layout.specs.Bytes.{IsBytes, SectorMap}
use Rattle.fs_layout.specs.Header.{log_end}
use Rattle.fs_layout.specs.Images.{free_sectors, place_in_holder}
use Rattle.fs_layout.proofs.Places.{after_map, before_data}
use Rattle.sector_txn.specs.Sectors.{PutsOnly, TxnState}
use Rattle.sector_txn.proofs.TransactionRuns.{store_joined}
use Rattle.bit_alloc.specs.declared.bitmap.Bitmap.TheVariants.{Blocks as BlockMap}
use Rattle.bit_alloc.specs.Bitmaps.{HasBitmaps, IsNumberOf, IsSectorOf, TakesNumbers}
use Rattle.bit_alloc.specs.Room.{bitmaps}
use Rattle.block_map.specs.Steps.{FillsSectors}
use Rattle.block_map.proofs.Numbers.{loaded_sector}
use Rattle.block_map.proofs.Running.{loaded_data, run_written, run_puts}
use Rattle.block_map.proofs.Writings.{shares_pointers}
use Rattle.bit_alloc.proofs.Passing.{no_fault_of}
use Rattle.block_map.proofs.Failing.{bitmap_cause}
use Rattle.block_map.proofs.Rewritten.{was_full}
use Rattle.block_map.proofs.write.write_run.Goals as goal

-- numbers that were taken are those of sectors in the data
taken_within : {p : Geometry} {numbers : List ℕ} {count : ℕ} {old : SectorMap} {txn : TxnState} → HasBitmaps p txn → TakesNumbers p BlockMap numbers 0 count old txn.sectors
    → (i : ℕ) → i < count → (log_end txn.header ≤ get_or numbers i 0) × (get_or numbers i 0 < txn.disk.size)
taken_within h takes i low =
    let free = (takes.steps.each i (omega arith) low).free in
    let after = after_map h.geometry in
    let before = before_data h.geometry in
    (omega (arith, free.0, after, before, h.header), omega (arith, free.1, h.disk))

pub fill_sectors-requires-clause-within : goal.fill_sectors-requires-clause-within
fill_sectors-requires-clause-within g c = taken_within c.in_ok-take_all.ensures.bitmaps c.in_ok-take_all.ensures.taken

pub fill_sectors-requires-clause-long : goal.fill_sectors-requires-clause-long
fill_sectors-requires-clause-long g c =
    let count : ℕ = length c.args.bytes.now / 512 in
    let so_many : length c.take_all.new.numbers ≡ count = c.in_ok-take_all.ensures.len ∙ length-take-le count _ c.requires.run in
    c.requires.whole ∙ ap (λ (n : ℕ). 512 * n) (sym so_many)

pub fill_sectors-requires-clause-fits : goal.fill_sectors-requires-clause-fits
fill_sectors-requires-clause-fits g c =
    let count : ℕ = length c.args.bytes.now / 512 in
    let so_many : length c.take_all.new.numbers ≡ count = c.in_ok-take_all.ensures.len ∙ length-take-le count _ c.requires.run in
    subst (λ (n : ℕ). place_in_holder DIRECT_BLOCKS c.args.k + n ≤ SECTOR_POINTERS) (sym so_many) c.requires.listed.1

pub returns-in_err-take_all-clause-full : goal.returns-in_err-take_all-clause-full
returns-in_err-take_all-clause-full g c = λ is.
    let count : ℕ = length c.args.bytes.now / 512 in
    let e = c.from_residual.ensures in
    subst (λ (n : ℕ). free_sectors c.args.geometry (g.S.Sectors.state c.args.s.now).sectors < n) (length-take-le count _ c.requires.run)
    (c.in_err-take_all.ensures.full (was_full c.from_residual.result c.in_err-take_all.field-0.0 e.0 e.1 is))

pub put-requires-clause-part : goal.put-requires-clause-part
put-requires-clause-part g c =
    let store = store_joined c.in_ok-take_all.ensures.store c.fill_sectors.ensures.puts.store in
    let same = ap log_end store.header in
    let at = (loaded_data c.requires.may c.requires.loaded c.requires.listed.0 c.requires.pointers).0 in
    let after = after_map c.requires.may.bitmaps.geometry in
    let before = before_data c.requires.may.bitmaps.geometry in
    omega (arith, same, at, after, before, c.requires.may.bitmaps.header)

pub put-requires-clause-on_disk : goal.put-requires-clause-on_disk
put-requires-clause-on_disk g c =
    let store = store_joined c.in_ok-take_all.ensures.store c.fill_sectors.ensures.puts.store in
    let at = (loaded_data c.requires.may c.requires.loaded c.requires.listed.0 c.requires.pointers).1 in
    omega (arith, at, store.reads.narrowed.size, c.requires.may.bitmaps.disk)

pub returns-clause-written : goal.returns-clause-written
returns-clause-written g c =
    let p = c.args.geometry in
    let old = g.S.Sectors.state c.args.s.now in
    let one = g.S.Sectors.state c.take_all.new.s in
    let two = g.S.Sectors.state c.fill_sectors.new.s in
    let numbers : List ℕ = c.take_all.new.numbers in
    let count : ℕ = length c.args.bytes.now / 512 in
    let so_many : length numbers ≡ count = c.in_ok-take_all.ensures.len ∙ length-take-le count _ (omega (arith, c.requires.run)) in
    let takes : TakesNumbers p BlockMap numbers 0 count old.sectors one.sectors =
    subst (λ (n : ℕ). TakesNumbers p BlockMap numbers 0 n old.sectors one.sectors) so_many c.in_ok-take_all.ensures.taken in
    let fills : FillsSectors (place_in_holder DIRECT_BLOCKS c.args.k) count numbers c.args.bytes.now one.sectors two.sectors c.args.blocks.now.pointers c.fill_sectors.new.pointers =
    subst (λ (n : ℕ). FillsSectors (place_in_holder DIRECT_BLOCKS c.args.k) n numbers c.args.bytes.now one.sectors two.sectors c.args.blocks.now.pointers c.fill_sectors.new.pointers) so_many
    c.fill_sectors.ensures.filled in
    let marks : PutsOnly (IsSectorOf p BlockMap (IsNumberOf numbers 0 count)) (bitmaps p) 0 old one =
    subst (λ (n : ℕ). PutsOnly (IsSectorOf p BlockMap (IsNumberOf numbers 0 n)) (bitmaps p) 0 old one) so_many c.in_ok-take_all.ensures.puts in
    let puts : PutsOnly (IsNumberOf numbers 0 count) [] count one two = subst (λ (n : ℕ). PutsOnly (IsNumberOf numbers 0 n) [] n one two) so_many c.fill_sectors.ensures.puts in
    let some : c.args.blocks.now.sector ≢ 0 = λ e. c.requires.pointers (loaded_sector c.requires.loaded c.requires.listed.0 ∙ e) in
    let fine : IsBytes c.args.bytes.now = λ i. let f = c.type_inv.bytes i in search rules in
    run_written c.requires.may c.requires.listed.0 c.requires.listed.1 (sym (loaded_sector c.requires.loaded c.requires.listed.0)) some (c.requires.loaded.at_hand.is some) c.requires.holes fine c.requires.whole c.requires.inside
    takes fills c.put.ensures.sectors (store_joined (store_joined c.in_ok-take_all.ensures.store c.fill_sectors.ensures.puts.store) c.put.ensures.store)
    (shares_pointers p c.args.blocks.now.inode c.args.k c.requires.listed.0 (sym (loaded_sector c.requires.loaded c.requires.listed.0)) (run_puts c.requires.may.bitmaps.geometry takes marks puts c.put.ensures (loaded_data c.requires.may c.requires.loaded c.requires.listed.0 c.requires.pointers)))

pub returns-clause-at_hand : goal.returns-clause-at_hand
returns-clause-at_hand g c =
    let some : c.args.blocks.now.sector ≢ 0 = λ e. c.requires.pointers (loaded_sector c.requires.loaded c.requires.listed.0 ∙ e) in
    record {
      number = (returns-clause-written g c).pointers c.args.blocks.now.index ∙ c.requires.loaded.at_hand.number;
      is = λ has. sym c.put.ensures.sectors.here;
      none = λ zero. absurd (some zero);
    }

pub returns-clause-store : goal.returns-clause-store
returns-clause-store g c = store_joined (store_joined c.in_ok-take_all.ensures.store c.fill_sectors.ensures.puts.store) c.put.ensures.store

pub returns-clause-cause : goal.returns-clause-cause
returns-clause-cause g c = no_fault_of (store_joined (store_joined c.in_ok-take_all.ensures.store c.fill_sectors.ensures.puts.store) c.put.ensures.store)

-- ---- where a call fails, and where none does
pub returns-in_err-take_all-clause-store : goal.returns-in_err-take_all-clause-store
returns-in_err-take_all-clause-store g c = c.in_err-take_all.ensures.store

pub returns-in_err-take_all-clause-cause : goal.returns-in_err-take_all-clause-cause
returns-in_err-take_all-clause-cause g c = bitmap_cause c.from_residual.result _ c.from_residual.ensures c.in_err-take_all.ensures.cause

use Rattle.std.proofs.Common.{◌≡◌, ℕ, ◌+◌, ◌-◌, ◌*◌, ◌/◌, ◌≤◌, ◌⊎◌, List, length, take, drop, sym, ap, subst, ◌∙◌, arith, inl, inr, Err}
use Rattle.std.proofs.lemmas.Bool.{cases_lt}
use Rattle.sector_txn.proofs.TransactionRuns.{store_joined, store_same}
use Rattle.block_map.specs.declared.fault.MapFault.TheVariants.{Full}
use Rattle.block_map.specs.declared.write.TheConstants.{MAX_RUN}
use Rattle.block_map.specs.Steps.{WritesRun, HasRoomFor, pointers_of, pointers_to}
use Rattle.block_map.proofs.Alterings.{may_after}
use Rattle.block_map.proofs.Loops.{store_so_far, IsWritten, none_written, written_then, more_written, run_of, part_long, run_more, all_written, block_lacks, run_lacks, room_for_blocks, pointers_lack}
use Rattle.block_map.proofs.Numbers.{loaded_unchanged}
use Rattle.bit_alloc.proofs.Passing.{cause_on, other_fault_on, no_fault_of}
use Rattle.block_map.proofs.Runs.{same_fault}
use Rattle.block_map.proofs.Wrote.{may_within}
use Rattle.block_map.proofs.write.write_blocks.Goals as goal

pub add_pointers-requires-clause-inside : goal.add_pointers-requires-clause-inside
add_pointers-requires-clause-inside g c = (
  λ far. omega (arith, far, c.div_ceil-end.ensures, c.requires.inside.0),
  omega (arith, c.div_ceil-end.ensures),
  omega (arith, c.div_ceil-end.ensures, c.requires.inside.0, c.requires.inside.1),
)

pub loop-k-init : goal.loop-k-init
loop-k-init g c = record {
  from = omega arith;
  within = omega (arith, c.div_ceil-end.ensures);
  at_hand = c.in_ok-add_pointers.ensures.at_hand;
  written = none_written _ (may_after c.requires.may c.in_ok-add_pointers.ensures.added.alters) (omega arith);
}

pub load-requires-clause-within : goal.load-requires-clause-within
load-requires-clause-within g c = may_within c.loop-k.invariant.written.may

pub returns-in_err-load-clause-store : goal.returns-in_err-load-clause-store
returns-in_err-load-clause-store g c =
    store_joined (store_joined c.in_ok-add_pointers.ensures.store c.loop-k.invariant.written.puts.store) c.in_err-load.ensures.same.store

pub returns-in_err-load-clause-cause : goal.returns-in_err-load-clause-cause
returns-in_err-load-clause-cause g c =
    other_fault_on (store_joined c.in_ok-add_pointers.ensures.store c.loop-k.invariant.written.puts.store) c.in_err-load.ensures.cause c.from_residual-in_err-load.result
    c.from_residual-in_err-load.ensures.0

-- ---- a run
pub write_run-requires-clause-may : goal.write_run-requires-clause-may
write_run-requires-clause-may g c = (written_then c.loop-k.invariant.written c.in_ok-load.ensures.same c.in_ok-load.ensures.inode).may

pub write_run-requires-clause-loaded : goal.write_run-requires-clause-loaded
write_run-requires-clause-loaded g c = loaded_unchanged c.in_ok-load.ensures.same c.in_ok-load.ensures.loaded

pub write_run-requires-clause-pointers : goal.write_run-requires-clause-pointers
write_run-requires-clause-pointers g c = λ e.
    let so_far = written_then c.loop-k.invariant.written c.in_ok-load.ensures.same c.in_ok-load.ensures.inode in
    let far = (c.run_of_holes-run.ensures.listed c.if-run-gt0.true).0 in
    c.in_ok-add_pointers.ensures.added.has c.loop-k.k c.loop-k.invariant.from c.loop-k-test.true far (sym (so_far.pointers _) ∙ e)

pub write_run-requires-clause-run : goal.write_run-requires-clause-run
write_run-requires-clause-run g c =
    let x = c.args.bytes.now in
    let done = c.saturating_sub-done.result in
    let run = c.run_of_holes-run.result in
    let is = run_of x c.args.offset c.loop-k.k done run c.div_ceil-end.result c.if-run-gt0.true c.run_of_holes-run.ensures.most.0 c.whole_blocks.ensures.first c.whole_blocks.ensures.within
    (omega (arith, c.saturating_sub-at.ensures)) (omega (arith, c.saturating_sub-done.ensures)) (omega (arith, c.div_ceil-end.ensures)) c.loop-k-test.true in
    subst (λ (n : ℕ). n ≤ MAX_RUN) (sym is.count) c.run_of_holes-run.ensures.most.1

pub write_run-requires-clause-whole : goal.write_run-requires-clause-whole
write_run-requires-clause-whole g c =
    let x = c.args.bytes.now in
    let done = c.saturating_sub-done.result in
    let run = c.run_of_holes-run.result in
    let is = run_of x c.args.offset c.loop-k.k done run c.div_ceil-end.result c.if-run-gt0.true c.run_of_holes-run.ensures.most.0 c.whole_blocks.ensures.first c.whole_blocks.ensures.within
    (omega (arith, c.saturating_sub-at.ensures)) (omega (arith, c.saturating_sub-done.ensures)) (omega (arith, c.div_ceil-end.ensures)) c.loop-k-test.true in
    is.long ∙ ap (λ (n : ℕ). 512 * n) (sym is.count)

pub write_run-requires-clause-inside : goal.write_run-requires-clause-inside
write_run-requires-clause-inside g c =
    let x = c.args.bytes.now in
    let done = c.saturating_sub-done.result in
    let run = c.run_of_holes-run.result in
    let is = run_of x c.args.offset c.loop-k.k done run c.div_ceil-end.result c.if-run-gt0.true c.run_of_holes-run.ensures.most.0 c.whole_blocks.ensures.first c.whole_blocks.ensures.within
    (omega (arith, c.saturating_sub-at.ensures)) (omega (arith, c.saturating_sub-done.ensures)) (omega (arith, c.div_ceil-end.ensures)) c.loop-k-test.true in
    let so_far = written_then c.loop-k.invariant.written c.in_ok-load.ensures.same c.in_ok-load.ensures.inode in
    let size = c.in_ok-add_pointers.ensures.added.size in
    omega (arith, is.long, is.begins, is.fits, size, so_far.size, c.requires.inside.0)

pub write_run-requires-clause-listed : goal.write_run-requires-clause-listed
write_run-requires-clause-listed g c =
    let x = c.args.bytes.now in
    let done = c.saturating_sub-done.result in
    let run = c.run_of_holes-run.result in
    let is = run_of x c.args.offset c.loop-k.k done run c.div_ceil-end.result c.if-run-gt0.true c.run_of_holes-run.ensures.most.0 c.whole_blocks.ensures.first c.whole_blocks.ensures.within
    (omega (arith, c.saturating_sub-at.ensures)) (omega (arith, c.saturating_sub-done.ensures)) (omega (arith, c.div_ceil-end.ensures)) c.loop-k-test.true in
    let listed = c.run_of_holes-run.ensures.listed c.if-run-gt0.true in
    (listed.0, (let fits = listed.1 in omega (arith, fits, is.count)))

pub write_run-requires-clause-holes : goal.write_run-requires-clause-holes
write_run-requires-clause-holes g c = λ j low high.
    let x = c.args.bytes.now in
    let done = c.saturating_sub-done.result in
    let run = c.run_of_holes-run.result in
    let is = run_of x c.args.offset c.loop-k.k done run c.div_ceil-end.result c.if-run-gt0.true c.run_of_holes-run.ensures.most.0 c.whole_blocks.ensures.first c.whole_blocks.ensures.within
    (omega (arith, c.saturating_sub-at.ensures)) (omega (arith, c.saturating_sub-done.ensures)) (omega (arith, c.div_ceil-end.ensures)) c.loop-k-test.true in
    c.run_of_holes-run.ensures.holes (g.S.Sectors.state c.load.new.s).sectors (loaded_unchanged c.in_ok-load.ensures.same c.in_ok-load.ensures.loaded) j low (omega (arith, high, is.count))

pub write_run-requires-clause-room : goal.write_run-requires-clause-room
write_run-requires-clause-room g c =
    let x = c.args.bytes.now in
    let done = c.saturating_sub-done.result in
    let run = c.run_of_holes-run.result in
    let is = run_of x c.args.offset c.loop-k.k done run c.div_ceil-end.result c.if-run-gt0.true c.run_of_holes-run.ensures.most.0 c.whole_blocks.ensures.first c.whole_blocks.ensures.within
    (omega (arith, c.saturating_sub-at.ensures)) (omega (arith, c.saturating_sub-done.ensures)) (omega (arith, c.div_ceil-end.ensures)) c.loop-k-test.true in
    subst (λ (n : ℕ). HasRoomFor c.args.geometry (pointers_to (g.S.Sectors.state c.load.new.s).sectors c.load.new.self.inode c.loop-k.k) n (g.S.Sectors.state c.load.new.s)) (sym is.count)
    (room_for_blocks c.args.offset c.args.bytes.now c.in_ok-add_pointers.ensures.added (omega (arith, c.div_ceil-end.ensures)) (written_then c.loop-k.invariant.written c.in_ok-load.ensures.same c.in_ok-load.ensures.inode) c.loop-k.invariant.from c.loop-k-test.true
    run is.within c.requires.room)

pub returns-in_err-write_run-clause-full : goal.returns-in_err-write_run-clause-full
returns-in_err-write_run-clause-full g c = λ full.
    let x = c.args.bytes.now in
    let done = c.saturating_sub-done.result in
    let run = c.run_of_holes-run.result in
    let is = run_of x c.args.offset c.loop-k.k done run c.div_ceil-end.result c.if-run-gt0.true c.run_of_holes-run.ensures.most.0 c.whole_blocks.ensures.first c.whole_blocks.ensures.within
    (omega (arith, c.saturating_sub-at.ensures)) (omega (arith, c.saturating_sub-done.ensures)) (omega (arith, c.div_ceil-end.ensures)) c.loop-k-test.true in
    let e = c.from_residual-in_err-write_run.ensures in
    let f = c.in_err-write_run.ensures.full (ap Err (same_fault c.from_residual-in_err-write_run.result c.in_err-write_run.field-0.0 Full e.0 e.1 full)) in
    run_lacks c.args.offset x c.in_ok-add_pointers.ensures.added (omega (arith, c.div_ceil-end.ensures)) (written_then c.loop-k.invariant.written c.in_ok-load.ensures.same c.in_ok-load.ensures.inode) c.loop-k.invariant.from c.loop-k-test.true run is.within
    (c.run_of_holes-run.ensures.holes (g.S.Sectors.state c.load.new.s).sectors (loaded_unchanged c.in_ok-load.ensures.same c.in_ok-load.ensures.loaded)) (omega (arith, f, is.count))

pub returns-in_err-write_run-clause-store : goal.returns-in_err-write_run-clause-store
returns-in_err-write_run-clause-store g c = store_joined (store_so_far c.in_ok-add_pointers.ensures.store c.loop-k.invariant.written c.in_ok-load.ensures.same) c.in_err-write_run.ensures.store

pub returns-in_err-write_run-clause-cause : goal.returns-in_err-write_run-clause-cause
returns-in_err-write_run-clause-cause g c = cause_on (store_so_far c.in_ok-add_pointers.ensures.store c.loop-k.invariant.written c.in_ok-load.ensures.same) c.in_err-write_run.ensures.cause c.from_residual-in_err-write_run.result c.from_residual-in_err-write_run.ensures

pub loop-k-preserved-then-run-gt0 : goal.loop-k-preserved-then-run-gt0
loop-k-preserved-then-run-gt0 g c =
    let x = c.args.bytes.now in
    let done = c.saturating_sub-done.result in
    let run = c.run_of_holes-run.result in
    let is = run_of x c.args.offset c.loop-k.k done run c.div_ceil-end.result c.if-run-gt0.true c.run_of_holes-run.ensures.most.0 c.whole_blocks.ensures.first c.whole_blocks.ensures.within
    (omega (arith, c.saturating_sub-at.ensures)) (omega (arith, c.saturating_sub-done.ensures)) (omega (arith, c.div_ceil-end.ensures)) c.loop-k-test.true in
    let now = g.S.Sectors.state c.load.new.s in
    let new = g.S.Sectors.state c.write_run.new.s in
    let piece : List ℕ = take (done + 512 * run - done) (drop done x) in
    let step : WritesRun c.args.geometry c.loop-k.k run piece now new c.load.new.self.inode c.write_run.new.blocks.inode =
    subst (λ (n : ℕ). WritesRun c.args.geometry c.loop-k.k n piece now new c.load.new.self.inode c.write_run.new.blocks.inode) is.count c.in_ok-write_run.ensures.written in
    let long : done + 512 * run - done ≡ 512 * run = omega arith in
    record {
      from = omega (arith, c.loop-k.invariant.from);
      within = is.within;
      at_hand = c.in_ok-write_run.ensures.at_hand;
      written = run_more done (written_then c.loop-k.invariant.written c.in_ok-load.ensures.same c.in_ok-load.ensures.inode) step c.loop-k.invariant.from c.if-run-gt0.true is.within
          is.begins (omega (arith, c.saturating_sub-done.ensures)) (ap (λ (n : ℕ). take n (drop done x)) long)
          is.fits (c.run_of_holes-run.ensures.holes now.sectors (loaded_unchanged c.in_ok-load.ensures.same c.in_ok-load.ensures.loaded))
          (let z = c.in_ok-add_pointers.ensures.added.size in omega (arith, z, c.requires.inside.0));
    }

-- ---- one block
pub write_loaded-requires-clause-may : goal.write_loaded-requires-clause-may
write_loaded-requires-clause-may g c = (written_then c.loop-k.invariant.written c.in_ok-load.ensures.same c.in_ok-load.ensures.inode).may

pub write_loaded-requires-clause-loaded : goal.write_loaded-requires-clause-loaded
write_loaded-requires-clause-loaded g c = loaded_unchanged c.in_ok-load.ensures.same c.in_ok-load.ensures.loaded

pub write_loaded-requires-clause-pointers : goal.write_loaded-requires-clause-pointers
write_loaded-requires-clause-pointers g c = λ far e.
    let so_far = written_then c.loop-k.invariant.written c.in_ok-load.ensures.same c.in_ok-load.ensures.inode in
    c.in_ok-add_pointers.ensures.added.has c.loop-k.k c.loop-k.invariant.from c.loop-k-test.true far (sym (so_far.pointers _) ∙ e)

pub write_loaded-requires-clause-fits : goal.write_loaded-requires-clause-fits
write_loaded-requires-clause-fits g c =
    let few : c.saturating_sub-done.result + c.min-len.result ≤ length c.args.bytes.now = omega (arith, c.min-len.ensures, c.saturating_sub-done.ensures, c.div_ceil-end.ensures, c.loop-k-test.true) in
    let long = part_long c.args.bytes.now c.saturating_sub-done.result c.min-len.result few in
    let so_far = written_then c.loop-k.invariant.written c.in_ok-load.ensures.same c.in_ok-load.ensures.inode in
    let size = c.in_ok-add_pointers.ensures.added.size in
    (omega (arith, long, c.min-len.ensures, c.saturating_sub-at.ensures, c.loop-k.invariant.from), omega (arith, long, few, c.saturating_sub-done.ensures, c.saturating_sub-at.ensures, c.loop-k.invariant.from, size, so_far.size, c.requires.inside.0))

pub write_loaded-requires-clause-room : goal.write_loaded-requires-clause-room
write_loaded-requires-clause-room g c =
    room_for_blocks c.args.offset c.args.bytes.now c.in_ok-add_pointers.ensures.added (omega (arith, c.div_ceil-end.ensures)) (written_then c.loop-k.invariant.written c.in_ok-load.ensures.same c.in_ok-load.ensures.inode) c.loop-k.invariant.from c.loop-k-test.true
    1 (omega (arith, c.loop-k-test.true)) c.requires.room

pub returns-in_err-write_loaded-clause-full : goal.returns-in_err-write_loaded-clause-full
returns-in_err-write_loaded-clause-full g c = λ is.
    let e = c.from_residual-in_err-write_loaded.ensures in
    let f = c.in_err-write_loaded.ensures.full (ap Err (same_fault c.from_residual-in_err-write_loaded.result c.in_err-write_loaded.field-0.0 Full e.0 e.1 is)) in
    block_lacks c.args.offset c.args.bytes.now c.in_ok-add_pointers.ensures.added (omega (arith, c.div_ceil-end.ensures)) (written_then c.loop-k.invariant.written c.in_ok-load.ensures.same c.in_ok-load.ensures.inode) c.loop-k.invariant.from c.loop-k-test.true f.0 f.1

pub returns-in_err-write_loaded-clause-store : goal.returns-in_err-write_loaded-clause-store
returns-in_err-write_loaded-clause-store g c = store_joined (store_so_far c.in_ok-add_pointers.ensures.store c.loop-k.invariant.written c.in_ok-load.ensures.same) c.in_err-write_loaded.ensures.store

pub returns-in_err-write_loaded-clause-cause : goal.returns-in_err-write_loaded-clause-cause
returns-in_err-write_loaded-clause-cause g c = cause_on (store_so_far c.in_ok-add_pointers.ensures.store c.loop-k.invariant.written c.in_ok-load.ensures.same) c.in_err-write_loaded.ensures.cause c.from_residual-in_err-write_loaded.result c.from_residual-in_err-write_loaded.ensures

pub loop-k-preserved : goal.loop-k-preserved
loop-k-preserved g c =
    let x = c.args.bytes.now in
    let done = c.saturating_sub-done.result in
    let at = c.saturating_sub-at.result in
    let len = c.min-len.result in
    let k = c.loop-k.k in
    let p = c.args.offset in
    let few : done + len ≤ length x = omega (arith, c.min-len.ensures, c.saturating_sub-done.ensures, c.div_ceil-end.ensures, c.loop-k-test.true) in
    let piece : take (done + len - done) (drop done x) ≡ take len (drop done x) = let n : done + len - done ≡ len = omega arith in ap (λ (m : ℕ). take m (drop done x)) n in
    let ends : ((length x ≤ 512 * (k + 1) - p) × (done + len ≡ length x)) ⊎ (done + len ≡ 512 * (k + 1) - p) = elim (cases_lt (length x - done) (512 - at)) [
      | inl lt ↦ inl (
        omega (arith, lt, c.min-len.ensures, c.saturating_sub-done.ensures, c.saturating_sub-at.ensures, c.loop-k.invariant.from),
        omega (arith, lt, few, c.min-len.ensures, c.saturating_sub-done.ensures, c.div_ceil-end.ensures, c.loop-k-test.true),
      )
      | inr ge ↦ inr (omega (arith, ge, c.min-len.ensures, c.saturating_sub-done.ensures, c.saturating_sub-at.ensures, c.loop-k.invariant.from))
    ] in
    record {
      from = omega (arith, c.loop-k.invariant.from);
      within = omega (arith, c.loop-k-test.true);
      at_hand = c.in_ok-write_loaded.ensures.at_hand;
      written = more_written done len (written_then c.loop-k.invariant.written c.in_ok-load.ensures.same c.in_ok-load.ensures.inode) c.in_ok-write_loaded.ensures.written c.loop-k.invariant.from c.loop-k-test.true
          (omega (arith, c.saturating_sub-done.ensures, c.saturating_sub-at.ensures)) (omega (arith, c.saturating_sub-done.ensures)) piece few ends
          (let z = c.in_ok-add_pointers.ensures.added.size in omega (arith, z, c.requires.inside.0));
    }

-- ---- all of it
pub returns-clause-written : goal.returns-clause-written
returns-clause-written g c =
    let k = c.loop-k.k in
    let end = c.div_ceil-end.result in
    let mid = g.S.Sectors.state c.add_pointers.new.s in
    let v = c.add_pointers.new.blocks.inode in
    let done : k ≡ end = (let within = c.loop-k.invariant.within in omega (arith, c.loop-k-test.false, within)) in
    all_written c.args.offset c.args.bytes.now c.in_ok-add_pointers.ensures.added (omega (arith, c.div_ceil-end.ensures))
    (subst (λ (m : ℕ). IsWritten c.args.geometry (pointers_of mid.sectors v (c.args.offset / 512) end) c.args.offset (c.args.offset / 512) m c.args.bytes.now mid (g.S.Sectors.state c.loop-k.s) v c.loop-k.blocks.inode)
    done c.loop-k.invariant.written) (omega (arith, c.loop-k.invariant.from, done))

pub returns-in_err-add_pointers-clause-full : goal.returns-in_err-add_pointers-clause-full
returns-in_err-add_pointers-clause-full g c = λ is.
    let e = c.from_residual.ensures in
    let f = c.in_err-add_pointers.ensures.full (ap Err (same_fault c.from_residual.result c.in_err-add_pointers.field-0.0 Full e.0 e.1 is)) in
    pointers_lack c.args.geometry c.args.offset c.div_ceil-end.result c.args.bytes.now (g.S.Sectors.state c.args.s.now) c.args.blocks.now.inode (omega (arith, c.div_ceil-end.ensures)) f

pub returns-clause-store : goal.returns-clause-store
returns-clause-store g c = store_joined c.in_ok-add_pointers.ensures.store c.loop-k.invariant.written.puts.store

-- ---- where a call fails, and where none does
pub returns-in_err-add_pointers-clause-store : goal.returns-in_err-add_pointers-clause-store
returns-in_err-add_pointers-clause-store g c = c.in_err-add_pointers.ensures.store

pub returns-in_err-add_pointers-clause-cause : goal.returns-in_err-add_pointers-clause-cause
returns-in_err-add_pointers-clause-cause g c = cause_on (store_same {txn = g.S.Sectors.state c.args.s.now}) c.in_err-add_pointers.ensures.cause c.from_residual.result c.from_residual.ensures

pub returns-clause-cause : goal.returns-clause-cause
returns-clause-cause g c = no_fault_of (store_joined c.in_ok-add_pointers.ensures.store c.loop-k.invariant.written.puts.store)

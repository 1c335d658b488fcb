use Rattle.std.proofs.Common.{◌≡◌, ◌∙◌, ◌+◌, ◌^◌, ◌<◌, ◌≤◌, ℕ, ap, arith, length, subst, sym, replicate}
use Rattle.std.specs.Prelude.{vec_len}
use Rattle.std.proofs.lemmas.List.{length-replicate}
use Rattle.sector_disk.specs.Disk.{Image, IsFresh}
use Rattle.sector_disk.specs.Record.{recorded_state}
use Rattle.sector_disk.proofs.Placed.{run_all}
use Rattle.sector_disk.proofs.memory.MemDisk.from_sectors.Goals as goal

pub returns : goal.returns
returns c =
    let disk = c.with_sectors.result in
    let sectors = c.deref.result.now in
    let size = ap (λ (i : Image). length i) c.in_ok-kept.ensures ∙ length-replicate c.len.result (replicate 512 0) in
    let all = c.deref.ensures.len ∙ sym c.len.ensures in
    subst (λ (i : Image). IsFresh (recorded_state disk.history disk.failures) i)
    (run_all c.len.result sectors c.in_ok-kept.kept.shown c.set_run.new.self.shown size all c.in_ok-set_run.ensures ∙ c.deref.ensures.value) c.with_sectors.ensures

-- as many as the list has
sized : {count : ℕ} (kept : Image) (all : ℕ) → kept ≡ replicate count (replicate 512 0) → count ≡ all
    → length kept ≡ all
sized {count} kept all is same =
    ap (λ (i : Image). length i) is ∙ length-replicate count (replicate 512 0) ∙ same

-- and the list fits
fitting : {run kept all : ℕ} → run ≡ all → kept ≡ all → 0 + run ≤ kept
fitting run kept = omega (arith, run, kept)

pub set_run-requires-clause-small : goal.set_run-requires-clause-small
set_run-requires-clause-small c =
    let size = sized c.in_ok-kept.kept.shown (vec_len c.args.sectors) c.in_ok-kept.ensures c.len.ensures in
    subst (λ n. n < 2 ^ 32) (sym size) c.requires

pub set_run-requires-clause-fits : goal.set_run-requires-clause-fits
set_run-requires-clause-fits c =
    let size = sized c.in_ok-kept.kept.shown (vec_len c.args.sectors) c.in_ok-kept.ensures c.len.ensures in
    fitting c.deref.ensures.len size

pub with_sectors-requires : goal.with_sectors-requires
with_sectors-requires c =
    let size = sized c.in_ok-kept.kept.shown (vec_len c.args.sectors) c.in_ok-kept.ensures c.len.ensures in
    subst (λ n. n < 2 ^ 32) (sym (c.in_ok-set_run.ensures.len ∙ size)) c.requires

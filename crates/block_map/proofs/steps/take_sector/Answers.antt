use Rattle.std.proofs.Common.{ℕ, ◌+◌, sym, ap, ◌∙◌, arith, inl, inr, rules}
use Rattle.sector_txn.proofs.TransactionRuns.{changes_put, changes_weaker}
use Rattle.block_map.specs.Steps.{IsStepSector}
use Rattle.bit_alloc.proofs.Soundness.{put_keeps_bitmaps}
use Rattle.block_map.proofs.Writings.{free_after_put}
use Rattle.block_map.proofs.steps.take_sector.Goals as goal

pub returns-clause-taken : goal.returns-clause-taken
returns-clause-taken g c =
    let p = c.args.geometry in
    let taken = c.in_ok-number.ensures.taken in
    let bits = c.requires.bitmaps.geometry.bits in
    record {
      bits = (g.S.Sectors.state c.take.new.s).sectors;
      taken = search rules;
      free = taken.count ∙ ap (λ (k : ℕ). k + 1) (sym (free_after_put c.requires.bitmaps.geometry taken.free.0 c.put.ensures.sectors));
      has = search rules;
      puts = changes_put {R = IsStepSector p} {more = 0}
          (changes_weaker {Q = IsStepSector p} (λ t e. inl (omega (arith, e), omega (arith, e, bits, taken.free.1))) (omega arith) c.in_ok-number.ensures.puts) c.put.ensures
          (inr (taken.free.0, taken.free.1));
      tables = put_keeps_bitmaps c.in_ok-number.ensures.bitmaps c.put.ensures.store taken.free.0 c.put.ensures.sectors;
    }

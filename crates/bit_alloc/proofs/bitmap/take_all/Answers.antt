use Rattle.std.proofs.Common.{◌≡◌, ◌<◌, ◌∙◌, refl, subst, arith, ℕ, List, length, get_or}
use Rattle.std.proofs.lemmas.Result.{IfOk-from_err}
use Rattle.sector_txn.specs.Sectors.{PutsOnly}
use Rattle.bit_alloc.specs.Bitmaps.{IsNumberOf, IsSectorOf, TakesNumbers}
use Rattle.sector_txn.proofs.TransactionRuns.{changes_nothing, store_joined}
use Rattle.bit_alloc.specs.Room.{bitmaps}
use Rattle.bit_alloc.proofs.Listed.{listed_puts}
use Rattle.bit_alloc.proofs.Passing.{through_try, cause_on, no_fault_of}
use Rattle.bit_alloc.proofs.Soundness.{spare_then}
use Rattle.bit_alloc.proofs.Taking.{takes_none, takes_joined, fewer_free, listed_puts_same}
use Rattle.bit_alloc.proofs.bitmap.take_all.Goals as goal

pub loop-at-init : goal.loop-at-init
loop-at-init g c = record {
  within = omega arith;
  len = refl;
  taken = takes_none;
  puts = changes_nothing (bitmaps c.args.geometry);
  bitmaps = c.requires.bitmaps;
}

pub take_next-requires-clause-room : goal.take_next-requires-clause-room
take_next-requires-clause-room g c = spare_then c.args.geometry 0 0 _ _ (omega (arith, c.requires.room)) c.loop-at.invariant.puts

pub loop-at-preserved : goal.loop-at-preserved
loop-at-preserved g c =
    let x = c.loop-at.invariant in
    let more = c.in_ok-at.ensures.more in
    let same : (j : ℕ) → j < c.loop-at.at → get_or c.take_next.new.numbers j 0 ≡ get_or c.loop-at.numbers j 0 = c.take_next.ensures.before in
    record {
      within = omega (arith, c.in_ok-at.ensures.within, c.take_next.ensures.len);
      len = c.take_next.ensures.len ∙ x.len;
      taken = takes_joined x.taken same (omega arith) more c.in_ok-at.ensures.taken;
      puts = listed_puts (omega arith) (omega (arith, more)) (listed_puts_same same x.puts) c.in_ok-at.ensures.puts;
      bitmaps = c.in_ok-at.ensures.bitmaps;
    }

pub returns-in_err-at-clause-full : goal.returns-in_err-at-clause-full
returns-in_err-at-clause-full g c =
    let x = c.loop-at.invariant in
    through_try _ c.from_residual.result c.in_err-at.field-0.0 c.from_residual.ensures (λ is.
    let none = c.in_err-at.ensures.full is in
    let count = fewer_free x.taken (omega arith) in
    omega (arith, none, count, c.loop-at-test.true, x.len))

pub returns-in_err-at-clause-store : goal.returns-in_err-at-clause-store
returns-in_err-at-clause-store g c = store_joined c.loop-at.invariant.puts.store c.in_err-at.ensures.unchanged.store

pub returns-in_err-at-clause-cause : goal.returns-in_err-at-clause-cause
returns-in_err-at-clause-cause g c =
    cause_on c.loop-at.invariant.puts.store c.in_err-at.ensures.cause c.from_residual.result c.from_residual.ensures

pub returns-clause-store : goal.returns-clause-store
returns-clause-store g c = c.loop-at.invariant.puts.store

pub returns-clause-cause : goal.returns-clause-cause
returns-clause-cause g c = no_fault_of c.loop-at.invariant.puts.store

pub take_next-requires-clause-bitmaps : goal.take_next-requires-clause-bitmaps
take_next-requires-clause-bitmaps g c = c.loop-at.invariant.bitmaps

pub loop-at-smaller : goal.loop-at-smaller
loop-at-smaller g c =
    omega (arith, c.take_next.ensures.len, c.in_ok-at.ensures.more, c.in_ok-at.ensures.within)

pub returns-in_err-at-clause-len : goal.returns-in_err-at-clause-len
returns-in_err-at-clause-len g c = c.take_next.ensures.len ∙ c.loop-at.invariant.len

pub returns-in_err-at-clause-taken : goal.returns-in_err-at-clause-taken
returns-in_err-at-clause-taken g c =
    IfOk-from_err c.from_residual.result _ c.from_residual.ensures.0

pub returns-in_err-at-clause-puts : goal.returns-in_err-at-clause-puts
returns-in_err-at-clause-puts g c =
    IfOk-from_err c.from_residual.result _ c.from_residual.ensures.0

pub returns-in_err-at-clause-bitmaps : goal.returns-in_err-at-clause-bitmaps
returns-in_err-at-clause-bitmaps g c =
    IfOk-from_err c.from_residual.result _ c.from_residual.ensures.0

pub returns-clause-len : goal.returns-clause-len
returns-clause-len g c = c.loop-at.invariant.len

-- the loop ends behind the last place
pub returns-clause-taken : goal.returns-clause-taken
returns-clause-taken g c =
    let old = (g.S.Sectors.state c.args.s.now).sectors in
    let new = (g.S.Sectors.state c.loop-at.s).sectors in
    let numbers : List ℕ = c.loop-at.numbers in
    let end : c.loop-at.at ≡ length numbers = omega
    (arith, c.loop-at.invariant.within, c.loop-at-test.false) in
    subst (λ (n : ℕ). TakesNumbers c.args.geometry c.args.map numbers 0 n old new) end
    c.loop-at.invariant.taken

pub returns-clause-puts : goal.returns-clause-puts
returns-clause-puts g c =
    let old = g.S.Sectors.state c.args.s.now in
    let new = g.S.Sectors.state c.loop-at.s in
    let numbers : List ℕ = c.loop-at.numbers in
    let end : c.loop-at.at ≡ length numbers = omega
    (arith, c.loop-at.invariant.within, c.loop-at-test.false) in
    subst
    (λ (n : ℕ). PutsOnly (IsSectorOf c.args.geometry c.args.map (IsNumberOf numbers 0 n))
    (bitmaps c.args.geometry) 0 old new)
    end c.loop-at.invariant.puts

pub returns-clause-bitmaps : goal.returns-clause-bitmaps
returns-clause-bitmaps g c = c.loop-at.invariant.bitmaps

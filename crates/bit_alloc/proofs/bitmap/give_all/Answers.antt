use Rattle.std.proofs.Common.{◌≡◌, ◌<◌, ℕ, List, length, subst, arith}
use Rattle.sector_txn.specs.Sectors.{PutsOnly}
use Rattle.sector_txn.proofs.TransactionRuns.{changes_nothing, store_joined}
use Rattle.bit_alloc.specs.Bitmaps.{bit_count, IsNumberOf, IsSectorOf, GivesNumbers}
use Rattle.bit_alloc.specs.Room.{bitmaps}
use Rattle.bit_alloc.proofs.Listed.{gives_joined, gives_none, listed_puts, listed_wider, none_listed}
use Rattle.bit_alloc.proofs.Maps.{number_has_bit}
use Rattle.bit_alloc.proofs.Soundness.{spare_then}
use Rattle.bit_alloc.proofs.Passing.{fault_on, no_fault}
use Rattle.bit_alloc.proofs.bitmap.give_all.Goals as goal

pub loop-at-init : goal.loop-at-init
loop-at-init g c = record {
  within = omega arith;
  given = gives_none c.requires.bitmaps.tables (λ n w. none_listed w);
  puts = changes_nothing (bitmaps c.args.geometry);
  bitmaps = c.requires.bitmaps;
}

pub give_next-requires-clause-room : goal.give_next-requires-clause-room
give_next-requires-clause-room g c = spare_then c.args.geometry 0 0 _ _ (omega (arith, c.requires.room)) c.loop-at.invariant.puts

pub loop-at-preserved : goal.loop-at-preserved
loop-at-preserved g c =
    let p = c.args.geometry in
    let map = c.args.map in
    let numbers : List ℕ = c.args.numbers.now in
    let x = c.loop-at.invariant in
    let within = x.within in
    let more = c.in_ok-at.ensures.more in
    let end = c.in_ok-at.ensures.within in
    let few : (n : ℕ) → IsNumberOf numbers 0 c.loop-at.at n → n < bit_count p map =
    λ n w. number_has_bit p map n c.requires.bitmaps.geometry (c.requires.numbers n (listed_wider within w)).1 in
    record {
      within = omega (arith, end);
      given = gives_joined few (omega arith) (omega (arith, more)) x.given c.in_ok-at.ensures.given;
      puts = listed_puts (omega arith) (omega (arith, more)) x.puts c.in_ok-at.ensures.puts;
      bitmaps = c.in_ok-at.ensures.bitmaps;
    }

pub returns-clause-given : goal.returns-clause-given
returns-clause-given g c =
    let within = c.loop-at.invariant.within in
    let end : c.loop-at.at ≡ length c.args.numbers.now = omega (arith, c.loop-at-test.false, within) in
    subst (λ (m : ℕ). GivesNumbers c.args.geometry c.args.map (IsNumberOf c.args.numbers.now 0 m) (g.S.Sectors.state c.args.s.now).sectors (g.S.Sectors.state c.loop-at.s).sectors) end
    c.loop-at.invariant.given

pub returns-clause-puts : goal.returns-clause-puts
returns-clause-puts g c =
    let within = c.loop-at.invariant.within in
    let end : c.loop-at.at ≡ length c.args.numbers.now = omega (arith, c.loop-at-test.false, within) in
    subst (λ (m : ℕ). PutsOnly (IsSectorOf c.args.geometry c.args.map (IsNumberOf c.args.numbers.now 0 m)) (bitmaps c.args.geometry) 0 (g.S.Sectors.state c.args.s.now) (g.S.Sectors.state c.loop-at.s)) end
    c.loop-at.invariant.puts

pub returns-in_err-at-clause-store : goal.returns-in_err-at-clause-store
returns-in_err-at-clause-store g c = store_joined c.loop-at.invariant.puts.store c.in_err-at.ensures.unchanged.store

pub returns-in_err-at-clause-cause : goal.returns-in_err-at-clause-cause
returns-in_err-at-clause-cause g c = fault_on c.loop-at.invariant.puts.store c.in_err-at.ensures.cause c.from_residual.result c.from_residual.ensures

pub returns-clause-store : goal.returns-clause-store
returns-clause-store g c = c.loop-at.invariant.puts.store

pub returns-clause-cause : goal.returns-clause-cause
returns-clause-cause g c = no_fault c.loop-at.invariant.puts.store

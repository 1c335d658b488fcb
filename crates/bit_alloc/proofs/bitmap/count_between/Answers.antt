use Rattle.std.proofs.Common.{◌≡◌, ◌+◌, ◌*◌, ◌≤◌, ℕ, ap, sym, ◌∙◌, arith}
use Rattle.std.specs.Prelude.{List}
use Rattle.std.proofs.lemmas.Result.{IfOk-from_err}
use Rattle.fs_layout.specs.Bytes.{SectorMap}
use Rattle.bit_alloc.specs.Bits.{clear_below}
use Rattle.bit_alloc.specs.Bitmaps.{first_sector}
use Rattle.bit_alloc.proofs.Transactions.{unchanged_nothing, unchanged_joined}
use Rattle.bit_alloc.proofs.Maps.{sector_counted, fewer_counted, few_counted}
use Rattle.bit_alloc.proofs.Passing.{fault_on, no_fault}
use Rattle.bit_alloc.proofs.bitmap.count_between.Goals as goal

pub loop-k-init : goal.loop-k-init
loop-k-init g c = record { same = unchanged_nothing; some = omega arith; all = λ less. omega arith }

pub loop-k-preserved : goal.loop-k-preserved
loop-k-preserved g c =
    let image : SectorMap = (g.S.Sectors.state c.args.s.now).sectors in
    let start : ℕ = first_sector c.args.geometry c.args.map in
    let sector : List ℕ = c.get.new.to in
    let so_far = c.loop-k.invariant in
    let here : sector ≡ image (start + c.loop-k.k) =
    c.in_ok-get.ensures.content ∙ so_far.same.sectors (c.first.result + c.loop-k.k) ∙ ap (λ (n : ℕ). image (n + c.loop-k.k)) c.first.ensures in
    let next : 4096 * c.loop-k.k + 4096 ≡ 4096 * (c.loop-k.k + 1) = omega arith in
    let more : clear_below image start (4096 * (c.loop-k.k + 1)) ≡ clear_below image start (4096 * c.loop-k.k) + clear_below (λ _. sector) 0 4096 =
    ap (clear_below image start) (sym next) ∙ sector_counted image start c.loop-k.k 4096 sector here (omega arith) in
    let before = so_far.all (omega arith) in
    record {
      same = unchanged_joined (unchanged_joined so_far.same c.in_ok-get.ensures.same) c.pass_by_full.ensures;
      some = omega (arith, before, more, c.count_clear_up_to-free.ensures.some);
      all = λ less. let rest = c.count_clear_up_to-free.ensures.all (omega (arith, less)) in omega (arith, before, more, rest);
    }

pub overflow_add-free : goal.overflow_add-free
overflow_add-free g c =
    omega (
      arith,
      few_counted c.args.geometry c.args.map (g.S.Sectors.state c.args.s.now).sectors c.get.new.to c.loop-k.free c.count_clear_up_to-free.result c.requires.bitmaps.geometry
          (omega (arith, c.loop-k.invariant.some)) c.count_clear_up_to-free.ensures.some c.loop-k-test.true c.requires.range.1,
    )

-- the count so far is at most all
pub returns-then-free-enough-clause-some : goal.returns-then-free-enough-clause-some
returns-then-free-enough-clause-some g c =
    let image : SectorMap = (g.S.Sectors.state c.args.s.now).sectors in
    let start : ℕ = first_sector c.args.geometry c.args.map in
    let within : 4096 * c.loop-k.k ≤ 4096 * c.args.to = omega (arith, c.loop-k-test.true) in
    omega (arith, c.loop-k.invariant.some, fewer_counted image start (4096 * c.loop-k.k) (4096 * c.args.to) within)

-- at the end it is all
pub returns-clause-some : goal.returns-clause-some
returns-clause-some g c =
    let image : SectorMap = (g.S.Sectors.state c.args.s.now).sectors in
    let start : ℕ = first_sector c.args.geometry c.args.map in
    let within : 4096 * c.loop-k.k ≤ 4096 * c.args.to = omega (arith, c.loop-k.auto.k-end, c.requires.range.0) in
    omega (arith, c.loop-k.invariant.some, fewer_counted image start (4096 * c.loop-k.k) (4096 * c.args.to) within)

pub returns-clause-all : goal.returns-clause-all
returns-clause-all g c = λ less.
    let image : SectorMap = (g.S.Sectors.state c.args.s.now).sectors in
    let start : ℕ = first_sector c.args.geometry c.args.map in
    let all : 4096 * c.loop-k.k ≡ 4096 * c.args.to = omega (arith, c.loop-k.auto.k-end, c.loop-k-test.false, c.requires.range.0) in
    let end : clear_below image start (4096 * c.loop-k.k) ≡ clear_below image start (4096 * c.args.to) = ap (clear_below image start) all in
    omega (arith, c.loop-k.invariant.all less, end)

pub returns-in_err-get-clause-same : goal.returns-in_err-get-clause-same
returns-in_err-get-clause-same g c = unchanged_joined c.loop-k.invariant.same c.in_err-get.ensures.same

pub returns-in_err-get-clause-cause : goal.returns-in_err-get-clause-cause
returns-in_err-get-clause-cause g c = fault_on c.loop-k.invariant.same.store c.in_err-get.ensures.cause c.from_residual.result c.from_residual.ensures

pub returns-then-free-enough-clause-cause : goal.returns-then-free-enough-clause-cause
returns-then-free-enough-clause-cause g c = no_fault c.loop-k.invariant.same.store

pub returns-clause-cause : goal.returns-clause-cause
returns-clause-cause g c = no_fault c.loop-k.invariant.same.store

pub returns-in_err-get-clause-some : goal.returns-in_err-get-clause-some
returns-in_err-get-clause-some g c = IfOk-from_err c.from_residual.result _ c.from_residual.ensures.0

pub returns-in_err-get-clause-all : goal.returns-in_err-get-clause-all
returns-in_err-get-clause-all g c = IfOk-from_err c.from_residual.result _ c.from_residual.ensures.0

pub returns-then-free-enough-clause-same : goal.returns-then-free-enough-clause-same
returns-then-free-enough-clause-same g c = c.loop-k.invariant.same

pub returns-clause-same : goal.returns-clause-same
returns-clause-same g c = c.loop-k.invariant.same

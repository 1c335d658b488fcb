use Rattle.std.proofs.Common.{◌≡◌, ◌+◌, ◌*◌, ◌<◌, ◌≤◌, ◌∙◌, ℕ, ap, refl, sym, arith}
use Rattle.std.proofs.lemmas.Bool.Decides.{nat_tests}
use Rattle.fs_layout.specs.Bytes.{SectorMap}
use Rattle.fs_layout.specs.declared.geometry.Geometry.{Geometry}
use Rattle.bit_alloc.specs.declared.bitmap.Bitmap.{Bitmap}
use Rattle.sector_txn.specs.Sectors.{TxnState}
use Rattle.bit_alloc.specs.Bits.{clear_below}
use Rattle.bit_alloc.specs.Bitmaps.{first_sector, bit_count, free_numbers, HasBitmaps}
use Rattle.bit_alloc.proofs.Transactions.{map_unchanged, bitmaps_unchanged, unchanged_joined}
use Rattle.bit_alloc.proofs.Maps.{none_counted, numbers_counted, few_free}
use Rattle.bit_alloc.proofs.Passing.{fault_on, no_fault}
use Rattle.bit_alloc.proofs.bitmap.has_free.Goals as goal

-- what the whole bitmap has clear are its free numbers
all_counted : (p : Geometry) (map : Bitmap) (txn : TxnState) (sectors : ℕ) → HasBitmaps p txn → 4096 * sectors ≡ bit_count p map
    → clear_below txn.sectors (first_sector p map) (4096 * sectors) ≡ free_numbers p map txn.sectors
all_counted p map txn sectors has all = ap (clear_below txn.sectors (first_sector p map)) all ∙ numbers_counted p map txn.sectors has.geometry has.rest

pub returns-then-free-k-clause-free : goal.returns-then-free-k-clause-free
returns-then-free-k-clause-free g c =
    let total = all_counted c.args.geometry c.args.map (g.S.Sectors.state c.args.s.now) c.sectors-sectors.result c.requires c.sectors-sectors.ensures in
    (λ _. omega (arith, total, c.in_ok-free.ensures.some), λ _. refl)

pub count_between-requires-2-clause-bitmaps : goal.count_between-requires-2-clause-bitmaps
count_between-requires-2-clause-bitmaps g c =
    bitmaps_unchanged c.args.geometry (g.S.Sectors.state c.args.s.now) (g.S.Sectors.state c.count_between.new.s) c.requires c.count_between.ensures.same

-- the sectors behind the first and those before it are all
module _ (image other : SectorMap) (start first sectors free rest : ℕ) (same : image ≡ other) where
  no_more : clear_below image start (4096 * first) + free ≤ clear_below image start (4096 * sectors)
      → clear_below other start (4096 * 0) + rest ≤ clear_below other start (4096 * first) → free + rest ≤ clear_below image start (4096 * sectors)
  no_more behind before =
      let moved : clear_below other start (4096 * first) ≡ clear_below image start (4096 * first) = ap (λ m. clear_below m start (4096 * first)) (sym same) in
      omega (arith, behind, before, moved)

  all_of_them : clear_below image start (4096 * first) + free ≡ clear_below image start (4096 * sectors)
      → clear_below other start (4096 * 0) + rest ≡ clear_below other start (4096 * first) → free + rest ≡ clear_below image start (4096 * sectors)
  all_of_them behind before =
      let moved : clear_below other start (4096 * first) ≡ clear_below image start (4096 * first) = ap (λ m. clear_below m start (4096 * first)) (sym same) in
      let none = none_counted other start in
      omega (arith, behind, before, moved, none)

pub overflow_add-result : goal.overflow_add-result
overflow_add-result g c =
    let old = g.S.Sectors.state c.args.s.now in
    let mid = g.S.Sectors.state c.count_between.new.s in
    let total = all_counted c.args.geometry c.args.map old c.sectors-sectors.result c.requires c.sectors-sectors.ensures in
    let few = no_more old.sectors mid.sectors (first_sector c.args.geometry c.args.map) _ c.sectors-sectors.result _ _ (map_unchanged c.count_between.ensures.same)
    c.in_ok-free.ensures.some c.in_ok-rest.ensures.some in
    omega (arith, total, few, few_free c.args.geometry c.args.map old.sectors c.requires.geometry c.requires.rest)

pub returns-clause-free : goal.returns-clause-free
returns-clause-free g c =
    let old = g.S.Sectors.state c.args.s.now in
    let mid = g.S.Sectors.state c.count_between.new.s in
    let total = all_counted c.args.geometry c.args.map old c.sectors-sectors.result c.requires c.sectors-sectors.ensures in
    let few = no_more old.sectors mid.sectors (first_sector c.args.geometry c.args.map) _ c.sectors-sectors.result _ _ (map_unchanged c.count_between.ensures.same)
    c.in_ok-free.ensures.some c.in_ok-rest.ensures.some in
    let all : c.in_ok-free.free + c.in_ok-rest.rest < c.args.k → c.in_ok-free.free + c.in_ok-rest.rest ≡ free_numbers c.args.geometry c.args.map old.sectors =
    λ less. all_of_them old.sectors mid.sectors (first_sector c.args.geometry c.args.map) _ c.sectors-sectors.result _ _ (map_unchanged c.count_between.ensures.same)
    (c.in_ok-free.ensures.all (omega (arith, less))) (c.in_ok-rest.ensures.all (omega (arith, less))) ∙ total in
    grind (arith, nat_tests)

pub returns-then-free-k-clause-cause : goal.returns-then-free-k-clause-cause
returns-then-free-k-clause-cause g c = no_fault c.count_between.ensures.same.store

pub returns-in_err-rest-clause-same : goal.returns-in_err-rest-clause-same
returns-in_err-rest-clause-same g c = unchanged_joined c.count_between.ensures.same c.in_err-rest.ensures.same

pub returns-in_err-rest-clause-cause : goal.returns-in_err-rest-clause-cause
returns-in_err-rest-clause-cause g c = fault_on c.count_between.ensures.same.store c.in_err-rest.ensures.cause c.from_residual-in_err-rest.result c.from_residual-in_err-rest.ensures

pub returns-clause-same : goal.returns-clause-same
returns-clause-same g c = unchanged_joined c.count_between.ensures.same c.in_ok-rest.ensures.same

pub returns-clause-cause : goal.returns-clause-cause
returns-clause-cause g c = no_fault (unchanged_joined c.count_between.ensures.same c.in_ok-rest.ensures.same).store

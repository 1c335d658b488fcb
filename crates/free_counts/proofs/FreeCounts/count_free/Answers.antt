use Rattle.std.proofs.Common.{◌≡◌, ◌+◌, ◌*◌, ℕ, List, ap, sym, ◌∙◌, arith}
use Rattle.fs_layout.specs.Bytes.{SectorMap}
use Rattle.fs_layout.specs.Header.{log_end}
use Rattle.bit_alloc.specs.Bits.{clear_below}
use Rattle.bit_alloc.specs.Bitmaps.{first_sector}
use Rattle.bit_alloc.proofs.Transactions.{unchanged_nothing, unchanged_joined}
use Rattle.bit_alloc.proofs.Maps.{sector_counted, few_counted, none_counted, numbers_counted}
use Rattle.free_counts.proofs.Known.{tells_after, tells_before, sector_within}
use Rattle.free_counts.proofs.FreeCounts.count_free.Goals as goal

pub loop-k-init : goal.loop-k-init
loop-k-init g c = record {
  same = unchanged_nothing;
  told = c.requires.told;
  count = sym (none_counted (g.S.Sectors.state c.args.s.now).sectors (first_sector c.args.geometry c.args.map));
}

pub count_sector-requires-clause-part : goal.count_sector-requires-clause-part
count_sector-requires-clause-part g c =
    let at = sector_within c.args.geometry c.args.map c.loop-k.k c.sectors-sectors.result c.requires.bitmaps.geometry c.sectors-sectors.ensures c.loop-k-test.true in
    omega (arith, c.requires.bitmaps.header, ap log_end c.loop-k.invariant.same.store.header, c.first.ensures, at.0)

pub count_sector-requires-clause-on_disk : goal.count_sector-requires-clause-on_disk
count_sector-requires-clause-on_disk g c =
    let at = sector_within c.args.geometry c.args.map c.loop-k.k c.sectors-sectors.result c.requires.bitmaps.geometry c.sectors-sectors.ensures c.loop-k-test.true in
    omega (arith, c.requires.bitmaps.disk, c.loop-k.invariant.same.store.reads.narrowed.size, c.first.ensures, at.1)

pub count_sector-requires-clause-told : goal.count_sector-requires-clause-told
count_sector-requires-clause-told g c = tells_after c.loop-k.self c.loop-k.invariant.same c.loop-k.invariant.told

pub loop-k-preserved : goal.loop-k-preserved
loop-k-preserved g c =
    let image : SectorMap = (g.S.Sectors.state c.args.s.now).sectors in
    let start : ℕ = first_sector c.args.geometry c.args.map in
    let so_far = c.loop-k.invariant in
    let here : (g.S.Sectors.state c.loop-k.s).sectors (c.first.result + c.loop-k.k) ≡ image (start + c.loop-k.k) =
    so_far.same.sectors (c.first.result + c.loop-k.k) ∙ ap (λ (n : ℕ). image (n + c.loop-k.k)) c.first.ensures in
    let next : 4096 * c.loop-k.k + 4096 ≡ 4096 * (c.loop-k.k + 1) = omega arith in
    let more : clear_below image start (4096 * (c.loop-k.k + 1))
    ≡ clear_below image start (4096 * c.loop-k.k) + clear_below (λ _. (g.S.Sectors.state c.loop-k.s).sectors (c.first.result + c.loop-k.k)) 0 4096 =
    ap (clear_below image start) (sym next)
    ∙ sector_counted image start c.loop-k.k 4096 ((g.S.Sectors.state c.loop-k.s).sectors (c.first.result + c.loop-k.k)) here (omega arith) in
    record {
      same = unchanged_joined so_far.same c.count_sector.ensures.same;
      told = tells_before c.count_sector.new.self so_far.same c.count_sector.ensures.told;
      count = omega (arith, so_far.count, more, c.in_ok-free.ensures.count);
    }

pub overflow_add-free : goal.overflow_add-free
overflow_add-free g c =
    let sector : List ℕ = (g.S.Sectors.state c.loop-k.s).sectors (c.first.result + c.loop-k.k) in
    omega (
      arith,
      few_counted c.args.geometry c.args.map (g.S.Sectors.state c.args.s.now).sectors sector c.loop-k.free c.in_ok-free.field-0 c.requires.bitmaps.geometry
          (omega (arith, c.loop-k.invariant.count)) (omega (arith, c.in_ok-free.ensures.count)) c.loop-k-test.true (omega (arith, c.sectors-sectors.ensures)),
    )

pub returns-clause-free : goal.returns-clause-free
returns-clause-free g c =
    let image : SectorMap = (g.S.Sectors.state c.args.s.now).sectors in
    let end : 4096 * c.loop-k.k ≡ 4096 * c.sectors-sectors.result = omega (arith, c.loop-k.auto.k-end, c.loop-k-test.false) in
    c.loop-k.invariant.count ∙ ap (clear_below image (first_sector c.args.geometry c.args.map)) (end ∙ c.sectors-sectors.ensures)
    ∙ numbers_counted c.args.geometry c.args.map image c.requires.bitmaps.geometry c.requires.bitmaps.rest

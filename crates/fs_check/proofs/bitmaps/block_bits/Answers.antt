use Rattle.std.proofs.Common.{◌+◌, ◌*◌, refl, arith, ap, ◌∙◌, inl, inr}
use Rattle.std.proofs.lemmas.Bool.{cases_lt}
use Rattle.fs_layout.specs.Bytes.{SectorMap}
use Rattle.sector_disk.proofs.Moments.{reads_joined}
use Rattle.fs_check.specs.Checks.{meaning}
use Rattle.fs_check.proofs.BitTests.{maps_geometry}
use Rattle.fs_check.proofs.Carrying.{meaning_same, opened_still}
use Rattle.fs_check.proofs.bitmaps.block_bits.Goals as goal

pub overflow_sub-k-end : goal.overflow_sub-k-end
overflow_sub-k-end g c =
    let from = (maps_geometry _ _ c.args.opened.now.geometry c.requires.opened.geometry).block_map in
    omega (arith, from)

pub read_recovered-requires-clause-on_disk : goal.read_recovered-requires-clause-on_disk
read_recovered-requires-clause-on_disk g c =
    let on_disk = (maps_geometry _ _ c.args.opened.now.geometry c.requires.opened.geometry).on_disk in
    let below = c.loop-k-test.true in
    let size = c.loop-k.invariant.reads.narrowed.size in
    omega (arith, on_disk, below, size)

pub read_recovered-requires-clause-opened : goal.read_recovered-requires-clause-opened
read_recovered-requires-clause-opened g c = opened_still c.loop-k.invariant.reads c.requires.opened

pub first_wrong-requires-clause-low : goal.first_wrong-requires-clause-low
first_wrong-requires-clause-low g c =
    let maps = maps_geometry _ _ c.args.opened.now.geometry c.requires.opened.geometry in
    let inode_map = maps.inode_map in
    let small = maps.small in
    let below = c.loop-k-test.true in
    omega (arith, inode_map, small, below)

pub loop-k-preserved : goal.loop-k-preserved
loop-k-preserved g c =
    let s0 = g.D.Disk.state c.args.disk.now in
    let k = c.loop-k.k in
    let so_far = c.loop-k.invariant in
    let read = c.in_ok-read_recovered.ensures in
    let there = read.content ∙ ap (λ (m : SectorMap). m (c.args.opened.now.geometry.block_bitmap + k)) (meaning_same so_far.reads) in
    let right = c.in_default.ensures.none (meaning s0) c.requires.owners there in
    record {
      reads = reads_joined so_far.reads read.passed.reads;
      good = λ s lt. elim (cases_lt s (4096 * k)) [ inl before ↦ so_far.good s before | inr here ↦ right s here lt ];
    }

pub returns-clause-each : goal.returns-clause-each
returns-clause-each g c = λ s lt.
    c.loop-k.invariant.good s (let past = c.loop-k-test.false in omega (arith, lt, past))

pub returns-in-Some-clause-passed : goal.returns-in-Some-clause-passed
returns-in-Some-clause-passed g c =
    let s0 = g.D.Disk.state c.args.disk.now in
    let k = c.loop-k.k in
    let so_far = c.loop-k.invariant in
    let read = c.in_ok-read_recovered.ensures in
    let there = read.content ∙ ap (λ (m : SectorMap). m (c.args.opened.now.geometry.block_bitmap + k)) (meaning_same so_far.reads) in
    let found = c.in-Some.ensures.wrong (meaning s0) c.requires.owners there in
    let low = found.0 in
    let below = c.loop-k-test.true in
    record {
      reads = reads_joined so_far.reads read.passed.reads;
      reason = (
        refl,
        record {
          fails = λ h. found.1 (h (omega (arith, low, below)));
          least = λ s lower bit. elim (cases_lt s (4096 * k)) [ inl before ↦ so_far.good s before | inr here ↦ found.2 s here lower ];
        },
      );
    }

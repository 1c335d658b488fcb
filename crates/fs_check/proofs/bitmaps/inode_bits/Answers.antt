use Rattle.std.proofs.Common.{◌+◌, ◌/◌, ap, sym, arith, ◌∙◌}
use Rattle.fs_layout.specs.Bytes.{SectorMap}
use Rattle.sector_disk.proofs.Moments.{reads_joined}
use Rattle.fs_check.proofs.BitTests.{maps_geometry}
use Rattle.fs_check.proofs.Carrying.{meaning_same}
use Rattle.fs_check.proofs.TriedBits.{next_bits, wrong_bit}
use Rattle.fs_check.proofs.TableSectors.{sector_still}
use Rattle.fs_check.proofs.bitmaps.inode_bits.Goals as goal

pub overflow_sub-n-end : goal.overflow_sub-n-end
overflow_sub-n-end g c =
    let order = (maps_geometry _ _ c.args.opened.now.geometry c.requires.opened.geometry).inode_map in
    omega (arith, order)

pub overflow_mul-n-end : goal.overflow_mul-n-end
overflow_mul-n-end g c =
    let maps = maps_geometry _ _ c.args.opened.now.geometry c.requires.opened.geometry in
    let block_map = maps.block_map in
    let small = maps.small in
    omega (arith, block_map, small)

pub read_map-requires-clause-kept : goal.read_map-requires-clause-kept
read_map-requires-clause-kept g c = λ inside.
    c.loop-n.invariant.map_kept inside
    ∙ sym (ap (λ (m : SectorMap). m (c.args.opened.now.geometry.inode_bitmap + c.loop-n.n / 4096)) (meaning_same c.loop-n.invariant.reads))

pub read_table-requires-clause-kept : goal.read_table-requires-clause-kept
read_table-requires-clause-kept g c = λ inside.
    sector_still _ _ c.args.opened.now.geometry c.loop-n.n c.loop-n.table (reads_joined c.loop-n.invariant.reads c.in_ok-read_map.ensures.passed.reads)
    (c.loop-n.invariant.kept inside)

pub loop-n-preserved : goal.loop-n-preserved
loop-n-preserved g c =
    next_bits c.is_right_bit.result c.loop-n.invariant c.in_ok-read_map.ensures.passed.reads c.in_ok-read_table.ensures.passed.reads
    c.in_ok-read_map.ensures.map c.in_ok-read_table.ensures.table c.is_right_bit.ensures c.if-not-is_right_bit.false

pub returns-then-not-is_right_bit-clause-passed : goal.returns-then-not-is_right_bit-clause-passed
returns-then-not-is_right_bit-clause-passed g c =
    wrong_bit c.is_right_bit.result c.loop-n.invariant c.in_ok-read_map.ensures.passed.reads c.in_ok-read_table.ensures.passed.reads
    c.in_ok-read_map.ensures.map c.in_ok-read_table.ensures.table c.is_right_bit.ensures c.loop-n-test.true c.if-not-is_right_bit.true

pub returns-clause-each : goal.returns-clause-each
returns-clause-each g c = λ n lt. c.loop-n.invariant.good n (let past = c.loop-n-test.false in omega (arith, lt, past))

use Rattle.std.proofs.Common.{arith, subst}
use Rattle.fs_layout.specs.Bytes.{SectorMap}
use Rattle.sector_disk.proofs.Moments.{reads_joined}
use Rattle.fs_check.specs.Checks.{meaning}
use Rattle.fs_check.specs.TableSectors.{AreFree}
use Rattle.fs_check.proofs.Carrying.{meaning_same, opened_still, least_error}
use Rattle.fs_check.proofs.FreeSectors.{free_before, inodes_still, inodes_back}
use Rattle.fs_check.proofs.inodes.read_inodes.Goals as goal

pub is_free_sector-requires-clause-opened : goal.is_free_sector-requires-clause-opened
is_free_sector-requires-clause-opened g c = opened_still c.loop-k.invariant.reads c.requires.opened

pub read_sector-requires-clause-opened : goal.read_sector-requires-clause-opened
read_sector-requires-clause-opened g c = opened_still c.loop-k.invariant.reads c.requires.opened

pub read_sector-requires-clause-before : goal.read_sector-requires-clause-before
read_sector-requires-clause-before g c = inodes_still c.loop-k.invariant.reads c.loop-k.invariant.before

pub read_sector-requires-clause-room : goal.read_sector-requires-clause-room
read_sector-requires-clause-room g c = c.loop-k.invariant.room

pub loop-k-preserved-then-is_free_sector : goal.loop-k-preserved-then-is_free_sector
loop-k-preserved-then-is_free_sector g c =
    let so_far = c.loop-k.invariant in
    let p = c.args.opened.now.geometry in
    let free = subst (λ (m : SectorMap). AreFree p m c.loop-k.k) (meaning_same so_far.reads) (c.is_free_sector.ensures c.if-is_free_sector.true) in
    record {
      reads = so_far.reads;
      before = free_before p (meaning (g.D.Disk.state c.args.disk.now)) c.loop-k.k c.loop-k.inodes.items free so_far.before;
      room = so_far.room;
    }

pub loop-k-preserved : goal.loop-k-preserved
loop-k-preserved g c =
    let so_far = c.loop-k.invariant in
    record {
      reads = reads_joined so_far.reads c.in_ok-read_sector.ensures.passed.reads;
      before = inodes_back so_far.reads c.in_ok-read_sector.ensures.before;
      room = c.in_ok-read_sector.ensures.room;
    }

pub returns-in_err-read_sector-clause-passed : goal.returns-in_err-read_sector-clause-passed
returns-in_err-read_sector-clause-passed g c = least_error c.loop-k.invariant.reads c.from_residual-in_err-read_sector.result c.from_residual-in_err-read_sector.ensures.1 c.in_err-read_sector.ensures.passed

pub returns-clause-each : goal.returns-clause-each
returns-clause-each g c = λ n lt.
    c.loop-k.invariant.before.good n (let past = c.loop-k-test.false in let end = c.div_ceil-k-end.ensures in omega (arith, lt, past, end)) lt

pub returns-clause-table : goal.returns-clause-table
returns-clause-table g c =
    let past = c.loop-k-test.false in
    let end = c.div_ceil-k-end.ensures in
    let before = c.loop-k.invariant.before in
    record { len = before.most; each = λ n lt. before.each n (omega (arith, lt, past, end)) lt }

pub returns-clause-passed : goal.returns-clause-passed
returns-clause-passed g c = record { reads = c.loop-k.invariant.reads; reason = tt }

use Rattle.std.proofs.Common.{◌<◌, ◌*◌, ◌+◌, ◌-◌, Some, None, refl, arith, ◌∙◌}
use Rattle.sector_disk.proofs.Moments.{reads_nothing, reads_joined}
use Rattle.fs_check.specs.Checks.{meaning}
use Rattle.fs_check.proofs.Carrying.{opened_still, read_error}
use Rattle.fs_check.proofs.FreeSectors.{no_more_before, one_more_before}
use Rattle.fs_check.proofs.Tables.{good_is, table_geometry}
use Rattle.fs_check.proofs.TableSectors.{same_sector, sector_back, sector_still}
use Rattle.fs_check.proofs.inodes.read_sector.Goals as goal

pub loop-ino-init : goal.loop-ino-init
loop-ino-init g c = record {
  reads = reads_nothing;
  kept = λ inside. absurd (inside (omega arith));
  begun = omega arith;
  before = c.requires.before;
  room = c.requires.room;
}

pub read_table-requires-clause-opened : goal.read_table-requires-clause-opened
read_table-requires-clause-opened g c = opened_still c.loop-ino.invariant.reads c.requires.opened

pub read_table-requires-clause-kept : goal.read_table-requires-clause-kept
read_table-requires-clause-kept g c = λ inside.
    sector_still _ _ c.args.opened.now.geometry c.loop-ino.ino c.loop-ino.table c.loop-ino.invariant.reads (c.loop-ino.invariant.kept inside)

pub loop-ino-preserved : goal.loop-ino-preserved
loop-ino-preserved g c =
    let s0 = g.D.Disk.state c.args.disk.now in
    let s1 = g.D.Disk.state c.loop-ino.disk in
    let p = c.args.opened.now.geometry in
    let n = c.loop-ino.ino in
    let so_far = c.loop-ino.invariant in
    let here = sector_back s0 s1 p n c.read_table.new.table so_far.reads c.in_ok-read_table.ensures.table in
    let v = c.in-Some.inode in
    let told = c.in-Some.ensures in
    let kept = c.keep_inode.ensures in
    let lt = c.loop-ino-test.true in
    let end = c.min.ensures in
    let inside : n < p.inodes = omega (arith, lt, end, c.requires.there) in
    let good = good_is p (meaning s0) n c.read_table.new.table (Some v) (here inside) told.is told.allowed told.free told.top told.none in
    record {
      reads = reads_joined so_far.reads c.in_ok-read_table.ensures.passed.reads;
      kept = same_sector p (meaning s0) n c.read_table.new.table here;
      begun = let begun = so_far.begun in omega (arith, begun);
      before = one_more_before p (meaning s0) n c.loop-ino.inodes.items c.keep_inode.new.inodes.items so_far.before inside kept.few
          (λ k low. kept.earlier k low) (kept.there ∙ good.1) good.0;
      room = let room = so_far.room in omega (arith, room, kept.room);
    }

pub returns-in-None-clause-passed : goal.returns-in-None-clause-passed
returns-in-None-clause-passed g c =
    let s0 = g.D.Disk.state c.args.disk.now in
    let p = c.args.opened.now.geometry in
    let n = c.loop-ino.ino in
    let so_far = c.loop-ino.invariant in
    let lt = c.loop-ino-test.true in
    let end = c.min.ensures in
    let inside : n < p.inodes = omega (arith, lt, end, c.requires.there) in
    let here = sector_back s0 (g.D.Disk.state c.loop-ino.disk) p n c.read_table.new.table so_far.reads c.in_ok-read_table.ensures.table in
    let told = c.in-None.ensures in
    let bad = good_is p (meaning s0) n c.read_table.new.table None (here inside) told.is told.allowed told.free told.top told.none in
    record {
      reads = reads_joined so_far.reads c.in_ok-read_table.ensures.passed.reads;
      reason = (refl, record { fails = λ h. bad (h inside); least = λ k low below. so_far.before.good k low below });
    }

pub returns-in_err-read_table-clause-passed : goal.returns-in_err-read_table-clause-passed
returns-in_err-read_table-clause-passed g c = read_error c.loop-ino.invariant.reads c.from_residual.result c.from_residual.ensures.1 c.in_err-read_table.ensures.passed

pub keep_inode-requires-clause-room : goal.keep_inode-requires-clause-room
keep_inode-requires-clause-room g c =
    let lt = c.loop-ino-test.true in
    let end = c.min.ensures in
    let room = c.loop-ino.invariant.room in
    omega (arith, lt, end, room, c.requires.there)

pub returns-clause-before : goal.returns-clause-before
returns-clause-before g c =
    let past = c.loop-ino-test.false in
    let last = c.loop-ino.auto.ino-end in
    let end = c.min.ensures in
    no_more_before c.args.opened.now.geometry (meaning (g.D.Disk.state c.args.disk.now)) c.loop-ino.ino (4 * (c.args.k + 1)) c.loop-ino.inodes.items
    (omega (arith, last, end)) (λ k lt there. omega (arith, lt, there, past, end, c.requires.there)) c.loop-ino.invariant.before

pub returns-clause-passed : goal.returns-clause-passed
returns-clause-passed g c = record { reads = c.loop-ino.invariant.reads; reason = tt }

pub returns-clause-room : goal.returns-clause-room
returns-clause-room g c = c.loop-ino.invariant.room

pub overflow_mul-first : goal.overflow_mul-first
overflow_mul-first g c =
    let few = (table_geometry _ _ c.args.opened.now.geometry (4 * c.args.k) c.requires.opened.geometry c.requires.there).few in
    omega (arith, few)

pub overflow_add-ino-end : goal.overflow_add-ino-end
overflow_add-ino-end g c =
    let p = c.args.opened.now.geometry in
    let there = c.requires.there in
    let end = c.min.ensures in
    let few = (table_geometry _ _ p (p.inodes - 1) c.requires.opened.geometry (omega (arith, there))).few in
    omega (arith, few, there, end)

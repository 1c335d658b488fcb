use Rattle.call_parts.specs.BothTables.{both}
use Rattle.std.proofs.Common.{refl}
use Rattle.sector_disk.specs.Disk.{HasFailed}
use Rattle.sector_disk.proofs.Moments.{reads_nothing}
use Rattle.redo_journal.proofs.Meaning.{same_back}
use Rattle.sector_txn.specs.Stores.{present, map_before, map_now, txn_state}
use Rattle.sector_txn.proofs.TransactionRuns.{store_same}
use Rattle.fs_system.proofs.Ends.{running_same, does_told, does_uncounted}
use Rattle.fs_system.proofs.Kept.{begins, before_is_begun, of_stores, only_read, reads_alone, runs_on}
use Rattle.fs_system.proofs.Remembered.{counted_tells, counts_after, counts_told, told_counts, tells_after}
use Rattle.fs_system.proofs.stored.count_space.Goals as goal

-- as it is remembered
pub returns-in-Some : goal.returns-in-Some
returns-in-Some g c = record {
  does = λ s r.
      let disk = g.D.Disk.state c.args.store.disk in
      let told = c.in-Some.ensures in
      let processes = (both c.args.procs.now c.args.openings.now.0) in (
        r,
        does_told disk disk (g.met.D.Disk.only_now c.args.store.disk) reads_nothing disk.size c.args.geometry (present g.D.Disk.state c.args.store)
            processes s r c.in-Some.free.sectors c.in-Some.free.inodes (told.sectors c.args.geometry processes s r) (told.inodes c.args.geometry processes s r),
      );
}

pub count_both-requires-clause-bitmaps : goal.count_both-requires-clause-bitmaps
count_both-requires-clause-bitmaps g c =
    (begins g.D.Disk.state c.args.geometry c.args.store (both c.args.procs.now c.args.openings.now.0) c.begin-txn.result.0 c.begin-txn.ensures.disk c.begin-txn.ensures.map c.begin-txn.ensures.before
    c.requires.running.0 c.requires.running.1 c.begin-txn.ensures.header c.begin-txn.ensures.room).sound.bitmaps

pub count_both-requires-clause-told : goal.count_both-requires-clause-told
count_both-requires-clause-told g c =
    let state = g.D.Disk.state in
    let first = c.begin-txn.result.0 in
    let begun = c.begin-txn.ensures in
    counts_told (txn_state state first) c.begin-txn.result.1.counts begun.header
    (counts_after (map_before state first) (map_now state first) c.begin-txn.result.1.counts
    (same_back (map_before state first) (map_now state first) (before_is_begun state c.args.geometry c.args.store (both c.args.procs.now c.args.openings.now.0) first begun.disk begun.map begun.before first store_same))
    (begun.known first store_same).counts_are)

-- what was counted stays known
pub drop_delta-requires : goal.drop_delta-requires
drop_delta-requires g c =
    let state = g.D.Disk.state in
    let store = c.args.store in
    let size = (state store.disk).size in
    let first = c.begin-txn.result.0 in
    let last = c.count_both.new.s in
    let begun = c.begin-txn.ensures in
    let some = c.requires.running in
    let same = c.in-Ok.ensures.same.store in
    let alike = before_is_begun state c.args.geometry store (both c.args.procs.now c.args.openings.now.0) first begun.disk begun.map begun.before last same in
    record {
      known = record {
        space = tells_after size (state last.disk).size (map_now state first) (map_before state last) c.in-Ok.free
            (only_read state store first begun.disk begun.before last same).narrowed.size alike
            (counted_tells size c.args.geometry (map_now state first) (both c.args.procs.now c.args.openings.now.0) some.0
            (running_same size size c.args.geometry (present state store) (map_now state first) (both c.args.procs.now c.args.openings.now.0) (both c.args.procs.now c.args.openings.now.0) some.0 refl begun.map refl some.1)
            c.in-Ok.free c.in-Ok.ensures.sectors c.in-Ok.ensures.inodes);
        counts_are = counts_after (map_now state first) (map_before state last) c.count_both.new.counts alike
            (told_counts (txn_state state first) c.count_both.new.counts begun.header c.in-Ok.ensures.told);
      };
    }

pub drop_delta-requires-in-Err : goal.drop_delta-requires-in-Err
drop_delta-requires-in-Err g c =
    let state = g.D.Disk.state in
    let first = c.begin-txn.result.0 in
    let last = c.count_both.new.s in
    let begun = c.begin-txn.ensures in
    let same = c.in-Err.ensures.same.store in
    record {
      known = record {
        space = (begun.known last same).space;
        counts_are = counts_after (map_now state first) (map_before state last) c.count_both.new.counts
            (before_is_begun state c.args.geometry c.args.store (both c.args.procs.now c.args.openings.now.0) first begun.disk begun.map begun.before last same)
            (told_counts (txn_state state first) c.count_both.new.counts begun.header c.in-Err.ensures.told);
      };
    }

pub returns-in-Ok : goal.returns-in-Ok
returns-in-Ok g c = record {
  does = λ s r.
      let state = g.D.Disk.state in
      let store = c.args.store in
      let begun = c.begin-txn.ensures in
      let first = map_now state c.begin-txn.result.0 in
      let size = (state store.disk).size in
      let free = c.in-Ok.free in
      let same = c.in-Ok.ensures.same.store in
      let dropped = c.drop_delta in
      let here = running_same size size c.args.geometry (present state store) first (both c.args.procs.now c.args.openings.now.0) (both c.args.procs.now c.args.openings.now.0) s refl begun.map refl r in
      let tells = counted_tells size c.args.geometry first (both c.args.procs.now c.args.openings.now.0) s here free c.in-Ok.ensures.sectors c.in-Ok.ensures.inodes in (
        runs_on state c.args.geometry store (both c.args.procs.now c.args.openings.now.0) c.begin-txn.result.0 begun.disk begun.map begun.before c.count_both.new.s same
            dropped.result dropped.ensures.disk dropped.ensures.map s r (both c.args.procs.now c.args.openings.now.0) refl,
        does_told (state store.disk) (state dropped.result.disk) (g.met.D.Disk.only_now store.disk)
            (reads_alone state store c.begin-txn.result.0 begun.disk begun.before c.count_both.new.s same dropped.result.disk dropped.ensures.disk)
            size c.args.geometry first (both c.args.procs.now c.args.openings.now.0) s here free.sectors free.inodes (tells.sectors c.args.geometry (both c.args.procs.now c.args.openings.now.0) s here)
            (tells.inodes c.args.geometry (both c.args.procs.now c.args.openings.now.0) s here),
      );
}

pub returns-in-Err : goal.returns-in-Err
returns-in-Err g c = record {
  does = λ s r.
      let state = g.D.Disk.state in
      let same = c.in-Err.ensures.same.store in
      let dropped = c.drop_delta-in-Err in (
        runs_on g.D.Disk.state c.args.geometry c.args.store (both c.args.procs.now c.args.openings.now.0) c.begin-txn.result.0 c.begin-txn.ensures.disk c.begin-txn.ensures.map c.begin-txn.ensures.before
            c.count_both.new.s same dropped.result dropped.ensures.disk dropped.ensures.map s r (both c.args.procs.now c.args.openings.now.0) refl,
        does_uncounted (state c.args.store.disk) (state dropped.result.disk) (g.met.D.Disk.only_now c.args.store.disk)
            (reads_alone g.D.Disk.state c.args.store c.begin-txn.result.0 c.begin-txn.ensures.disk c.begin-txn.ensures.before c.count_both.new.s same
            dropped.result.disk dropped.ensures.disk)
            (state c.args.store.disk).size c.args.geometry (present state c.args.store) (both c.args.procs.now c.args.openings.now.0) s r
            (of_stores g.D.Disk.state c.args.store c.begin-txn.result.0 c.begin-txn.ensures.disk c.begin-txn.ensures.before c.count_both.new.s same
            dropped.result.disk dropped.ensures.disk HasFailed c.in-Err.ensures.cause.fault),
      );
}

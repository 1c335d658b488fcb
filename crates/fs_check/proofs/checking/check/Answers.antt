use Rattle.sector_disk.specs.Disk.{OnlyReads, sector, DiskState, Image}
use Rattle.sector_disk.proofs.Moments.{reads_joined}
use Rattle.fs_model.specs.Rules.{HasWholeSectors, IsGeometryOf}
use Rattle.fs_check.proofs.Clean.{whole_seen, clean_after, first_within, none_before}
use Rattle.fs_check.proofs.Carrying.{part_error, same_error, opened_still, table_still, before_still}
use Rattle.fs_check.proofs.Endings.{if_ended}
use Rattle.std.proofs.Common.{ℕ, sym, subst}
use Rattle.fs_layout.specs.declared.geometry.Geometry.{Geometry}
use Rattle.fs_check.specs.Checks.{meaning, AreInodes}
use Rattle.fs_model.proofs.Findings as findings
use Rattle.fs_check.proofs.checking.check.Goals as goal

pub summary-requires : goal.summary-requires
summary-requires g c = record {
  within = first_within _ _ c.in_ok-geometry.geometry _ c.in_ok-owned.owned c.in_ok-geometry.ensures.geometry c.in_ok-owned.ensures.owners;
  none = none_before _ _ c.in_ok-geometry.geometry _ c.in_ok-owned.owned c.in_ok-geometry.ensures.geometry c.in_ok-owned.ensures.owners c.in_ok-owned.ensures.before;
}

pub returns-clause-clean : goal.returns-clause-clean
returns-clause-clean g c =
    let s0 = g.D.Disk.state c.args.disk.now in
    let s1 = g.D.Disk.state c.open_geometry.new.disk in
    let s2 = g.D.Disk.state c.open_commit.new.disk in
    let s3 = g.D.Disk.state c.check_tables.new.disk in
    let r1 : OnlyReads s0 s1 = c.in_ok-geometry.ensures.passed.reads in
    let r2 : OnlyReads s0 s2 = reads_joined r1 c.in_ok-area.ensures.passed.reads in
    let r3 : OnlyReads s0 s3 = reads_joined r2 c.in_ok-inodes.ensures.passed.reads in
    let whole : HasWholeSectors s0.size (sector s0.seen) = whole_seen s0 (g.met.D.Disk.seen_is_image c.args.disk.now)
    (g.met.D.Disk.whole_sectors c.args.disk.now) in
    clean_after s0 s1 s2 s3 c.in_ok-geometry.geometry c.in_ok-area.area c.in_ok-area.commit c.in_ok-inodes.inodes.items c.deref-2.result.now c.in_ok-owned.owned c.summary.result
    (g.met.D.Disk.size_fits c.args.disk.now) whole c.in_ok-geometry.ensures.geometry
    r1 c.in_ok-area.ensures.area c.in_ok-area.ensures.targets
    r2 c.in_ok-inodes.ensures.table c.deref-2.ensures.value
    r3 c.in_ok-owned.ensures.owners c.in_ok-owned.ensures.before c.summary.ensures

pub returns-in_err-geometry-clause-passed : goal.returns-in_err-geometry-clause-passed
returns-in_err-geometry-clause-passed g c = same_error c.from_residual.result c.from_residual.ensures.1 c.in_err-geometry.ensures.passed

pub returns-in_err-area-clause-passed : goal.returns-in_err-area-clause-passed
returns-in_err-area-clause-passed g c =
    let left = c.from_residual-in_err-area in part_error c.in_ok-geometry.ensures.passed.reads left.result left.ensures.1 c.in_err-area.ensures.passed

pub returns-in_err-inodes-clause-passed : goal.returns-in_err-inodes-clause-passed
returns-in_err-inodes-clause-passed g c =
    let left = c.from_residual-in_err-inodes in
    part_error (reads_joined c.in_ok-geometry.ensures.passed.reads c.in_ok-area.ensures.passed.reads) left.result left.ensures.1 c.in_err-inodes.ensures.passed

pub returns-in_err-owned-clause-passed : goal.returns-in_err-owned-clause-passed
returns-in_err-owned-clause-passed g c =
    let left = c.from_residual-in_err-owned in
    let reads = reads_joined c.in_ok-geometry.ensures.passed.reads c.in_ok-area.ensures.passed.reads in
    part_error (reads_joined reads c.in_ok-inodes.ensures.passed.reads) left.result left.ensures.1 c.in_err-owned.ensures.passed

pub returns-clause-passed : goal.returns-clause-passed
returns-clause-passed g c =
    let reads = reads_joined c.in_ok-geometry.ensures.passed.reads c.in_ok-area.ensures.passed.reads in
    record { reads = reads_joined (reads_joined reads c.in_ok-inodes.ensures.passed.reads) c.in_ok-owned.ensures.passed.reads; reason = tt }

pub returns-in_err-geometry-clause-clean : goal.returns-in_err-geometry-clause-clean
returns-in_err-geometry-clause-clean g c = if_ended _ _ c.from_residual.result c.from_residual.ensures.1

pub returns-in_err-area-clause-clean : goal.returns-in_err-area-clause-clean
returns-in_err-area-clause-clean g c =
    let left = c.from_residual-in_err-area in if_ended _ _ left.result left.ensures.1

pub returns-in_err-inodes-clause-clean : goal.returns-in_err-inodes-clause-clean
returns-in_err-inodes-clause-clean g c =
    let left = c.from_residual-in_err-inodes in if_ended _ _ left.result left.ensures.1

pub returns-in_err-owned-clause-clean : goal.returns-in_err-owned-clause-clean
returns-in_err-owned-clause-clean g c =
    let left = c.from_residual-in_err-owned in if_ended _ _ left.result left.ensures.1

-- what the superblock says stays so while the disk is only read
geometry_still : {p : Geometry} {old mid : DiskState} → OnlyReads old mid
    → IsGeometryOf old.size (sector old.seen) p → IsGeometryOf mid.size (sector mid.seen) p
geometry_still {p} {old} {mid} reads x =
    subst (λ (i : Image). IsGeometryOf mid.size (sector i) p) (sym reads.narrowed.seen)
    (subst (λ (n : ℕ). IsGeometryOf n (sector old.seen) p) (sym reads.narrowed.size) x)

pub open_commit-requires : goal.open_commit-requires
open_commit-requires g c =
    geometry_still c.in_ok-geometry.ensures.passed.reads c.in_ok-geometry.ensures.geometry

pub check_tables-requires-clause-opened : goal.check_tables-requires-clause-opened
check_tables-requires-clause-opened g c =
    let found = c.in_ok-area.ensures in
    opened_still found.passed.reads (record {
      geometry = geometry_still c.in_ok-geometry.ensures.passed.reads c.in_ok-geometry.ensures.geometry;
      log = found.area;
      commit = found.targets;
    })

pub check_inodes-requires-clause-opened : goal.check_inodes-requires-clause-opened
check_inodes-requires-clause-opened g c =
    let found = c.in_ok-area.ensures in
    opened_still (reads_joined found.passed.reads c.in_ok-inodes.ensures.passed.reads) (record {
      geometry = geometry_still c.in_ok-geometry.ensures.passed.reads c.in_ok-geometry.ensures.geometry;
      log = found.area;
      commit = found.targets;
    })

pub check_inodes-requires-clause-inodes : goal.check_inodes-requires-clause-inodes
check_inodes-requires-clause-inodes g c =
    let m = meaning (g.D.Disk.state c.check_tables.new.disk) in
    let read = c.in_ok-inodes.ensures in
    record {
      table = subst (AreInodes c.in_ok-geometry.geometry m) (sym c.deref.ensures.value)
          (table_still read.passed.reads read.table);
      before = before_still read.passed.reads read.before;
    }

pub check_tables-requires-clause-before : goal.check_tables-requires-clause-before
check_tables-requires-clause-before g c =
    findings.none_before c.in_ok-geometry.geometry (meaning (g.D.Disk.state c.open_commit.new.disk))

use Rattle.std.proofs.Common.{sym, subst}
use Rattle.fs_system.specs.Mounts.{IsNotMounted}
use Rattle.fs_system.specs.Seen.{disk_in}
use Rattle.fs_system.proofs.Checked.{then_mounts, then_refused, then_stands, then_stands_for_some}
use Rattle.fs_system.proofs.fs.Fs.mount_salted.Goals as goal

pub mount_checked-requires : goal.mount_checked-requires
mount_checked-requires g c =
    let clean = c.in_default.ensures.clean in
    then_stands_for_some (g.D.Disk.state c.args.disk) (g.D.Disk.state c.check.new.disk) c.in_default.ensures.passed.reads
    (g.met.D.Disk.seen_is_image c.args.disk).size clean.0 clean.1 clean.2 clean.3

pub returns-in-Ok-clause-mounted : goal.returns-in-Ok-clause-mounted
returns-in-Ok-clause-mounted g c =
    let m = c.in-Ok.ensures.mounted in (
      m.0,
      m.1,
      then_mounts (g.D.Disk.state c.args.disk) (g.D.Disk.state c.check.new.disk) c.in_default.ensures.passed.reads (disk_in g.D.Disk.state c.in-Ok.fs.base) m.0 m.2,
    )

pub returns-in-Ok-clause-any_moment : goal.returns-in-Ok-clause-any_moment
returns-in-Ok-clause-any_moment g c =
    then_stands (g.D.Disk.state c.args.disk) (g.D.Disk.state c.check.new.disk) c.in_default.ensures.passed.reads (g.met.D.Disk.only_now c.args.disk)
    (disk_in g.D.Disk.state c.in-Ok.fs.base) c.in-Ok.ensures.any_moment

pub returns-in-Err-mount_checked-clause-failed : goal.returns-in-Err-mount_checked-clause-failed
returns-in-Err-mount_checked-clause-failed g c =
    let old = g.D.Disk.state c.args.disk in
    let new = g.D.Disk.state c.in-Err-mount_checked.disk in
    subst (IsNotMounted old new) (sym c.from-in-Err-mount_checked.ensures)
    (then_refused old (g.D.Disk.state c.check.new.disk) c.in_default.ensures.passed.reads new c.in-Err-mount_checked.fault c.in-Err-mount_checked.ensures.failed)

pub returns-in-Err-mount_checked-clause-any_moment : goal.returns-in-Err-mount_checked-clause-any_moment
returns-in-Err-mount_checked-clause-any_moment g c =
    then_stands (g.D.Disk.state c.args.disk) (g.D.Disk.state c.check.new.disk) c.in_default.ensures.passed.reads (g.met.D.Disk.only_now c.args.disk)
    (g.D.Disk.state c.in-Err-mount_checked.disk) c.in-Err-mount_checked.ensures.any_moment

use Rattle.std.proofs.Common.{subst, sym, ◌∙◌, arith}
use Rattle.sector_disk.specs.Disk.{Image}
use Rattle.fs_images.specs.Standing.{StandsForSome}
use Rattle.fs_images.specs.Upgrading.{IsSuperOf}
use Rattle.fs_images.proofs.Causes.{first_cause, later_cause, on_err}
use Rattle.fs_images.proofs.Raising.{before_written, read_and_synced, raised_after, narrowed_joined, kept_version, synced_upgraded, upgraded_from, not_synced}
use Rattle.fs_images.proofs.upgrading.raise_version.Goals as goal

pub returns-in_err-superblock-clause-any_moment : goal.returns-in_err-superblock-clause-any_moment
returns-in_err-superblock-clause-any_moment g c =
    before_written (g.D.Disk.state c.args.disk.now) (g.D.Disk.state c.read_superblock.new.disk) (g.met.D.Disk.only_now c.args.disk.now)
    c.read_superblock.ensures.same.narrowed c.read_superblock.ensures.time

pub returns-in_err-sync-clause-any_moment : goal.returns-in_err-sync-clause-any_moment
returns-in_err-sync-clause-any_moment g c =
    read_and_synced (g.D.Disk.state c.args.disk.now) (g.D.Disk.state c.read_superblock.new.disk) (g.D.Disk.state c.sync.new.self)
    (g.met.D.Disk.only_now c.args.disk.now) c.read_superblock.ensures.same.narrowed c.read_superblock.ensures.time c.sync.ensures.changes c.sync.ensures.time

pub returns-in_default-clause-any_moment : goal.returns-in_default-clause-any_moment
returns-in_default-clause-any_moment g c =
    read_and_synced (g.D.Disk.state c.args.disk.now) (g.D.Disk.state c.read_superblock.new.disk) (g.D.Disk.state c.sync.new.self)
    (g.met.D.Disk.only_now c.args.disk.now) c.read_superblock.ensures.same.narrowed c.read_superblock.ensures.time c.sync.ensures.changes c.sync.ensures.time

pub returns-in_default-clause-upgraded : goal.returns-in_default-clause-upgraded
returns-in_default-clause-upgraded g c =
    let old = g.D.Disk.state c.args.disk.now in
    let new = g.D.Disk.state c.sync.new.self in
    let super = c.in_ok-superblock.superblock in
    synced_upgraded old new super c.requires c.in_ok-superblock.ensures.found (kept_version super.version c.in_default.not-One)
    (c.sync.ensures.changes.seen ∙ c.read_superblock.ensures.same.narrowed.seen) (g.met.D.Disk.seen_is_image c.sync.new.self) c.in_ok-sync.ensures.stable

pub write_raised-requires-clause-some : goal.write_raised-requires-clause-some
write_raised-requires-clause-some g c =
    subst StandsForSome (sym (narrowed_joined c.read_superblock.ensures.same.narrowed c.sync.ensures.changes).seen) c.requires

pub write_raised-requires-clause-found : goal.write_raised-requires-clause-found
write_raised-requires-clause-found g c =
    subst (λ (i : Image). IsSuperOf i c.in_ok-superblock.superblock) (sym (narrowed_joined c.read_superblock.ensures.same.narrowed c.sync.ensures.changes).seen)
    c.in_ok-superblock.ensures.found

pub write_raised-requires-clause-version : goal.write_raised-requires-clause-version
write_raised-requires-clause-version g c = c.in-One.is

pub returns-in_err-write_raised-in-One-clause-any_moment : goal.returns-in_err-write_raised-in-One-clause-any_moment
returns-in_err-write_raised-in-One-clause-any_moment g c =
    raised_after (g.D.Disk.state c.args.disk.now) (g.D.Disk.state c.read_superblock.new.disk) (g.D.Disk.state c.sync.new.self) (g.D.Disk.state c.write_raised.new.disk)
    (g.met.D.Disk.only_now c.args.disk.now) c.read_superblock.ensures.same.narrowed c.read_superblock.ensures.time c.sync.ensures.changes c.sync.ensures.time
    c.write_raised.ensures.any_moment

pub returns-in_ok-write_raised-in-One-clause-any_moment : goal.returns-in_ok-write_raised-in-One-clause-any_moment
returns-in_ok-write_raised-in-One-clause-any_moment g c =
    raised_after (g.D.Disk.state c.args.disk.now) (g.D.Disk.state c.read_superblock.new.disk) (g.D.Disk.state c.sync.new.self) (g.D.Disk.state c.write_raised.new.disk)
    (g.met.D.Disk.only_now c.args.disk.now) c.read_superblock.ensures.same.narrowed c.read_superblock.ensures.time c.sync.ensures.changes c.sync.ensures.time
    c.write_raised.ensures.any_moment

pub returns-in_ok-write_raised-in-One-clause-upgraded : goal.returns-in_ok-write_raised-in-One-clause-upgraded
returns-in_ok-write_raised-in-One-clause-upgraded g c =
    upgraded_from _ (g.D.Disk.state c.args.disk.now) (g.D.Disk.state c.sync.new.self) (g.D.Disk.state c.write_raised.new.disk)
    (c.sync.ensures.changes.seen ∙ c.read_superblock.ensures.same.narrowed.seen) c.in_ok-write_raised-in-One.ensures.upgraded

pub returns-in_ok-write_raised-in-One-clause-unwritten : goal.returns-in_ok-write_raised-in-One-clause-unwritten
returns-in_ok-write_raised-in-One-clause-unwritten g c = λ other. absurd (other (c.in_ok-superblock.superblock, c.in_ok-superblock.ensures.found, c.in-One.is))

pub returns-in_err-write_raised-in-One-clause-unwritten : goal.returns-in_err-write_raised-in-One-clause-unwritten
returns-in_err-write_raised-in-One-clause-unwritten g c = λ other. absurd (other (c.in_ok-superblock.superblock, c.in_ok-superblock.ensures.found, c.in-One.is))

pub returns-in_err-sync-clause-unwritten : goal.returns-in_err-sync-clause-unwritten
returns-in_err-sync-clause-unwritten g c = λ other.
    not_synced (g.D.Disk.state c.args.disk.now) (g.D.Disk.state c.read_superblock.new.disk) (g.D.Disk.state c.sync.new.self)
    c.from_residual-in_err-sync.result c.read_superblock.ensures.same c.in_err-sync.ensures.failed

pub returns-in_err-superblock-clause-unwritten : goal.returns-in_err-superblock-clause-unwritten
returns-in_err-superblock-clause-unwritten g c = λ _. record { narrowed = c.read_superblock.ensures.same.narrowed; failed = on_err c.from_residual.result c.read_superblock.ensures.same }

pub returns-in_default-clause-unwritten : goal.returns-in_default-clause-unwritten
returns-in_default-clause-unwritten g c = λ _. record { narrowed = narrowed_joined c.read_superblock.ensures.same.narrowed c.sync.ensures.changes; failed = tt }

pub write_raised-requires-clause-stable : goal.write_raised-requires-clause-stable
write_raised-requires-clause-stable g c = c.in_ok-sync.ensures.stable

pub returns-in_err-superblock-clause-size : goal.returns-in_err-superblock-clause-size
returns-in_err-superblock-clause-size g c = c.read_superblock.ensures.same.narrowed.size

pub returns-in_err-sync-clause-size : goal.returns-in_err-sync-clause-size
returns-in_err-sync-clause-size g c = c.sync.ensures.changes.size ∙ c.read_superblock.ensures.same.narrowed.size

pub returns-in_default-clause-size : goal.returns-in_default-clause-size
returns-in_default-clause-size g c = c.sync.ensures.changes.size ∙ c.read_superblock.ensures.same.narrowed.size

pub returns-in_err-write_raised-in-One-clause-size : goal.returns-in_err-write_raised-in-One-clause-size
returns-in_err-write_raised-in-One-clause-size g c = c.write_raised.ensures.size ∙ c.sync.ensures.changes.size ∙ c.read_superblock.ensures.same.narrowed.size

pub returns-in_ok-write_raised-in-One-clause-size : goal.returns-in_ok-write_raised-in-One-clause-size
returns-in_ok-write_raised-in-One-clause-size g c = c.write_raised.ensures.size ∙ c.sync.ensures.changes.size ∙ c.read_superblock.ensures.same.narrowed.size

pub returns-in_err-superblock-clause-cause : goal.returns-in_err-superblock-clause-cause
returns-in_err-superblock-clause-cause g c =
    first_cause (g.D.Disk.state c.args.disk.now) (g.D.Disk.state c.read_superblock.new.disk) c.in_err-superblock.ensures.cause c.from_residual.result

pub returns-in_err-sync-clause-cause : goal.returns-in_err-sync-clause-cause
returns-in_err-sync-clause-cause g c =
    later_cause (g.D.Disk.state c.args.disk.now) (g.D.Disk.state c.read_superblock.new.disk) (g.D.Disk.state c.sync.new.self) c.read_superblock.ensures.cause.later
    c.in_err-sync.ensures.cause c.from_residual-in_err-sync.result

pub returns-in_default-clause-cause : goal.returns-in_default-clause-cause
returns-in_default-clause-cause g c = record { later = omega (arith, c.read_superblock.ensures.cause.later, c.sync.ensures.cause.later); fault = tt }

pub returns-in_err-write_raised-in-One-clause-cause : goal.returns-in_err-write_raised-in-One-clause-cause
returns-in_err-write_raised-in-One-clause-cause g c =
    later_cause (g.D.Disk.state c.args.disk.now) (g.D.Disk.state c.sync.new.self) (g.D.Disk.state c.write_raised.new.disk)
    (omega (arith, c.read_superblock.ensures.cause.later, c.sync.ensures.cause.later)) c.in_err-write_raised-in-One.ensures.cause
    c.from_residual-in_err-write_raised-in-One.result

pub returns-in_ok-write_raised-in-One-clause-cause : goal.returns-in_ok-write_raised-in-One-clause-cause
returns-in_ok-write_raised-in-One-clause-cause g c = record {
  later = omega (arith, c.read_superblock.ensures.cause.later, c.sync.ensures.cause.later, c.write_raised.ensures.cause.later);
  fault = tt;
}

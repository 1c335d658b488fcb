use Rattle.std.proofs.Common.{◌∙◌, ℕ, arith, sym, subst}
use Rattle.sector_disk.specs.Disk.{sector}
use Rattle.fs_model.specs.Stands.{Stands}
use Rattle.fs_images.specs.Standing.{StandsForSome}
use Rattle.fs_images.proofs.Raising.{check_then, then_upgraded, then_narrowed, check_failed, device_failed}
use Rattle.sector_disk.proofs.Moments.{failed_later}
use Rattle.fs_images.proofs.upgrading.upgrade.Goals as goal

pub raise_version-requires : goal.raise_version-requires
raise_version-requires g c =
    let old = g.D.Disk.state c.args.disk.now in
    let clean = c.in_ok-check.ensures.clean in
    let size = (g.met.D.Disk.seen_is_image c.args.disk.now).size in
    subst StandsForSome (sym c.check.ensures.passed.reads.narrowed.seen)
    (clean.0, clean.1, clean.2, subst (λ (k : ℕ). Stands k (sector old.seen) clean.0 clean.1 clean.2) (sym size) clean.3)

pub returns-in_err-raise_version-clause-any_moment : goal.returns-in_err-raise_version-clause-any_moment
returns-in_err-raise_version-clause-any_moment g c =
    check_then (g.D.Disk.state c.args.disk.now) (g.D.Disk.state c.check.new.disk) c.check.ensures.passed.reads
    (g.D.Disk.state c.raise_version.new.disk) (g.met.D.Disk.only_now c.args.disk.now) c.raise_version.ensures.any_moment

pub returns-in_err-raise_version-clause-unwritten : goal.returns-in_err-raise_version-clause-unwritten
returns-in_err-raise_version-clause-unwritten g c =
    then_narrowed (g.D.Disk.state c.args.disk.now) (g.D.Disk.state c.check.new.disk) c.check.ensures.passed.reads
    (g.D.Disk.state c.raise_version.new.disk) c.raise_version.result c.raise_version.ensures.unwritten

pub returns-clause-any_moment : goal.returns-clause-any_moment
returns-clause-any_moment g c =
    check_then (g.D.Disk.state c.args.disk.now) (g.D.Disk.state c.check.new.disk) c.check.ensures.passed.reads
    (g.D.Disk.state c.raise_version.new.disk) (g.met.D.Disk.only_now c.args.disk.now) c.raise_version.ensures.any_moment

pub returns-clause-unwritten : goal.returns-clause-unwritten
returns-clause-unwritten g c =
    then_narrowed (g.D.Disk.state c.args.disk.now) (g.D.Disk.state c.check.new.disk) c.check.ensures.passed.reads
    (g.D.Disk.state c.raise_version.new.disk) c.raise_version.result c.raise_version.ensures.unwritten

pub returns-clause-upgraded : goal.returns-clause-upgraded
returns-clause-upgraded g c =
    then_upgraded (g.D.Disk.state c.args.disk.now) (g.D.Disk.state c.check.new.disk) c.check.ensures.passed.reads
    _ (g.D.Disk.state c.raise_version.new.disk) c.in_ok-raise_version.ensures.upgraded

pub returns-clause-size : goal.returns-clause-size
returns-clause-size g c = c.raise_version.ensures.size ∙ c.check.ensures.passed.reads.narrowed.size

pub returns-in_err-raise_version-clause-size : goal.returns-in_err-raise_version-clause-size
returns-in_err-raise_version-clause-size g c = c.raise_version.ensures.size ∙ c.check.ensures.passed.reads.narrowed.size

pub returns-in_err-check-clause-size : goal.returns-in_err-check-clause-size
returns-in_err-check-clause-size g c = c.check.ensures.passed.reads.narrowed.size

pub returns-in_err-check-clause-failures : goal.returns-in_err-check-clause-failures
returns-in_err-check-clause-failures g c = c.check.ensures.passed.reads.failures

pub returns-in_err-raise_version-clause-failures : goal.returns-in_err-raise_version-clause-failures
returns-in_err-raise_version-clause-failures g c = omega (arith, c.check.ensures.passed.reads.failures, c.raise_version.ensures.cause.later)

pub returns-clause-failures : goal.returns-clause-failures
returns-clause-failures g c = omega (arith, c.check.ensures.passed.reads.failures, c.raise_version.ensures.cause.later)

pub returns-in_err-check-clause-unwritten : goal.returns-in_err-check-clause-unwritten
returns-in_err-check-clause-unwritten g c = λ _. c.check.ensures.passed.reads.narrowed

pub returns-in_err-check-clause-failed : goal.returns-in_err-check-clause-failed
returns-in_err-check-clause-failed g c =
    check_failed (g.D.Disk.state c.args.disk.now) (g.D.Disk.state c.check.new.disk) _ c.from_residual.result c.from_residual.ensures.1 c.in_err-check.ensures.passed

pub returns-in_err-raise_version-clause-failed : goal.returns-in_err-raise_version-clause-failed
returns-in_err-raise_version-clause-failed g c =
    let left = c.from_residual-in_err-raise_version in
    device_failed (g.D.Disk.state c.args.disk.now) (g.D.Disk.state c.raise_version.new.disk) left.result left.ensures.1
    (failed_later (g.D.Disk.state c.args.disk.now) (g.D.Disk.state c.check.new.disk) (g.D.Disk.state c.raise_version.new.disk) c.check.ensures.passed.reads.failures
    c.in_err-raise_version.ensures.cause.fault)

use Rattle.std.proofs.Common.{refl}
use Rattle.fs_program.proofs.Sessions.{fuse_job_ends}
use Rattle.fs_program.proofs.jobs.perform_job.Goals as goal

pub returns-in-Mkfs : goal.returns-in-Mkfs
returns-in-Mkfs g c = rw c.in-Mkfs.is (c.make_image.ensures _ _ _ c.older_layout.ensures.value)

pub returns-in-Format : goal.returns-in-Format
returns-in-Format g c = rw c.in-Format.is (c.make_image-in-Format.ensures _ _ _ c.newest_layout.ensures.value)

pub returns-in-Pack : goal.returns-in-Pack
returns-in-Pack g c = rw c.in-Pack.is (refl, c.pack_image.ensures _ _ c.newest_layout-layout.ensures.value)

pub returns-in-Unpack : goal.returns-in-Unpack
returns-in-Unpack g c = rw c.in-Unpack.is (refl, c.unpack_image.ensures)

pub returns-in-Run : goal.returns-in-Run
returns-in-Run g c = rw c.in-Run.is (rw c.as_ref.ensures.value at c.run_image.ensures)

pub returns-in-Check : goal.returns-in-Check
returns-in-Check g c = rw c.in-Check.is c.check_image.ensures

pub returns-in-Info : goal.returns-in-Info
returns-in-Info g c = rw c.in-Info.is c.describe_image.ensures

pub returns-in-Upgrade : goal.returns-in-Upgrade
returns-in-Upgrade g c = rw c.in-Upgrade.is c.upgrade_image.ensures

pub returns-in-Fuse : goal.returns-in-Fuse
returns-in-Fuse g c =
    let served = rw c.as_ref-in-Fuse.ensures.value at c.serve_image.ensures in
    rw c.in-Fuse.is (fuse_job_ends _ _ g.P.Processes.Shows _ _ _ _ _ _ served (λ k. k.processes) (λ old new x does. does) c.args.processes c.new-kernel.ensures)

pub returns-in-Access : goal.returns-in-Access
returns-in-Access g c = rw c.in-Access.is (rw (c.new-question.ensures, c.as_str.ensures) at c.ask_image.ensures)

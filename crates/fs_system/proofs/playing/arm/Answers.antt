use Rattle.fs_system.proofs.Played.{system_arms, disk_arms, still_mounts}
use Rattle.fs_system.proofs.playing.arm.Goals as goal

pub returns-in-Ok-clause-answers : goal.returns-in-Ok-clause-answers
returns-in-Ok-clause-answers g c =
    let kept = c.arm.ensures in
    rw c.in-Ok.is (system_arms g.D.Disk.state c.in-Ok.fs c.arm.new.self kept.state kept.same kept.failures c.args.passes)

pub returns-in-Err-clause-answers : goal.returns-in-Err-clause-answers
returns-in-Err-clause-answers g c =
    let kept = c.arm-in-Err.ensures in
    rw c.in-Err.is (disk_arms g.D.Disk.state c.in-Err.disk c.arm-in-Err.new.self c.args.passes kept.same kept.failures)

pub returns-in-Err-clause-again : goal.returns-in-Err-clause-again
returns-in-Err-clause-again g c =
    still_mounts g.D.Disk.state c.in-Err.disk c.arm-in-Err.new.self c.arm-in-Err.ensures.same (let may = c.requires in rw c.in-Err.is at may)

use Rattle.fs_system.proofs.Played.{restart_mounts, restart_fails, fault_of_restart, fails_for, failed_stands, stopped_stands}
use Rattle.fs_system.proofs.playing.restart.Goals as goal

pub restart_fault-requires : goal.restart_fault-requires
restart_fault-requires g c =
    let state = g.D.Disk.state in
    fault_of_restart (state c.stop-disk.result) (state c.in-Err.disk) (g.met.D.Disk.seen_is_image c.stop-disk.result).size c.stop-disk.ensures.stands
    c.in-Err.fault c.in-Err.ensures.failed

pub returns-in-Ok-clause-answers : goal.returns-in-Ok-clause-answers
returns-in-Ok-clause-answers g c =
    let m = c.in-Ok.ensures.mounted in
    restart_mounts g.D.Disk.state c.args.served c.into_disk.result c.stop-disk.result c.into_disk.ensures.disk c.stop-disk.ensures.stopped
    c.args.choice.now c.args.passes c.in-Ok.fs m.0 m.1 m.2

pub returns-in-Err-clause-answers : goal.returns-in-Err-clause-answers
returns-in-Err-clause-answers g c =
    let state = g.D.Disk.state in
    restart_fails state c.args.served c.into_disk.result c.stop-disk.result c.into_disk.ensures.disk c.stop-disk.ensures.stopped
    c.args.choice.now c.args.passes c.in-Err.disk c.restart_fault.result
    (fails_for (state c.stop-disk.result) (state c.in-Err.disk) c.in-Err.fault c.restart_fault.result c.restart_fault.ensures c.in-Err.ensures.failed)

pub returns-in-Err-clause-again : goal.returns-in-Err-clause-again
returns-in-Err-clause-again g c =
    let state = g.D.Disk.state in
    failed_stands (state c.stop-disk.result) (state c.in-Err.disk) c.restart_fault.result
    (stopped_stands (state c.into_disk.result) (state c.stop-disk.result) c.stop-disk.ensures.stopped c.stop-disk.ensures.stands)
    (fails_for (state c.stop-disk.result) (state c.in-Err.disk) c.in-Err.fault c.restart_fault.result c.restart_fault.ensures c.in-Err.ensures.failed)

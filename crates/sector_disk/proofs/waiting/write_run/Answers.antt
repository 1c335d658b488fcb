use Rattle.std.proofs.Common.{refl, subst}
use Rattle.std.specs.Prelude.{IfSome, OnOk}
use Rattle.sector_disk.specs.Disk.{Image}
use Rattle.sector_disk.specs.Record.{recorded_state}
use Rattle.sector_disk.specs.Files.{IfKnown, IsRunTried, HasRun}
use Rattle.sector_disk.proofs.Following.{run_to}
use Rattle.sector_disk.proofs.waiting.write_run.Goals as goal

pub returns-in-Some-clause-tried : goal.returns-in-Some-clause-tried
returns-in-Some-clause-tried g c =
    let memory = c.args.memory.now in
    subst (λ (r : Image). IfKnown (IsRunTried c.args.first r) (g.F.DiskFile.held c.args.file.now) (g.F.DiskFile.held c.write_run.new.self))
    (run_to (recorded_state memory.history memory.failures).seen c.args.first c.args.end _ c.args.buffer.now c.in-Some.stored.now c.in-Some.ensures refl c.requires.order c.requires.room) c.write_run.ensures.tried

pub returns-in-Some-clause-done : goal.returns-in-Some-clause-done
returns-in-Some-clause-done g c =
    let memory = c.args.memory.now in
    subst (λ (r : Image). OnOk c.write_run.result (IfSome (g.F.DiskFile.held c.write_run.new.self) (HasRun c.args.first r)))
    (run_to (recorded_state memory.history memory.failures).seen c.args.first c.args.end _ c.args.buffer.now c.in-Some.stored.now c.in-Some.ensures refl c.requires.order c.requires.room) c.write_run.ensures.done

pub returns-clause-tried : goal.returns-clause-tried
returns-clause-tried g c =
    let memory = c.args.memory.now in
    subst (λ (r : Image). IfKnown (IsRunTried c.args.first r) (g.F.DiskFile.held c.args.file.now) (g.F.DiskFile.held c.write_run-2.new.self))
    (run_to (recorded_state memory.history memory.failures).seen c.args.first c.args.end _ c.args.buffer.now c.copy_run.new.to c.copy_run.ensures c.copy_run.auto.to c.requires.order c.requires.room) c.write_run-2.ensures.tried

pub returns-clause-done : goal.returns-clause-done
returns-clause-done g c =
    let memory = c.args.memory.now in
    subst (λ (r : Image). OnOk c.write_run-2.result (IfSome (g.F.DiskFile.held c.write_run-2.new.self) (HasRun c.args.first r)))
    (run_to (recorded_state memory.history memory.failures).seen c.args.first c.args.end _ c.args.buffer.now c.copy_run.new.to c.copy_run.ensures c.copy_run.auto.to c.requires.order c.requires.room) c.write_run-2.ensures.done

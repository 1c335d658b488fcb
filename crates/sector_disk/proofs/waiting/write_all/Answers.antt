use Rattle.std.proofs.Common.{◌≤◌, ◌+◌, arith}
use Rattle.sector_disk.specs.Record.{recorded_state}
use Rattle.sector_disk.specs.Replay.{seen_is_image}
use Rattle.sector_disk.proofs.Following.{before_less, before_all, follows_tried_before, follows_done_before}
use Rattle.sector_disk.proofs.waiting.write_all.Goals as goal

pub returns-in_err-write_run-clause-follows : goal.returns-in_err-write_run-clause-follows
returns-in_err-write_run-clause-follows g c =
    let memory = c.args.memory.now in
    let at = c.loop-at.at in
    let least = c.min-len.ensures in
    let held = c.loop-at.invariant.fits in
    before_less (recorded_state memory.history memory.failures) at 0 (g.F.DiskFile.held c.write_run.new.file) (omega arith)
    (follows_tried_before (recorded_state memory.history memory.failures) at at (at + c.min-len.result) (g.F.DiskFile.held c.loop-at.file) (g.F.DiskFile.held c.write_run.new.file)
    (seen_is_image memory.history memory.failures) (omega arith) (omega (arith, least, held, c.size-size.ensures)) c.write_run.ensures.tried c.loop-at.invariant.follows)

pub loop-at-preserved : goal.loop-at-preserved
loop-at-preserved g c =
    let memory = c.args.memory.now in
    let disk = recorded_state memory.history memory.failures in
    let at = c.loop-at.at in
    let new = g.F.DiskFile.held c.write_run.new.file in
    let least = c.min-len.ensures in
    let held = c.loop-at.invariant.fits in
    let fits : at + c.min-len.result ≤ disk.size = omega (arith, least, held, c.size-size.ensures) in
    record {
      fits = omega (arith, least, held);
      follows =
          follows_done_before disk at (at + c.min-len.result) new (seen_is_image memory.history memory.failures) (omega arith) fits c.in_ok-write_run.ensures.done
          (follows_tried_before disk at at (at + c.min-len.result) (g.F.DiskFile.held c.loop-at.file) new (seen_is_image memory.history memory.failures) (omega arith) fits
          c.write_run.ensures.tried c.loop-at.invariant.follows);
    }

pub returns-clause-follows : goal.returns-clause-follows
returns-clause-follows g c =
    let memory = c.args.memory.now in
    before_less (recorded_state memory.history memory.failures) c.loop-at.at 0 (g.F.DiskFile.held c.loop-at.file) (omega arith) c.loop-at.invariant.follows

pub returns-clause-done : goal.returns-clause-done
returns-clause-done g c =
    let memory = c.args.memory.now in
    let past = c.loop-at-test.false in
    before_all (recorded_state memory.history memory.failures) c.loop-at.at (g.F.DiskFile.held c.loop-at.file) (omega (arith, past, c.size-size.ensures)) c.loop-at.invariant.follows

use Rattle.std.proofs.Common.{arith, false, subst, drop, ◌≤◌, ◌<◌, ℕ, List, slice_index}
use Rattle.std.proofs.lemmas.List.{take_rest}
use Rattle.sector_disk.specs.Record.{recorded_state}
use Rattle.sector_disk.specs.Replay.{seen_is_image}
use Rattle.sector_disk.proofs.Following.{run_failed, run_done, follows_more, follows_all, later}
use Rattle.sector_disk.proofs.waiting.write_waiting.Goals as goal

pub returns-in_err-write_run-clause-follows : goal.returns-in_err-write_run-clause-follows
returns-in_err-write_run-clause-follows g c =
    let memory = c.args.memory.now in
    let run = c.first_run-run.result in
    run_failed (recorded_state memory.history memory.failures) c.args.waiting.now c.loop-at.at run.first run.end (g.F.DiskFile.held c.loop-at.file) (g.F.DiskFile.held c.write_run.new.file)
    (seen_is_image memory.history memory.failures) c.first_run-run.ensures.order (subst (λ n. run.end ≤ n) c.size.ensures c.first_run-run.ensures.end) c.write_run.ensures.tried
    c.loop-at.invariant.follows

pub loop-at-preserved : goal.loop-at-preserved
loop-at-preserved g c =
    let memory = c.args.memory.now in
    let run = c.first_run-run.result in
    record {
      fits = omega arith;
      follows =
          run_done (recorded_state memory.history memory.failures) c.args.waiting.now c.loop-at.at run.count run.first run.end (g.F.DiskFile.held c.loop-at.file)
          (g.F.DiskFile.held c.write_run.new.file) (seen_is_image memory.history memory.failures) c.first_run-run.ensures.order
          (subst (λ n. run.end ≤ n) c.size.ensures c.first_run-run.ensures.end)
          (subst (λ (rest : List ℕ). (i : ℕ) → i < run.count → (run.first ≤ slice_index rest i) × (slice_index rest i < run.end)) (take_rest c.args.waiting.now c.loop-at.at) c.first_run-run.ensures.within)
          c.write_run.ensures.tried c.in_ok-write_run.ensures.done c.loop-at.invariant.follows;
    }

pub returns-clause-follows : goal.returns-clause-follows
returns-clause-follows g c =
    let memory = c.args.memory.now in
    follows_more (recorded_state memory.history memory.failures) (drop c.loop-at.at c.args.waiting.now) c.args.waiting.now false (g.F.DiskFile.held c.loop-at.file) (later c.args.waiting.now c.loop-at.at) c.loop-at.invariant.follows

pub returns-clause-done : goal.returns-clause-done
returns-clause-done g c =
    let memory = c.args.memory.now in
    follows_all (recorded_state memory.history memory.failures) c.args.waiting.now c.loop-at.at (g.F.DiskFile.held c.loop-at.file) c.loop-at-test.false c.loop-at.invariant.follows

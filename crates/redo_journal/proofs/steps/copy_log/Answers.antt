use Rattle.std.proofs.Common.{◌≡◌, ◌<◌, ◌+◌, ◌∙◌, [], length, get_or, set, arith, ap, refl, get_or-set_other}
use Rattle.sector_disk.specs.Disk.{Image, sector}
use Rattle.sector_disk.proofs.Moments.{adds_write, adds_narrowed, goes_on, image_or}
use Rattle.fs_layout.specs.Header.{area_start}
use Rattle.fs_layout.proofs.Targets.{area_room}
use Rattle.redo_journal.proofs.Entries.{apart_at, in_at, range_at}
use Rattle.redo_journal.proofs.Writing.{run_more, run_none, written_more}
use Rattle.std.proofs.lemmas.Result.{IfOk-from_err}
use Rattle.redo_journal.proofs.Causes.{cause_on, cause_since, cause_then, well_cause, well_counted}
use Rattle.redo_journal.proofs.steps.copy_log.Goals as goal

pub loop-target-init : goal.loop-target-init
loop-target-init g c = record { from = omega (arith, c.area_start.ensures); most = c.requires.most; valid = c.requires.valid; low = λ n low. refl; written = λ k lt. absurd (omega (arith, lt)); run = run_none (g.met.D.Disk.only_now c.args.disk.now) }

pub loop-target-preserved : goal.loop-target-preserved
loop-target-preserved g c =
    let so_far = c.loop-target.invariant in
    let sectors = c.args.sectors.now in
    let i = c.loop-target.target-index in
    let lt : i < length sectors = c.loop-target-test.true in
    let first = g.D.Disk.state c.args.disk.now in
    let last = g.D.Disk.state c.loop-target.disk in
    let after = g.D.Disk.state c.write.new.self in
    let few = so_far.valid.few in
    let header = c.args.header in
    let range = range_at header first.size sectors so_far.valid i lt in
    let whole : length last.seen ≡ last.size = (g.met.D.Disk.seen_is_image c.loop-target.disk).size in
    let fits : get_or sectors i 0 < length last.seen = omega (arith, whole, so_far.run.adds.size, range.1) in
    let begin = area_start header c.args.area in
    let room = area_room header c.args.area in
    let content : c.read.new.to ≡ sector first.seen (begin + header + i) =
    c.in_ok-read.ensures.content ∙ so_far.low c.loop-target.from (omega (arith, so_far.from, lt, few, room.1)) ∙ ap (sector first.seen) so_far.from in
    let put : after.seen ≡ set last.seen (get_or sectors i 0) c.read.new.to =
    c.in_ok-write.ensures.written.seen ∙ ap (λ (l : Image). set l (get_or sectors i 0) c.read.new.to) c.read.ensures.same.narrowed.seen in
    let read = adds_narrowed so_far.run.adds c.read.ensures.same.narrowed in
    let adds = adds_write read c.write.ensures.changes (λ k content is same. in_at sectors i k content lt is) in
    record {
      from = omega (arith, so_far.from);
      most = so_far.most;
      valid = so_far.valid;
      low = λ n low.
          ap (λ (l : Image). sector l n) put
          ∙ get_or-set_other last.seen (get_or sectors i 0) n c.read.new.to [] (λ (e : n ≡ get_or sectors i 0). omega (arith, low, e, range.0))
          ∙ so_far.low n low;
      written =
          written_more (λ k. get_or sectors k 0) (λ k. sector first.seen (begin + header + k)) last.seen after.seen i fits
          (put ∙ ap (set last.seen (get_or sectors i 0)) content)
          (λ k low same. apart_at sectors so_far.valid.apart k i low lt same) so_far.written;
      run = run_more (run_more so_far.run read c.read.ensures.time c.read.ensures.cause.later c.read.ensures.quiet) adds c.write.ensures.time c.write.ensures.cause.later c.in_ok-write.ensures.told.quiet;
    }

pub read-requires : goal.read-requires
read-requires g c =
    let so_far = c.loop-target.invariant in
    let range = range_at c.args.header (g.D.Disk.state c.args.disk.now).size c.args.sectors.now so_far.valid c.loop-target.target-index c.loop-target-test.true in
    let room = area_room c.args.header c.args.area in
    omega (arith, so_far.from, c.loop-target-test.true, so_far.valid.few, range.0, range.1, room.1, so_far.run.adds.size)

pub write-requires : goal.write-requires
write-requires g c =
    let so_far = c.loop-target.invariant in
    let range = range_at c.args.header (g.D.Disk.state c.args.disk.now).size c.args.sectors.now so_far.valid c.loop-target.target-index c.loop-target-test.true in
    omega (arith, range.1, so_far.run.adds.size, c.read.ensures.same.narrowed.size)

pub returns : goal.returns
returns g c =
    let so_far = c.loop-target.invariant in
    record { written = λ k lt. so_far.written k (omega (arith, lt, c.loop-target-test.false)); adds = so_far.run.adds; any_moment = so_far.run.since; cause = well_cause so_far.run.well; counted = well_counted so_far.run.well }

pub returns-in_err-read : goal.returns-in_err-read
returns-in_err-read g c =
    let r = c.from_residual.result in
    let err = c.from_residual.ensures.0 in
    let so_far = c.loop-target.invariant in
    let adds = adds_narrowed so_far.run.adds c.read.ensures.same.narrowed in
    record { written = IfOk-from_err r _ err; adds = adds; any_moment = goes_on so_far.run.since c.read.ensures.time (image_or adds); cause = cause_on r err (cause_since so_far.run.well.failures c.in_err-read.ensures.cause); counted = record { later = omega (arith, so_far.run.well.quiet, c.read.ensures.quiet); quiet = IfOk-from_err r _ err } }

pub returns-in_err-write : goal.returns-in_err-write
returns-in_err-write g c =
    let so_far = c.loop-target.invariant in
    let read = adds_narrowed so_far.run.adds c.read.ensures.same.narrowed in
    let adds = adds_write read c.write.ensures.changes (λ k content is same. in_at c.args.sectors.now c.loop-target.target-index k content c.loop-target-test.true is) in
    let r = c.from_residual-in_err-write.result in
    let err = c.from_residual-in_err-write.ensures.0 in
    record {
      written = IfOk-from_err r _ err;
      adds = adds;
      any_moment = goes_on (goes_on so_far.run.since c.read.ensures.time (image_or read)) c.write.ensures.time (image_or adds);
      cause = cause_on r err (cause_since so_far.run.well.failures (cause_then c.read.ensures.cause c.in_err-write.ensures.cause));
      counted = record { later = omega (arith, so_far.run.well.quiet, c.read.ensures.quiet, c.write.ensures.told.later); quiet = IfOk-from_err r _ err };
    }

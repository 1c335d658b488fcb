use Rattle.std.proofs.Common.{◌≡◌, ◌<◌, ◌+◌, ◌∙◌, ℕ, List, [], length, get_or, arith, refl, subst, set, ap}
use Rattle.sector_disk.proofs.Moments.{adds_write, goes_on, image_or}
use Rattle.fs_layout.specs.Header.{area_start}
use Rattle.fs_layout.proofs.Targets.{area_room}
use Rattle.redo_journal.proofs.Entries.{content_is, length-contents}
use Rattle.redo_journal.proofs.Writing.{other_kept, run_more, run_none, written_more, written_other}
use Rattle.redo_journal.proofs.Causes.{cause_on, cause_since, told_on, told_since, well_cause, well_told}
use Rattle.std.proofs.lemmas.Result.{IfOk-from_err}
use Rattle.redo_journal.proofs.steps.write_log.Goals as goal

pub loop-content-init : goal.loop-content-init
loop-content-init g c =
    let of_contents = c.contents-content-items.ensures.contents in
    record { at = omega (arith, c.area_start.ensures); most = c.requires.most; few = omega (arith, c.requires.few, ap length of_contents, length-contents c.args.batch.now.entries); room = c.requires.room; others = λ n out. refl; written = λ k lt. absurd (omega (arith, lt)); run = run_none (g.met.D.Disk.only_now c.args.disk.now) }

pub loop-content-preserved : goal.loop-content-preserved
loop-content-preserved g c =
    let so_far = c.loop-content.invariant in
    let items = c.contents-content-items.result.now in
    let i = c.loop-content.content-index in
    let last = g.D.Disk.state c.loop-content.disk in
    let after = g.D.Disk.state c.write.new.self in
    let whole : length last.seen ≡ last.size = (g.met.D.Disk.seen_is_image c.loop-content.disk).size in
    let header = c.args.header in
    let from = area_start header c.args.area in
    let range = area_room header c.args.area in
    let lt = c.loop-content-test.true in
    let fits : from + header + i < length last.seen = omega (arith, whole, so_far.at, so_far.room, so_far.few, so_far.run.adds.size, lt, range.1) in
    let put : after.seen ≡ set last.seen (from + header + i) (get_or items i []) = subst (λ n. after.seen ≡ set last.seen n (get_or items i [])) so_far.at c.in_ok-write.ensures.written.seen in
    let adds = adds_write so_far.run.adds c.write.ensures.changes (λ k content is same. (omega (arith, is, so_far.at), omega (arith, is, so_far.at, so_far.few, c.loop-content-test.true))) in
    record {
      at = omega (arith, so_far.at);
      most = so_far.most;
      few = so_far.few;
      room = so_far.room;
      others = λ n out.
          written_other last.seen after.seen (from + header + i) n (get_or items i []) put (λ e. out (omega (arith, e)) (omega (arith, e, lt, so_far.few))) ∙ so_far.others n out;
      written =
          written_more (λ k. from + header + k) (λ k. get_or items k []) last.seen after.seen i fits
          put
          (λ k lt same. omega (arith, lt, same)) so_far.written;
      run = run_more so_far.run adds c.write.ensures.time c.write.ensures.cause.later c.in_ok-write.ensures.told.quiet;
    }

pub returns : goal.returns
returns g c =
    let so_far = c.loop-content.invariant in
    let of_contents = c.contents-content-items.ensures.contents in
    let all = length-contents c.args.batch.now.entries in
    record {
      written = λ k lt.
          so_far.written k (omega (arith, lt, c.loop-content-test.false, ap length of_contents, all))
          ∙ ap (λ (l : List (List ℕ)). get_or l k []) of_contents ∙ content_is c.args.batch.now.entries k lt;
      others = so_far.others;
      adds = so_far.run.adds;
      any_moment = so_far.run.since;
      cause = well_cause so_far.run.well;
      told = well_told so_far.run.well;
    }

pub returns-in_err-write : goal.returns-in_err-write
returns-in_err-write g c =
    let so_far = c.loop-content.invariant in
    let adds = adds_write so_far.run.adds c.write.ensures.changes (λ k content is same. (omega (arith, is, so_far.at), omega (arith, is, so_far.at, so_far.few, c.loop-content-test.true))) in
    let r = c.from_residual.result in
    let err = c.from_residual.ensures.0 in
    record {
      written = IfOk-from_err r _ err;
      others = λ n out.
          other_kept (g.D.Disk.state c.loop-content.disk).seen (g.D.Disk.state c.write.new.self).seen c.loop-content.at n (get_or c.contents-content-items.result.now c.loop-content.content-index []) c.write.ensures.changes.seen
          (λ e. out (omega (arith, e, so_far.at)) (omega (arith, e, so_far.at, so_far.few, c.loop-content-test.true)))
          ∙ so_far.others n out;
      adds = adds;
      any_moment = goes_on so_far.run.since c.write.ensures.time (image_or adds);
      cause = cause_on r err (cause_since so_far.run.well.failures c.in_err-write.ensures.cause);
      told = told_on r err (told_since so_far.run.well.quiet c.in_err-write.ensures.told);
    }

pub write-requires : goal.write-requires
write-requires g c =
    let so_far = c.loop-content.invariant in
    let range = area_room c.args.header c.args.area in
    omega (arith, so_far.at, so_far.room, so_far.few, so_far.run.adds.size, c.loop-content-test.true, range.1)

use Rattle.std.proofs.Common.{◌≡◌, ◌<◌, ◌∙◌, [], ◌∷◌, length, set, arith, refl, length-append}
use Rattle.sector_disk.proofs.Moments.{adds_write, goes_on, image_or}
use Rattle.redo_journal.specs.Batch.{target_at, content_at}
use Rattle.redo_journal.proofs.Absorbing.{on_disk_at}
use Rattle.redo_journal.proofs.Entries.{entry_end, entry_turn, in_targets, targets_apart}
use Rattle.redo_journal.proofs.Writing.{run_more, run_none, written_more, written_other, written_so}
use Rattle.std.proofs.lemmas.Result.{IfOk-from_err}
use Rattle.redo_journal.proofs.Causes.{cause_on, cause_since, told_on, told_since, well_cause, well_told}
use Rattle.redo_journal.proofs.steps.write_targets.Goals as goal

pub loop-n-init : goal.loop-n-init
loop-n-init g c = record { on_disk = c.requires; written = λ k lt. absurd (omega (arith, lt)); others = λ n none. refl; run = run_none (g.met.D.Disk.only_now c.args.disk.now) }

pub write-requires : goal.write-requires
write-requires g c =
    let so_far = c.loop-n.invariant in
    let next = entry_turn c.args.batch.now.entries c.contents.result.now c.loop-n.yielded c.loop-n.n-iterator c.next.new.self c.next.result c.into_iter-n-iterator.ensures.into_iter_gives c.zip-n-items.ensures.first c.iter.ensures.rest c.sectors.ensures.sectors c.zip-n-items.ensures.second.0 c.contents.ensures.contents c.loop-n.yielded_by c.next.ensures.steps (c.in-Some.n, c.in-Some.content) c.in-Some.is in
    omega (arith, so_far.run.adds.size, next.1, (on_disk_at _ _ c.args.batch.now.entries (length c.loop-n.yielded) so_far.on_disk next.0).1)

pub loop-n-preserved : goal.loop-n-preserved
loop-n-preserved g c =
    let so_far = c.loop-n.invariant in
    let entries = c.args.batch.now.entries in
    let i = length c.loop-n.yielded in
    let next = entry_turn entries c.contents.result.now c.loop-n.yielded c.loop-n.n-iterator c.next.new.self c.next.result c.into_iter-n-iterator.ensures.into_iter_gives c.zip-n-items.ensures.first c.iter.ensures.rest c.sectors.ensures.sectors c.zip-n-items.ensures.second.0 c.contents.ensures.contents c.loop-n.yielded_by c.next.ensures.steps (c.in-Some.n, c.in-Some.content) c.in-Some.is in
    let last = g.D.Disk.state c.loop-n.disk in
    let after = g.D.Disk.state c.write.new.self in
    let whole : length last.seen ≡ last.size = (g.met.D.Disk.seen_is_image c.loop-n.disk).size in
    let fits : target_at entries i < length last.seen = omega (arith, whole, so_far.run.adds.size, (on_disk_at _ _ entries i so_far.on_disk next.0).1) in
    let written : after.seen ≡ set last.seen (target_at entries i) (content_at entries i) = written_so last.seen after.seen c.in-Some.n.now (target_at entries i) c.in-Some.content.now (content_at entries i) c.in_ok-write.ensures.written.seen next.1 next.2 in
    let adds = adds_write so_far.run.adds c.write.ensures.changes (λ k content is same. in_targets entries i k content next.0 (is ∙ next.1)) in
    record {
      on_disk = so_far.on_disk;
      written = λ k lt.
          written_more (target_at entries) (content_at entries) last.seen after.seen i fits written (λ k lt same. targets_apart entries c.sectors.ensures.batch.apart k i lt next.0 same) so_far.written k
          (omega (arith, lt, length-append c.loop-n.yielded ((c.in-Some.n, c.in-Some.content) ∷ [])));
      others = λ n none.
          written_other last.seen after.seen (target_at entries i) n (content_at entries i) written (λ e. none (in_targets entries i n [] next.0 e)) ∙ so_far.others n none;
      run = run_more so_far.run adds c.write.ensures.time c.write.ensures.cause.later c.in_ok-write.ensures.told.quiet;
    }

pub returns : goal.returns
returns g c =
    let so_far = c.loop-n.invariant in
    let all = entry_end c.args.batch.now.entries c.contents.result.now c.loop-n.yielded c.loop-n.n-iterator c.next.new.self c.next.result c.into_iter-n-iterator.ensures.into_iter_gives c.zip-n-items.ensures.first c.iter.ensures.rest c.sectors.ensures.sectors c.zip-n-items.ensures.second.0 c.contents.ensures.contents c.loop-n.yielded_by c.next.ensures.steps c.in-None.is in
    record { written = λ k lt. so_far.written k (omega (arith, lt, all)); others = so_far.others; adds = so_far.run.adds; any_moment = so_far.run.since; cause = well_cause so_far.run.well; told = well_told so_far.run.well }

pub returns-in_err-write : goal.returns-in_err-write
returns-in_err-write g c =
    let next = entry_turn c.args.batch.now.entries c.contents.result.now c.loop-n.yielded c.loop-n.n-iterator c.next.new.self c.next.result c.into_iter-n-iterator.ensures.into_iter_gives c.zip-n-items.ensures.first c.iter.ensures.rest c.sectors.ensures.sectors c.zip-n-items.ensures.second.0 c.contents.ensures.contents c.loop-n.yielded_by c.next.ensures.steps (c.in-Some.n, c.in-Some.content) c.in-Some.is in
    let r = c.from_residual.result in
    let err = c.from_residual.ensures.0 in
    let so_far = c.loop-n.invariant in
    let adds = adds_write so_far.run.adds c.write.ensures.changes (λ k content is same. in_targets c.args.batch.now.entries (length c.loop-n.yielded) k content next.0 (is ∙ next.1)) in
    record { written = IfOk-from_err r _ err; others = IfOk-from_err r _ err; adds = adds; any_moment = goes_on so_far.run.since c.write.ensures.time (image_or adds); cause = cause_on r err (cause_since so_far.run.well.failures c.in_err-write.ensures.cause); told = told_on r err (told_since so_far.run.well.quiet c.in_err-write.ensures.told) }

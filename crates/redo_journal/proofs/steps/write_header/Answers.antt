use Rattle.std.proofs.Common.{◌≡◌, ◌<◌, ◌+◌, ◌*◌, ◌∙◌, ℕ, List, length, get_or, arith, ap, refl, set}
use Rattle.sector_disk.proofs.Moments.{adds_write, goes_on, image_or}
use Rattle.fs_layout.specs.Header.{area_start}
use Rattle.fs_layout.proofs.Targets.{area_room}
use Rattle.redo_journal.specs.Batch.{target_at, targets}
use Rattle.redo_journal.proofs.Entries.{length-targets, target_is}
use Rattle.redo_journal.proofs.Writing.{header_more, other_kept, run_more, run_none, written_other}
use Rattle.std.proofs.lemmas.Result.{IfOk-from_err}
use Rattle.redo_journal.proofs.Causes.{cause_on, cause_since, told_on, told_since, well_cause, well_told}
use Rattle.redo_journal.proofs.steps.write_header.Goals as goal

pub loop-at-init : goal.loop-at-init
loop-at-init g c = record { most = c.requires.most; few = c.requires.few; room = c.requires.room; written = λ k near. absurd (omega (arith, near)); others = λ n out. refl; run = run_none (g.met.D.Disk.only_now c.args.disk.now) }

pub loop-at-preserved : goal.loop-at-preserved
loop-at-preserved g c =
    let so_far = c.loop-at.invariant in
    let header = c.args.header in
    let entries = c.args.batch.now.entries in
    let at = c.loop-at.at in
    let last = g.D.Disk.state c.loop-at.disk in
    let after = g.D.Disk.state c.write.new.self in
    let few = so_far.few in
    let of_entries : c.sectors-sectors.result.now ≡ targets entries = c.sectors-sectors.ensures.sectors in
    let begins : 126 + 128 * at < length entries = omega (arith, c.loop-at-test.true, c.header_sectors_for-at-end.ensures, ap length of_entries, length-targets entries) in
    let low : at < header = omega (arith, begins, few) in
    let whole : length last.seen ≡ last.size = (g.met.D.Disk.seen_is_image c.loop-at.disk).size in
    let from = area_start header c.args.area in
    let starts : c.area_start-from.result ≡ from = c.area_start-from.ensures in
    let range = area_room header c.args.area in
    let fits : from + at < length last.seen = omega (arith, whole, so_far.room, so_far.run.adds.size, low, range.1) in
    let adds = adds_write so_far.run.adds c.write.ensures.changes (λ k content is same. (omega (arith, is, starts), omega (arith, is, low, starts))) in
    let put : after.seen ≡ set last.seen (from + at) c.header_sector.result = c.in_ok-write.ensures.written.seen ∙ ap (λ (n : ℕ). set last.seen n c.header_sector.result) (omega (arith, starts)) in
    record {
      most = so_far.most;
      few = few;
      room = so_far.room;
      written =
          header_more from (λ k. target_at entries (126 + k)) (length entries) at c.header_sector.result last.seen after.seen fits put
          (λ k near lt.
          c.header_sector.ensures k near (omega (arith, lt, ap length of_entries, length-targets entries))
          ∙ ap (λ (l : List ℕ). get_or l (126 + 128 * at + k) 0) of_entries ∙ target_is entries (126 + 128 * at + k) lt ∙ ap (target_at entries) (omega arith))
          so_far.written;
      others = λ n out. written_other last.seen after.seen (from + at) n c.header_sector.result put (λ e. out (omega (arith, e)) (omega (arith, e, low))) ∙ so_far.others n out;
      run = run_more so_far.run adds c.write.ensures.time c.write.ensures.cause.later c.in_ok-write.ensures.told.quiet;
    }

pub returns : goal.returns
returns g c =
    let so_far = c.loop-at.invariant in
    let count = length-targets c.args.batch.now.entries in
    let written = λ (k : ℕ) (lt : 126 + k < length c.args.batch.now.entries). so_far.written k (omega (arith, lt, c.loop-at-test.false, c.header_sectors_for-at-end.ensures, ap length c.sectors-sectors.ensures.sectors, count)) lt in
    record { written = written; others = so_far.others; adds = so_far.run.adds; any_moment = so_far.run.since; cause = well_cause so_far.run.well; told = well_told so_far.run.well }

pub write-requires : goal.write-requires
write-requires g c =
    let so_far = c.loop-at.invariant in
    let begins : 126 + 128 * c.loop-at.at < length c.args.batch.now.entries =
    omega (arith, c.loop-at-test.true, c.header_sectors_for-at-end.ensures, ap length c.sectors-sectors.ensures.sectors, length-targets c.args.batch.now.entries) in
    let range = area_room c.args.header c.args.area in
    let starts = c.area_start-from.ensures in
    omega (arith, so_far.room, so_far.few, so_far.run.adds.size, begins, range.1, starts)

pub returns-in_err-write : goal.returns-in_err-write
returns-in_err-write g c =
    let r = c.from_residual.result in
    let err = c.from_residual.ensures.0 in
    let so_far = c.loop-at.invariant in
    let at = c.loop-at.at in
    let last = g.D.Disk.state c.loop-at.disk in
    let after = g.D.Disk.state c.write.new.self in
    let begins : 126 + 128 * at < length c.args.batch.now.entries =
    omega (arith, c.loop-at-test.true, c.header_sectors_for-at-end.ensures, ap length c.sectors-sectors.ensures.sectors, length-targets c.args.batch.now.entries) in
    let low : at < c.args.header = omega (arith, begins, so_far.few) in
    let starts = c.area_start-from.ensures in
    let adds = adds_write so_far.run.adds c.write.ensures.changes (λ k content is same. (omega (arith, is, starts), omega (arith, is, low, starts))) in
    record {
      written = IfOk-from_err r _ err;
      others = λ n out.
          other_kept last.seen after.seen (c.area_start-from.result + at) n c.header_sector.result c.write.ensures.changes.seen (λ e. out (omega (arith, e, starts)) (omega (arith, e, starts, low)))
          ∙ so_far.others n out;
      adds = adds;
      any_moment = goes_on so_far.run.since c.write.ensures.time (image_or adds);
      cause = cause_on r err (cause_since so_far.run.well.failures c.in_err-write.ensures.cause);
      told = told_on r err (told_since so_far.run.well.quiet c.in_err-write.ensures.told);
    }

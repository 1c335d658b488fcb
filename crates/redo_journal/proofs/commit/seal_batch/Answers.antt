use Rattle.std.proofs.Common.{length, refl, sym, ◌≡◌, ◌<◌, ◌∙◌, [], ap, arith, subst, inl}
use Rattle.std.proofs.lemmas.Bool.{true≢false}
use Rattle.std.proofs.lemmas.List.{get_or-set_same}
use Rattle.sector_disk.specs.Disk.{Image, sector}
use Rattle.sector_disk.proofs.Moments.{image_or, stable_image, started, weaker}
use Rattle.fs_layout.specs.Commit.{commit_bytes_in}
use Rattle.redo_journal.specs.Batch.{targets, with_batch}
use Rattle.redo_journal.specs.States.{next_at}
use Rattle.redo_journal.specs.Meaning.{data_of, ReadsAs}
use Rattle.redo_journal.proofs.Meaning.{filled, nothing_is_sealed, nothing_sealed, ready_reads, seal_either, sealed_from, sealed_next, sealed_reads}
use Rattle.redo_journal.proofs.Causes.{cause_at_ok, cause_on, told_at_ok, told_on}
use Rattle.std.proofs.lemmas.Result.{IfOk-from_err}
use Rattle.redo_journal.proofs.commit.seal_batch.Goals as goal

pub returns-clause-any_moment : goal.returns-clause-any_moment
returns-clause-any_moment g c =
    let some : 0 < length c.args.batch.now.entries = filled c.args.batch.now.entries (λ none. true≢false (sym (c.if-is_empty.ensures.1 none))) in
    weaker (seal_either c.args.batch.now.entries _ c.args.area (g.D.Disk.state c.args.disk.now) some c.requires.next c.commit_sector.ensures c.requires.logged) c.write_synced.ensures.any_moment

pub returns-clause-sealed : goal.returns-clause-sealed
returns-clause-sealed g c =
    let some : 0 < length c.args.batch.now.entries = filled c.args.batch.now.entries (λ none. true≢false (sym (c.if-is_empty.ensures.1 none))) in
    sealed_from c.args.batch.now.entries c.commit_sector.result c.args.area (g.D.Disk.state c.args.disk.now) (g.D.Disk.state c.write_synced.new.disk) some c.requires.logged c.requires.next c.commit_sector.ensures
    c.write_synced.ensures.adds (g.met.D.Disk.seen_is_image c.write_synced.new.disk).size c.in_ok-write_synced.ensures.written c.in_ok-write_synced.ensures.stable

pub returns-clause-next : goal.returns-clause-next
returns-clause-next g c =
    let some : 0 < length c.args.batch.now.entries = filled c.args.batch.now.entries (λ none. true≢false (sym (c.if-is_empty.ensures.1 none))) in
    c.other_area.ensures ∙ sealed_next c.args.batch.now.entries c.commit_sector.result c.args.header c.args.area (g.D.Disk.state c.args.disk.now) (g.D.Disk.state c.write_synced.new.disk) some c.requires.logged c.requires.header c.requires.next c.commit_sector.ensures
    c.in_ok-write_synced.ensures.written

pub returns-clause-lasting : goal.returns-clause-lasting
returns-clause-lasting g c = λ image is.
    let some : 0 < length c.args.batch.now.entries = filled c.args.batch.now.entries (λ none. true≢false (sym (c.if-is_empty.ensures.1 none))) in
    let before = g.D.Disk.state c.args.disk.now in
    let after = g.D.Disk.state c.write_synced.new.disk in
    let place = c.requires.logged.ready.is in
    let adds = c.write_synced.ensures.adds in
    let whole = (g.met.D.Disk.seen_is_image c.write_synced.new.disk).size in
    let written : sector after.seen 1 ≡ commit_bytes_in (next_at before.seen) (targets c.args.batch.now.entries) =
    ap (λ (l : Image). sector l 1) c.in_ok-write_synced.ensures.written ∙ get_or-set_same before.seen 1 c.commit_sector.result [] (omega (arith, place.whole, place.room)) ∙ c.commit_sector.ensures
    ∙ ap (λ a. commit_bytes_in a (targets c.args.batch.now.entries)) c.requires.next in
    subst (λ k. ReadsAs k (with_batch c.args.batch.now.entries (data_of before)) image) (sym adds.size)
    (sealed_reads c.args.batch.now.entries c.commit_sector.result before some c.requires.logged image (image_or adds image is) (ap (λ (l : Image). sector l 1) (stable_image c.in_ok-write_synced.ensures.stable whole is) ∙ written))

-- an empty batch
pub returns-then-is_empty-clause-any_moment : goal.returns-then-is_empty-clause-any_moment
returns-then-is_empty-clause-any_moment g c =
    started (g.met.D.Disk.only_now c.args.disk.now) (λ image is. inl (ready_reads (g.D.Disk.state c.args.disk.now) c.requires.logged.ready image is))

pub returns-then-is_empty-clause-lasting : goal.returns-then-is_empty-clause-lasting
returns-then-is_empty-clause-lasting g c =
    nothing_sealed c.args.batch.now.entries (g.D.Disk.state c.args.disk.now) c.requires.logged (ap length (c.if-is_empty.ensures.0 refl))

pub returns-then-is_empty-clause-sealed : goal.returns-then-is_empty-clause-sealed
returns-then-is_empty-clause-sealed g c =
    nothing_is_sealed c.args.batch.now.entries (g.D.Disk.state c.args.disk.now) c.requires.logged (ap length (c.if-is_empty.ensures.0 refl))

pub returns-clause-empty : goal.returns-clause-empty
returns-clause-empty g c = λ none. absurd (let some : 0 < length c.args.batch.now.entries = filled c.args.batch.now.entries (λ none. true≢false (sym (c.if-is_empty.ensures.1 none))) in omega (arith, none, some))

pub returns-clause-cause : goal.returns-clause-cause
returns-clause-cause g c = cause_at_ok c.in_ok-write_synced.ensures.cause

pub returns-clause-told : goal.returns-clause-told
returns-clause-told g c = told_at_ok c.in_ok-write_synced.ensures.told

pub returns-in_err-write_synced : goal.returns-in_err-write_synced
returns-in_err-write_synced g c =
    let some : 0 < length c.args.batch.now.entries = filled c.args.batch.now.entries (λ none. true≢false (sym (c.if-is_empty.ensures.1 none))) in
    let r = c.from_residual.result in
    let err = c.from_residual.ensures.0 in
    record { sealed = IfOk-from_err r _ err; next = IfOk-from_err r _ err; lasting = IfOk-from_err r _ err; any_moment = weaker (seal_either c.args.batch.now.entries _ c.args.area (g.D.Disk.state c.args.disk.now) some c.requires.next c.commit_sector.ensures c.requires.logged) c.write_synced.ensures.any_moment; empty = λ none. absurd (omega (arith, none, some)); size = c.write_synced.ensures.adds.size; cause = cause_on r err c.in_err-write_synced.ensures.cause; told = told_on r err c.in_err-write_synced.ensures.told }

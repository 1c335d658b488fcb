use Rattle.std.proofs.Common.{◌∙◌, ap, arith, length, refl, sym, ◌<◌}
use Rattle.std.proofs.lemmas.Bool.{true≢false}
use Rattle.std.proofs.lemmas.Result.{on_ok_weaker, IfOk-from_err}
use Rattle.sector_disk.proofs.Moments.{started, weaker}
use Rattle.redo_journal.specs.Batch.{targets}
use Rattle.redo_journal.specs.States.{log_at}
use Rattle.redo_journal.proofs.Meaning.{alone_next, batch_replayed, filled, header_same, idle_ready, placed_from, placed_next, ready_reads, same_joined, same_map, targets_keep}
use Rattle.redo_journal.proofs.Used.{idle_stands, targets_stand}
use Rattle.redo_journal.proofs.Causes.{cause_on, cause_then, told_on, told_then}
use Rattle.redo_journal.proofs.commit.install_batch.Goals as goal

pub put_in_place-requires-clause-rest : goal.put_in_place-requires-clause-rest
put_in_place-requires-clause-rest g c = c.requires.sealed.at_rest (filled c.args.batch.now.entries (λ none. true≢false (sym (c.if-is_empty.ensures.1 none))))

pub returns-then-is_empty-clause-any_moment : goal.returns-then-is_empty-clause-any_moment
returns-then-is_empty-clause-any_moment g c =
    started (g.met.D.Disk.only_now c.args.disk.now) (ready_reads (g.D.Disk.state c.args.disk.now) (c.requires.sealed.none (ap length (c.if-is_empty.ensures.0 refl))))

pub returns-then-is_empty-clause-ready : goal.returns-then-is_empty-clause-ready
returns-then-is_empty-clause-ready g c = c.requires.sealed.none (ap length (c.if-is_empty.ensures.0 refl))

-- with one log area
pub returns-then-header-eq0-clause-any_moment : goal.returns-then-header-eq0-clause-any_moment
returns-then-header-eq0-clause-any_moment g c =
    same_joined (g.D.Disk.state c.args.disk.now) (g.D.Disk.state c.put_in_place.new.disk) (g.D.Disk.state c.clear_commit.new.disk) (g.met.D.Disk.counts_now c.put_in_place.new.disk)
    (g.met.D.Disk.seen_is_image c.put_in_place.new.disk) c.put_in_place.ensures.size c.put_in_place.ensures.any_moment c.clear_commit.ensures.any_moment

pub returns-then-header-eq0-clause-ready : goal.returns-then-header-eq0-clause-ready
returns-then-header-eq0-clause-ready g c = on_ok_weaker c.clear_commit.result (idle_ready (g.D.Disk.state c.clear_commit.new.disk)) c.clear_commit.ensures.idle

pub returns-then-header-eq0-clause-next : goal.returns-then-header-eq0-clause-next
returns-then-header-eq0-clause-next g c =
    let old = g.D.Disk.state c.args.disk.now in
    let new = g.D.Disk.state c.clear_commit.new.disk in
    let has = header_same old new c.args.header
    (same_map old new (g.met.D.Disk.counts_now c.clear_commit.new.disk) (g.met.D.Disk.seen_is_image c.clear_commit.new.disk) (c.clear_commit.ensures.size ∙ c.put_in_place.ensures.size) (returns-then-header-eq0-clause-any_moment g c)) c.requires.header in
    on_ok_weaker c.clear_commit.result (λ _. alone_next old new c.args.header c.if-header-eq0.true c.requires.header has) c.clear_commit.ensures.idle

-- with two
pub returns-clause-any_moment : goal.returns-clause-any_moment
returns-clause-any_moment g c =
    let rest = c.requires.sealed.at_rest (filled c.args.batch.now.entries (λ none. true≢false (sym (c.if-is_empty.ensures.1 none)))) in
    weaker (targets_keep (targets c.args.batch.now.entries) (g.D.Disk.state c.args.disk.now) rest) c.write_targets.ensures.any_moment

pub returns-clause-next : goal.returns-clause-next
returns-clause-next g c =
    let rest = c.requires.sealed.at_rest (filled c.args.batch.now.entries (λ none. true≢false (sym (c.if-is_empty.ensures.1 none)))) in
    on_ok_weaker c.write_targets.result (λ _. placed_next (targets c.args.batch.now.entries) (g.D.Disk.state c.args.disk.now) (g.D.Disk.state c.write_targets.new.disk) rest c.write_targets.ensures.adds (g.met.D.Disk.seen_is_image c.write_targets.new.disk)) c.write_targets.ensures.written

pub returns-clause-ready : goal.returns-clause-ready
returns-clause-ready g c =
    let rest = c.requires.sealed.at_rest (filled c.args.batch.now.entries (λ none. true≢false (sym (c.if-is_empty.ensures.1 none)))) in
    let old = g.D.Disk.state c.args.disk.now in
    let new = g.D.Disk.state c.write_targets.new.disk in
    on_ok_weaker c.write_targets.result
    (λ written. placed_from (targets c.args.batch.now.entries) old new rest (omega (arith, c.if-header-eq0.false, c.requires.header.is)) c.write_targets.ensures.adds (g.met.D.Disk.seen_is_image c.write_targets.new.disk)
    (batch_replayed (log_at old.seen) c.args.batch.now.entries old.seen new.seen c.requires.sealed.log written)) c.write_targets.ensures.written

-- which commit stands then
pub returns-then-is_empty-clause-stands : goal.returns-then-is_empty-clause-stands
returns-then-is_empty-clause-stands g c = λ some. absurd (let none = ap length (c.if-is_empty.ensures.0 refl) in omega (arith, some, none))

pub returns-then-header-eq0-clause-stands : goal.returns-then-header-eq0-clause-stands
returns-then-header-eq0-clause-stands g c = λ some.
    on_ok_weaker c.clear_commit.result (idle_stands (targets c.args.batch.now.entries) (g.D.Disk.state c.clear_commit.new.disk)) c.clear_commit.ensures.idle

pub returns-clause-stands : goal.returns-clause-stands
returns-clause-stands g c = λ some.
    let rest = c.requires.sealed.at_rest (filled c.args.batch.now.entries (λ none. true≢false (sym (c.if-is_empty.ensures.1 none)))) in
    on_ok_weaker c.write_targets.result
    (targets_stand (targets c.args.batch.now.entries) (g.D.Disk.state c.args.disk.now) (g.D.Disk.state c.write_targets.new.disk) rest c.write_targets.ensures.adds.size)
    c.write_targets.ensures.others

pub put_in_place-requires-clause-log : goal.put_in_place-requires-clause-log
put_in_place-requires-clause-log g c = c.requires.sealed.log

pub write_targets-requires : goal.write_targets-requires
write_targets-requires g c = (c.requires.sealed.at_rest (filled c.args.batch.now.entries (λ none. true≢false (sym (c.if-is_empty.ensures.1 none))))).commit.valid.in_range

pub returns-then-header-eq0-clause-empty : goal.returns-then-header-eq0-clause-empty
returns-then-header-eq0-clause-empty g c = λ none. absurd (let some : 0 < length c.args.batch.now.entries = filled c.args.batch.now.entries (λ none. true≢false (sym (c.if-is_empty.ensures.1 none))) in omega (arith, none, some))

pub returns-then-header-eq0-clause-cause : goal.returns-then-header-eq0-clause-cause
returns-then-header-eq0-clause-cause g c = cause_then c.put_in_place.ensures.cause c.clear_commit.ensures.cause

pub returns-then-header-eq0-clause-told : goal.returns-then-header-eq0-clause-told
returns-then-header-eq0-clause-told g c = told_then c.in_ok-put_in_place.ensures.told c.clear_commit.ensures.told

pub returns-clause-empty : goal.returns-clause-empty
returns-clause-empty g c = λ none. absurd (let some : 0 < length c.args.batch.now.entries = filled c.args.batch.now.entries (λ none. true≢false (sym (c.if-is_empty.ensures.1 none))) in omega (arith, none, some))

pub returns-in_err-put_in_place : goal.returns-in_err-put_in_place
returns-in_err-put_in_place g c =
    let r = c.from_residual.result in
    let err = c.from_residual.ensures.0 in
    let some : 0 < length c.args.batch.now.entries = filled c.args.batch.now.entries (λ none. true≢false (sym (c.if-is_empty.ensures.1 none))) in
    let done = c.put_in_place.ensures in
    record { ready = IfOk-from_err r _ err; next = IfOk-from_err r _ err; stands = λ filled. IfOk-from_err r _ err; any_moment = done.any_moment; empty = λ none. absurd (omega (arith, none, some)); size = done.size; cause = cause_on r err c.in_err-put_in_place.ensures.cause; told = told_on r err c.in_err-put_in_place.ensures.told }

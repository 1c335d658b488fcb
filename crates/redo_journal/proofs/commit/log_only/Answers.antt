use Rattle.std.proofs.Common.{◌≡◌, ◌<◌, ℕ, length, sym, ◌∙◌, ap, subst, arith, Bool, false, List, [], ◌∷◌, eqb}
use Rattle.std.proofs.lemmas.Bool.{eqb-true, eq-eqb, true≢false}
use Rattle.std.proofs.lemmas.Result.{on_ok_weaker}
use Rattle.redo_journal.proofs.Entries.{length-targets}
use Rattle.fs_layout.specs.Header.{header_of}
use Rattle.sector_disk.specs.Disk.{DiskState, Image, IsImageOr, sector}
use Rattle.sector_disk.proofs.Moments.{started, weaker}
use Rattle.redo_journal.specs.States.{HasHeader, HasNext, InLog, IsReady}
use Rattle.redo_journal.specs.Meaning.{ReadsAs, data_of}
use Rattle.redo_journal.proofs.Meaning.{log_keeps, logged_from, next_same, nothing_logged, nothing_valid, others_low, ready_reads}
use Rattle.redo_journal.specs.Batch.{Entry, targets}
use Rattle.redo_journal.proofs.Both.{on_ok_all}
use Rattle.redo_journal.proofs.Placing.{log_fits}
use Rattle.redo_journal.proofs.commit.log_only.Goals as goal

-- images while header and log are written read as before
keeps : (header area : ℕ) (disk : DiskState) → IsReady disk → HasHeader header disk → HasNext area disk → (image : Image) → IsImageOr (InLog header area) disk image → ReadsAs disk.size (data_of disk) image
keeps header area disk ready has next image is =
    log_keeps disk ready image (subst (λ (a : ℕ). IsImageOr (InLog (header_of (sector disk.seen 0)) a) disk image) next (subst (λ (h : ℕ). IsImageOr (InLog h area) disk image) has.is is))

-- a batch with sectors isn't empty
some_in : (result : Bool) (sectors : List ℕ) (entries : List Entry) → result ≡ eqb (length sectors) 0 → sectors ≡ targets entries → result ≡ false → 0 < length entries
some_in result sectors [] is of filled = absurd (true≢false (sym (is ∙ eq-eqb (length sectors) 0 (ap length of)) ∙ filled))
some_in result sectors (e ∷ entries) is of filled = omega arith

pub log_batch-requires-clause-room : goal.log_batch-requires-clause-room
log_batch-requires-clause-room g c = log_fits c.args.batch.now.entries c.args.header (g.D.Disk.state c.args.disk.now).size (some_in c.is_empty.result c.sectors.result.now c.args.batch.now.entries c.is_empty.ensures c.sectors.ensures.sectors c.if-is_empty.false) c.requires.on_disk

pub returns-clause-any_moment : goal.returns-clause-any_moment
returns-clause-any_moment g c = weaker (keeps c.args.header c.args.area (g.D.Disk.state c.args.disk.now) c.requires.ready c.requires.header c.requires.next) c.log_batch.ensures.any_moment

pub returns-clause-logged : goal.returns-clause-logged
returns-clause-logged g c =
    let old = g.D.Disk.state c.args.disk.now in
    let new = g.D.Disk.state c.log_batch.new.disk in
    let logs = c.log_batch.ensures in
    on_ok_all c.log_batch.result
    (logged_from c.args.batch.now.entries c.args.header c.args.area old new c.requires.ready c.requires.header c.requires.next c.requires.few c.sectors.ensures.batch c.requires.on_disk logs.adds.size
    (g.met.D.Disk.seen_is_image c.log_batch.new.disk).size logs.others)
    logs.header logs.log logs.stable

pub returns-clause-next : goal.returns-clause-next
returns-clause-next g c =
    let old = (g.D.Disk.state c.args.disk.now).seen in
    let new = (g.D.Disk.state c.log_batch.new.disk).seen in
    let low = others_low c.args.header c.args.area old new c.log_batch.ensures.others in
    on_ok_weaker c.log_batch.result (λ _. c.requires.next ∙ sym (next_same old new (low 0 (omega arith)) (low 1 (omega arith)))) c.log_batch.ensures.stable

pub returns-clause-empty : goal.returns-clause-empty
returns-clause-empty g c = λ none. absurd (let some : 0 < length c.args.batch.now.entries = some_in c.is_empty.result c.sectors.result.now c.args.batch.now.entries c.is_empty.ensures c.sectors.ensures.sectors c.if-is_empty.false in omega (arith, none, some))

pub returns-clause-size : goal.returns-clause-size
returns-clause-size g c = c.log_batch.ensures.adds.size

pub returns-clause-cause : goal.returns-clause-cause
returns-clause-cause g c = c.log_batch.ensures.cause

pub returns-clause-told : goal.returns-clause-told
returns-clause-told g c = c.log_batch.ensures.told

pub returns-then-is_empty-clause-any_moment : goal.returns-then-is_empty-clause-any_moment
returns-then-is_empty-clause-any_moment g c = started (g.met.D.Disk.only_now c.args.disk.now) (ready_reads (g.D.Disk.state c.args.disk.now) c.requires.ready)

pub returns-then-is_empty-clause-logged : goal.returns-then-is_empty-clause-logged
returns-then-is_empty-clause-logged g c =
    let none : length c.args.batch.now.entries ≡ 0 =
    omega (arith, eqb-true (length c.sectors.result.now) 0 (sym c.is_empty.ensures ∙ c.if-is_empty.true), ap length c.sectors.ensures.sectors, length-targets c.args.batch.now.entries) in
    nothing_logged c.args.batch.now.entries (g.D.Disk.state c.args.disk.now) c.requires.ready none (nothing_valid c.args.batch.now.entries _ _ none)

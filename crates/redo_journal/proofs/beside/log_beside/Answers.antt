use Rattle.std.proofs.Common.{◌∙◌, inl, inr, ℕ, List, arith}
use Rattle.std.proofs.lemmas.Result.{on_ok_weaker}
use Rattle.std.specs.Prelude.{Contains}
use Rattle.sector_disk.specs.Disk.{DiskState, Image, AddsOnly, IsImageOr, LeavesOnly}
use Rattle.sector_disk.proofs.Moments.{joined, weaker}
use Rattle.redo_journal.specs.Batch.{targets}
use Rattle.redo_journal.specs.Meaning.{LeavesMapBut, ReadsBut, data_of}
use Rattle.redo_journal.specs.States.{InLog, InLogOr, InTargets}
use Rattle.redo_journal.proofs.Both.{on_ok_all}
use Rattle.redo_journal.proofs.Meaning.{or_joined}
use Rattle.redo_journal.proofs.Placing.{adds_more, beside_keeps, image_more, log_fits, logged_beside, next_beside, placed_beside}
use Rattle.redo_journal.proofs.beside.log_beside.Goals as goal

-- the sectors are written, and then the log
module _ (sectors : List ℕ) (header area : ℕ) (old wrote : DiskState)
    (keep : (image : Image) → IsImageOr (InLogOr header area sectors) old image → ReadsBut (Contains sectors) old.size (data_of old) image)
    (moments : LeavesOnly old wrote (IsImageOr (InTargets sectors) old)) where
  placed_leaves : LeavesMapBut (Contains sectors) old wrote
  placed_leaves = weaker (λ image is. keep image (image_more {R = InTargets sectors} (λ n c target. inr target) is)) moments

  logged_leaves : (logged : DiskState) → AddsOnly (InTargets sectors) old wrote → LeavesOnly wrote logged (IsImageOr (InLog header area) wrote) → LeavesMapBut (Contains sectors) old logged
  logged_leaves logged adds later =
      joined placed_leaves (weaker (λ image is. keep image (or_joined (adds_more (λ n c target. inr target) adds) image (image_more {R = InLog header area} (λ n c log. inl log) is))) later)

pub log_batch-requires-clause-room : goal.log_batch-requires-clause-room
log_batch-requires-clause-room g c =
    let fits = log_fits c.args.batch.now.entries c.args.header (g.D.Disk.state c.args.disk.now).size c.requires.some c.requires.on_disk in
    omega (arith, fits, c.write_targets.ensures.adds.size)

pub returns-in_err-write_targets-clause-any_moment : goal.returns-in_err-write_targets-clause-any_moment
returns-in_err-write_targets-clause-any_moment g c =
    let old = g.D.Disk.state c.args.disk.now in
    let sectors = targets c.args.placed.now.entries in
    placed_leaves sectors c.args.header c.args.area old (g.D.Disk.state c.write_targets.new.disk)
    (beside_keeps sectors c.args.header c.args.area old c.requires.ready c.requires.header c.requires.next c.requires.places)
    c.write_targets.ensures.any_moment

pub returns-clause-logged : goal.returns-clause-logged
returns-clause-logged g c =
    let state = g.D.Disk.state in
    let has = c.requires in
    let wrote = c.in_ok-write_targets.ensures in
    let logs = c.log_batch.ensures in
    let whole = (g.met.D.Disk.seen_is_image c.write_targets.new.disk).size ∙ c.write_targets.ensures.adds.size in
    on_ok_all c.log_batch.result
    (logged_beside c.args.placed.now.entries c.args.batch.now.entries c.args.header c.args.area (state c.args.disk.now) (state c.write_targets.new.disk) (state c.log_batch.new.disk)
    has.ready has.header has.next has.places has.beside whole wrote.written wrote.others logs.others
    has.few c.len-count.ensures.batch has.on_disk (logs.adds.size ∙ c.write_targets.ensures.adds.size) (g.met.D.Disk.seen_is_image c.log_batch.new.disk).size)
    logs.header logs.log logs.stable

pub returns-clause-any_moment : goal.returns-clause-any_moment
returns-clause-any_moment g c =
    let old = g.D.Disk.state c.args.disk.now in
    let sectors = targets c.args.placed.now.entries in
    logged_leaves sectors c.args.header c.args.area old (g.D.Disk.state c.write_targets.new.disk)
    (beside_keeps sectors c.args.header c.args.area old c.requires.ready c.requires.header c.requires.next c.requires.places)
    c.write_targets.ensures.any_moment (g.D.Disk.state c.log_batch.new.disk) c.write_targets.ensures.adds c.log_batch.ensures.any_moment

pub returns-clause-placed : goal.returns-clause-placed
returns-clause-placed g c =
    let state = g.D.Disk.state in
    let has = c.requires in
    let wrote = c.in_ok-write_targets.ensures in
    let whole = (g.met.D.Disk.seen_is_image c.write_targets.new.disk).size ∙ c.write_targets.ensures.adds.size in
    on_ok_weaker c.log_batch.result
    (placed_beside c.args.placed.now.entries c.args.batch.now.entries c.args.header c.args.area (state c.args.disk.now) (state c.write_targets.new.disk) (state c.log_batch.new.disk)
    has.ready has.header has.next has.places has.beside whole wrote.written wrote.others c.log_batch.ensures.others)
    (returns-clause-logged g c)

pub returns-clause-next : goal.returns-clause-next
returns-clause-next g c =
    let state = g.D.Disk.state in
    let has = c.requires in
    let wrote = c.in_ok-write_targets.ensures in
    let whole = (g.met.D.Disk.seen_is_image c.write_targets.new.disk).size ∙ c.write_targets.ensures.adds.size in
    on_ok_weaker c.log_batch.result
    (λ _. next_beside c.args.placed.now.entries c.args.batch.now.entries c.args.header c.args.area (state c.args.disk.now) (state c.write_targets.new.disk) (state c.log_batch.new.disk)
    has.ready has.header has.next has.places has.beside whole wrote.written wrote.others c.log_batch.ensures.others)
    c.log_batch.ensures.stable

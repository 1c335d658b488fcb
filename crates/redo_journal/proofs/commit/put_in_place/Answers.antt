use Rattle.std.proofs.Common.{sym, subst}
use Rattle.std.proofs.lemmas.Result.{on_ok_weaker}
use Rattle.sector_disk.proofs.Moments.{adds_narrowed, image_or, weaker}
use Rattle.redo_journal.specs.Batch.{targets}
use Rattle.redo_journal.proofs.Meaning.{targets_keep, targets_synced, installed_from, batch_replayed}
use Rattle.redo_journal.specs.States.{log_at, HoldsTargets}
use Rattle.redo_journal.proofs.commit.put_in_place.Goals as goal

pub returns-in_err-write_targets-clause-any_moment : goal.returns-in_err-write_targets-clause-any_moment
returns-in_err-write_targets-clause-any_moment g c = weaker (targets_keep (targets c.args.batch.now.entries) (g.D.Disk.state c.args.disk.now) c.requires.rest) c.write_targets.ensures.any_moment

pub returns-clause-any_moment : goal.returns-clause-any_moment
returns-clause-any_moment g c =
    targets_synced (targets c.args.batch.now.entries) (g.D.Disk.state c.args.disk.now) (g.D.Disk.state c.write_targets.new.disk) (g.D.Disk.state c.sync.new.self) c.requires.rest c.write_targets.ensures.adds c.write_targets.ensures.any_moment
    c.sync.ensures.changes c.sync.ensures.time

pub returns-clause-installed : goal.returns-clause-installed
returns-clause-installed g c =
    let before = g.D.Disk.state c.args.disk.now in
    let after = g.D.Disk.state c.sync.new.self in
    let entries = c.args.batch.now.entries in
    let changes = c.sync.ensures.changes in
    let adds = adds_narrowed c.write_targets.ensures.adds changes in
    let image = image_or adds after.seen (g.met.D.Disk.seen_is_image c.sync.new.self) in
    let in_place = subst (HoldsTargets entries) (sym changes.seen) c.in_ok-write_targets.ensures.written in
    on_ok_weaker c.sync.result
    (installed_from (targets entries) before after c.requires.rest image adds.size (batch_replayed (log_at before.seen) entries before.seen after.seen c.requires.log in_place))
    c.sync.ensures.stable

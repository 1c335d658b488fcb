use Rattle.std.proofs.Common.{ℕ, ◌+◌, sym, subst}
use Rattle.std.proofs.lemmas.Result.{on_ok_weaker}
use Rattle.fs_layout.specs.Header.{area_start}
use Rattle.sector_disk.specs.Disk.{sector}
use Rattle.sector_disk.proofs.Moments.{adds_narrowed, image_or, weaker}
use Rattle.redo_journal.proofs.Meaning.{targets_keep, targets_synced, installed_from}
use Rattle.redo_journal.specs.States.{log_at, HasReplayed}
use Rattle.redo_journal.proofs.commit.replay.Goals as goal

pub returns-in_err-copy_log-clause-any_moment : goal.returns-in_err-copy_log-clause-any_moment
returns-in_err-copy_log-clause-any_moment g c = weaker (targets_keep c.args.sectors.now (g.D.Disk.state c.args.disk.now) c.requires.rest) c.copy_log.ensures.any_moment

pub returns-clause-any_moment : goal.returns-clause-any_moment
returns-clause-any_moment g c =
    targets_synced c.args.sectors.now (g.D.Disk.state c.args.disk.now) (g.D.Disk.state c.copy_log.new.disk) (g.D.Disk.state c.sync.new.self) c.requires.rest c.copy_log.ensures.adds c.copy_log.ensures.any_moment
    c.sync.ensures.changes c.sync.ensures.time

pub returns-clause-installed : goal.returns-clause-installed
returns-clause-installed g c =
    let before = g.D.Disk.state c.args.disk.now in
    let after = g.D.Disk.state c.sync.new.self in
    let sectors = c.args.sectors.now in
    let changes = c.sync.ensures.changes in
    let adds = adds_narrowed c.copy_log.ensures.adds changes in
    let image = image_or adds after.seen (g.met.D.Disk.seen_is_image c.sync.new.self) in
    let written : HasReplayed (log_at before.seen) sectors (sector before.seen) (g.D.Disk.state c.copy_log.new.disk).seen =
    subst (λ (n : ℕ). HasReplayed n sectors (sector before.seen) (g.D.Disk.state c.copy_log.new.disk).seen) (λ j. area_start (c.requires.header.is j) (c.requires.area j) + c.requires.header.is j) c.in_ok-copy_log.ensures.written in
    let in_place = subst (HasReplayed (log_at before.seen) sectors (sector before.seen)) (sym changes.seen) written in
    on_ok_weaker c.sync.result (installed_from sectors before after c.requires.rest image adds.size in_place) c.sync.ensures.stable

use Rattle.std.proofs.Common.{◌∙◌}
use Rattle.std.proofs.lemmas.Result.{on_ok_weaker}
use Rattle.sector_disk.proofs.Moments.{adds_narrowed, adds_nothing, adds_write, goes_on, image_or, started}
use Rattle.sector_disk.proofs.disk.write_synced.Goals as goal

pub returns-in_err-write-clause-adds : goal.returns-in_err-write-clause-adds
returns-in_err-write-clause-adds g c = adds_write adds_nothing c.write.ensures.changes (λ k content at is. (at, is))

pub returns-in_err-write-clause-any_moment : goal.returns-in_err-write-clause-any_moment
returns-in_err-write-clause-any_moment g c =
    goes_on (started (g.met.D.Disk.only_now c.args.disk.now) (image_or adds_nothing)) c.write.ensures.time (image_or (returns-in_err-write-clause-adds g c))

pub returns-clause-written : goal.returns-clause-written
returns-clause-written g c = on_ok_weaker c.sync.result (λ stable. c.sync.ensures.changes.seen ∙ c.in_ok-write.ensures.written.seen) c.sync.ensures.stable

pub returns-clause-adds : goal.returns-clause-adds
returns-clause-adds g c = adds_narrowed (adds_write adds_nothing c.write.ensures.changes (λ k content at is. (at, is))) c.sync.ensures.changes

pub returns-clause-any_moment : goal.returns-clause-any_moment
returns-clause-any_moment g c =
    let written = adds_write adds_nothing c.write.ensures.changes (λ k content at is. (at, is)) in
    let first = goes_on (started (g.met.D.Disk.only_now c.args.disk.now) (image_or adds_nothing)) c.write.ensures.time (image_or written) in
    goes_on first c.sync.ensures.time (image_or (returns-clause-adds g c))

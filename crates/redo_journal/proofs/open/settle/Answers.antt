use Rattle.std.proofs.Common.{◌≡◌, ◌≤◌, ◌∙◌, ℕ, ap}
use Rattle.fs_layout.specs.Recovered.{recovered}
use Rattle.sector_disk.specs.Disk.{DiskState, Image, sector, IsImage, IsNarrowed, LeavesOnly}
use Rattle.sector_disk.proofs.Moments.{holds_now, joined, weaker}
use Rattle.redo_journal.specs.Meaning.{MeansAs, SameMap, data_of}
use Rattle.redo_journal.proofs.Meaning.{data_stays, means_before, same_chain, synced_means}
use Rattle.redo_journal.proofs.open.settle.Goals as goal

pub returns-in_err-sync-clause-any_moment : goal.returns-in_err-sync-clause-any_moment
returns-in_err-sync-clause-any_moment g c =
    synced_means (g.D.Disk.state c.args.disk.now) (g.D.Disk.state c.sync.new.self) (g.met.D.Disk.only_now c.args.disk.now) c.sync.ensures.changes c.sync.ensures.time

pub returns-clause-any_moment : goal.returns-clause-any_moment
returns-clause-any_moment g c =
    let before = g.D.Disk.state c.args.disk.now in
    let synced = g.D.Disk.state c.sync.new.self in
    let changes = c.sync.ensures.changes in
    let first = synced_means before synced (g.met.D.Disk.only_now c.args.disk.now) changes c.sync.ensures.time in
    joined first (weaker (means_before before synced changes (g.met.D.Disk.seen_is_image c.sync.new.self)) c.recover.ensures.any_moment)

-- after a sync, and a step that leaves what means as the disk shows then
same_settled : (old synced new : DiskState) → IsNarrowed old synced
    → ((t : ℕ) (image : Image) → t ≤ new.moment → IsImage new image → new.left_since t image)
    → IsImage new new.seen → new.size ≡ synced.size → LeavesOnly synced new (MeansAs synced.size synced.seen)
    → SameMap (data_of new) (data_of old)
same_settled old synced new changes counts_now seen size run =
    let means = holds_now run counts_now seen in
    same_chain (data_of new) (data_of synced) (data_of old)
    (λ n part. ap (λ k. recovered k (sector new.seen) n) size ∙ means.reads n part)
    (λ n part. data_stays old synced changes n)

pub returns-clause-same : goal.returns-clause-same
returns-clause-same g c =
    let state = g.D.Disk.state in
    let new = c.recover.new.disk in
    same_settled (state c.args.disk.now) (state c.sync.new.self) (state new) c.sync.ensures.changes
    (g.met.D.Disk.counts_now new) (g.met.D.Disk.seen_is_image new) c.recover.ensures.size
    c.recover.ensures.any_moment

use Rattle.sector_disk.proofs.Moments.{narrowed, one_call}
use Rattle.redo_journal.proofs.Meaning.{ready_reads, same_joined, settled_from}
use Rattle.redo_journal.proofs.commit.settle_commit.Goals as goal

pub clear_commit-requires : goal.clear_commit-requires
clear_commit-requires g c = settled_from (g.D.Disk.state c.args.disk.now) (g.D.Disk.state c.sync.new.self) c.requires c.sync.ensures.changes c.in_ok-sync.ensures.stable

pub returns-in_err-sync-clause-any_moment : goal.returns-in_err-sync-clause-any_moment
returns-in_err-sync-clause-any_moment g c =
    let reads = ready_reads (g.D.Disk.state c.args.disk.now) c.requires in
    one_call (g.met.D.Disk.only_now c.args.disk.now) reads c.sync.ensures.time (λ image is. reads image (narrowed c.sync.ensures.changes is))

pub returns-clause-any_moment : goal.returns-clause-any_moment
returns-clause-any_moment g c =
    let reads = ready_reads (g.D.Disk.state c.args.disk.now) c.requires in
    same_joined (g.D.Disk.state c.args.disk.now) (g.D.Disk.state c.sync.new.self) (g.D.Disk.state c.clear_commit.new.disk) (g.met.D.Disk.counts_now c.sync.new.self)
    (g.met.D.Disk.seen_is_image c.sync.new.self) c.sync.ensures.changes.size (one_call (g.met.D.Disk.only_now c.args.disk.now) reads c.sync.ensures.time (λ image is. reads image (narrowed c.sync.ensures.changes is))) c.clear_commit.ensures.any_moment

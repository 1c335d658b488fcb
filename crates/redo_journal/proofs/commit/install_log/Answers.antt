use Rattle.sector_disk.proofs.Moments.{started}
use Rattle.redo_journal.proofs.Meaning.{rest_reads, same_joined}
use Rattle.redo_journal.proofs.commit.install_log.Goals as goal

pub returns-then-is_empty-clause-any_moment : goal.returns-then-is_empty-clause-any_moment
returns-then-is_empty-clause-any_moment g c =
    started (g.met.D.Disk.only_now c.args.disk.now) (rest_reads c.args.sectors.now (g.D.Disk.state c.args.disk.now) c.requires.rest)

pub returns-clause-any_moment : goal.returns-clause-any_moment
returns-clause-any_moment g c =
    same_joined (g.D.Disk.state c.args.disk.now) (g.D.Disk.state c.replay.new.disk) (g.D.Disk.state c.clear_commit.new.disk) (g.met.D.Disk.counts_now c.replay.new.disk)
    (g.met.D.Disk.seen_is_image c.replay.new.disk) c.replay.ensures.size c.replay.ensures.any_moment c.clear_commit.ensures.any_moment

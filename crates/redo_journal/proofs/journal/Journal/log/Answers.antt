use Rattle.redo_journal.proofs.Meaning.{header_same, same_map, same_since}
use Rattle.redo_journal.proofs.journal.Journal.log.Goals as goal

pub invariant_of-result : goal.invariant_of-result
invariant_of-result g c =
    let old = g.D.Disk.state c.self.inside.disk in
    let new = g.D.Disk.state c.log_only.new.disk in (
      header_same old new _
          (same_map old new (g.met.D.Disk.counts_now c.log_only.new.disk) (g.met.D.Disk.seen_is_image c.log_only.new.disk) c.log_only.ensures.size c.log_only.ensures.any_moment) c.self.invariant.1,
      c.in-Ok.ensures.next,
    )

pub returns-in-Ok-clause-same : goal.returns-in-Ok-clause-same
returns-in-Ok-clause-same g c =
    same_since g.D.Disk.state c.log_only.new.disk c.self.view_is (g.met.D.Disk.counts_now c.log_only.new.disk) (g.met.D.Disk.seen_is_image c.log_only.new.disk) c.in-Ok.ensures.size c.in-Ok.ensures.any_moment

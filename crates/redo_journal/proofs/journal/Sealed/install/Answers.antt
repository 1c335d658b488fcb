use Rattle.std.proofs.Common.{sym, ◌∙◌}
use Rattle.redo_journal.proofs.Meaning.{header_same, same_map, same_since}
use Rattle.redo_journal.proofs.journal.Sealed.install.Goals as goal

pub invariant_of-result : goal.invariant_of-result
invariant_of-result g c =
    let old = g.D.Disk.state c.self.inside.disk in
    let new = g.D.Disk.state c.install_batch.new.disk in (
      c.in-Ok.ensures.ready,
      header_same old new _
          (same_map old new (g.met.D.Disk.counts_now c.install_batch.new.disk) (g.met.D.Disk.seen_is_image c.install_batch.new.disk) c.install_batch.ensures.size c.install_batch.ensures.any_moment) c.self.invariant.0,
      c.self.invariant.1 ∙ sym c.in-Ok.ensures.next,
    )

pub returns-in-Ok-clause-same : goal.returns-in-Ok-clause-same
returns-in-Ok-clause-same g c =
    same_since g.D.Disk.state c.install_batch.new.disk c.self.view_is (g.met.D.Disk.counts_now c.install_batch.new.disk) (g.met.D.Disk.seen_is_image c.install_batch.new.disk) c.in-Ok.ensures.size c.in-Ok.ensures.any_moment

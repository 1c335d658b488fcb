use Rattle.std.proofs.Common.{subst, sym, ◌∙◌}
use Rattle.redo_journal.specs.Meaning.{SameMap, LeavesSameMap, data_of}
use Rattle.sector_disk.proofs.Moments.{started}
use Rattle.redo_journal.proofs.Meaning.{header_same, ready_idle, ready_reads, same_map, same_since}
use Rattle.redo_journal.proofs.journal.Journal.settle.Goals as goal

pub returns-then-header-eq0-clause-any_moment : goal.returns-then-header-eq0-clause-any_moment
returns-then-header-eq0-clause-any_moment g c =
    subst (λ d. LeavesSameMap (g.D.Disk.state d) (g.D.Disk.state c.self.inside.disk)) c.self.view_is (started (g.met.D.Disk.only_now c.self.inside.disk) (ready_reads (g.D.Disk.state c.self.inside.disk) c.self.invariant.0))

pub returns-then-header-eq0-clause-idle : goal.returns-then-header-eq0-clause-idle
returns-then-header-eq0-clause-idle g c = ready_idle (g.D.Disk.state c.self.inside.disk) c.self.invariant.0 (sym c.self.invariant.1.is ∙ c.if-header-eq0.true)

pub on-requires-clause-header : goal.on-requires-clause-header
on-requires-clause-header g c =
    let old = g.D.Disk.state c.self.inside.disk in
    let new = g.D.Disk.state c.settle_commit.new.disk in
    header_same old new _
    (same_map old new (g.met.D.Disk.counts_now c.settle_commit.new.disk) (g.met.D.Disk.seen_is_image c.settle_commit.new.disk) c.in-Ok.ensures.size c.in-Ok.ensures.any_moment) c.self.invariant.1

pub returns-in-Ok-clause-same : goal.returns-in-Ok-clause-same
returns-in-Ok-clause-same g c =
    subst (λ d. SameMap (data_of (g.D.Disk.state d)) (data_of (g.D.Disk.state c.args.self))) (sym c.on.ensures)
    (same_since g.D.Disk.state c.settle_commit.new.disk c.self.view_is (g.met.D.Disk.counts_now c.settle_commit.new.disk) (g.met.D.Disk.seen_is_image c.settle_commit.new.disk) c.in-Ok.ensures.size c.in-Ok.ensures.any_moment)

use Rattle.std.proofs.Common.{◌∙◌, ap, arith, subst, sym}
use Rattle.redo_journal.specs.Batch.{BatchView, IsOnDisk}
use Rattle.disk_tests.proofs.tests.two_areas.batch_of.Goals as goal
use Rattle.disk_tests.proofs.tests.two_areas.batch_of.Goals.{then-len-lt254, else-len-lt254}

pub loop-k-preserved : goal.loop-k-preserved
loop-k-preserved c = elim c.if-len-lt254.branch [
  | then-len-lt254 w ↦ record {
    on_disk =
        subst (λ (b : BatchView). IsOnDisk 1 2048 b.entries) (sym w.batch-is)
        (w.put.ensures.on_disk 1 2048 (omega (arith, c.requires.behind)) (omega (arith, c.requires.within, c.loop-k.auto.k-end)) c.loop-k.invariant.on_disk);
    most = ap (λ (b : BatchView). b.most) w.batch-is ∙ w.put.ensures.most ∙ c.loop-k.invariant.most;
  }
  | else-len-lt254 w ↦ record {
    on_disk = subst (λ (b : BatchView). IsOnDisk 1 2048 b.entries) (sym w.batch-is) c.loop-k.invariant.on_disk;
    most = ap (λ (b : BatchView). b.most) w.batch-is ∙ c.loop-k.invariant.most;
  }
]

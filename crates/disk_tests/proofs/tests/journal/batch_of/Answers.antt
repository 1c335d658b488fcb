use Rattle.std.proofs.Common.{◌∙◌, ap, arith, subst, sym}
use Rattle.redo_journal.specs.Batch.{BatchView, IsOnDisk}
use Rattle.disk_tests.proofs.tests.journal.batch_of.Goals as goal
use Rattle.disk_tests.proofs.tests.journal.batch_of.Goals.{then-len-lt126, else-len-lt126}

pub loop-k-preserved : goal.loop-k-preserved
loop-k-preserved c = elim c.if-len-lt126.branch [
  | then-len-lt126 w ↦ record {
    on_disk = λ size fits.
        subst (λ (b : BatchView). IsOnDisk 0 size b.entries) (sym w.batch-is)
        (w.put.ensures.on_disk 0 size (omega arith) (omega (arith, fits, c.loop-k.auto.k-end)) (c.loop-k.invariant.on_disk size fits));
    most = ap (λ (b : BatchView). b.most) w.batch-is ∙ w.put.ensures.most ∙ c.loop-k.invariant.most;
  }
  | else-len-lt126 w ↦ record {
    on_disk = λ size fits. subst (λ (b : BatchView). IsOnDisk 0 size b.entries) (sym w.batch-is) (c.loop-k.invariant.on_disk size fits);
    most = ap (λ (b : BatchView). b.most) w.batch-is ∙ c.loop-k.invariant.most;
  }
]

use Rattle.fs_model.specs.Rules.{IsLaidOut}
use Rattle.fs_check.specs.Checks.{meaning}
use Rattle.fs_check.specs.Owning.{AreAtHand}
use Rattle.fs_check.proofs.Tests.{AreTried}
use Rattle.fs_check.proofs.contents.laid_out.Given as goal

abbrev pub invariant-loop-ino : goal.invariant-loop-ino
invariant-loop-ino g l = record {
  tried : AreTried IsLaidOut l.opened.geometry (g.D.Disk.state l.initial.disk) (g.D.Disk.state l.disk) l.ino;
  at_hand : AreAtHand (meaning (g.D.Disk.state l.initial.disk)) l.pointers;
}

use Rattle.fs_model.specs.Rules.{HasAcls}
use Rattle.fs_check.proofs.Tests.{AreTried}
use Rattle.fs_check.proofs.acls.acls.Given as goal

abbrev pub invariant-loop-ino : goal.invariant-loop-ino
invariant-loop-ino g l = AreTried HasAcls l.opened.geometry (g.D.Disk.state l.initial.disk) (g.D.Disk.state l.disk) l.ino

use Rattle.fuse_serving.specs.Pieces.{scene}
use Rattle.fuse_serving.proofs.SoFar.{SoFar}
use Rattle.fuse_serving.proofs.serving.serve.Given as goal

abbrev pub invariant-loop : goal.invariant-loop
invariant-loop g l =
    let p = g.P.Performer in
    SoFar p.Serves g.K.Kernel.Does (scene p.machine p.server l.initial.performer l.initial.kernel) (scene p.machine p.server l.performer l.kernel) l.counter

use Rattle.std.proofs.Common.{map}
use Rattle.fs_access.proofs.Fronts.{IsFront}
use Rattle.fs_access.proofs.component.prefix_of.Given as goal

abbrev pub invariant-loop-piece : goal.invariant-loop-piece
invariant-loop-piece l = IsFront l.count (map (λ x. x.now) l.yielded) l.prefix.items l.left

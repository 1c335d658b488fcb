use Rattle.std.proofs.Common.{map, length, ◌≤◌}
use Rattle.fuse_serving.specs.Status.{SaysIds, known_groups_limit}
use Rattle.fuse_serving.proofs.status.ids_of.Given as goal

abbrev pub invariant-loop-word : goal.invariant-loop-word
invariant-loop-word l = SaysIds (map (λ x. x.now) l.yielded) l.groups × (length l.groups ≤ known_groups_limit)

use Rattle.std.proofs.Common.{◌≡◌, ◌≤◌, length, vec_capacity}
use Rattle.std.specs.List.{All}
use Rattle.fuse_steps.proofs.name_room.NameRoom.new.Given as goal

-- each of those that were made has the room
abbrev pub invariant-loop-round : goal.invariant-loop-round
invariant-loop-round l = (length l.spares.items ≡ l._round) × All (λ v. 255 ≤ vec_capacity v) l.spares.items

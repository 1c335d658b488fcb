use Rattle.std.specs.Prelude.{ℕ, ◌+◌, ◌-◌, ◌/◌, ◌≤◌, Result, length}
use Rattle.fuse_plans.specs.declared.request_error.RequestError.{RequestError}
use Rattle.fuse_plans.specs.FilePlans.{write_pieces, pieces_in, pieces_of}
use Rattle.fuse_steps.specs.Performing.{DidByMachine}
use Rattle.fuse_steps.proofs.runs.write_pieces.Given as goal

-- what is written by the pieces that are left, is written by all; and they are no more than all
abbrev pub invariant-loop-round : goal.invariant-loop-round
invariant-loop-round g l =
    ((fin : g.row.M.Denot) (r : Result ℕ RequestError)
    → DidByMachine g.M.Machine.Serves (write_pieces l.handle l.offset l.done (pieces_in l.most (length l.bytes / l.most + 1 - l._round) l.rest)) l.machine fin r
    → DidByMachine g.M.Machine.Serves (write_pieces l.handle l.offset 0 (pieces_of l.most l.bytes)) l.initial.machine fin r)
    × (l.done + length l.rest ≤ length l.bytes)

use Rattle.std.specs.Prelude.{◌≡◌, drop, map}
use Rattle.fuse_state.specs.Servers.{without_nodes}
use Rattle.fuse_requests.proofs.dispatch.forget_all.Given as goal

-- without the nodes that are left, it is without all
abbrev pub invariant-loop-at : goal.invariant-loop-at
invariant-loop-at l = record {
  left : without_nodes (map (λ e. e.0) (drop l.at l.batch)) l.server.server ≡ without_nodes (map (λ e. e.0) l.batch) l.initial.server.server;
  room : l.server.room ≡ l.initial.server.room;
}

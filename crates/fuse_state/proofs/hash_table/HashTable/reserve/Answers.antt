use Rattle.std.proofs.Common.{ap, ◌∙◌}
use Rattle.fuse_state.proofs.Scattered.{same-rising}
use Rattle.fuse_state.proofs.hash_table.HashTable.reserve.Goals as goal

pub returns-clause-same : goal.returns-clause-same
returns-clause-same g c =
    same-rising c.self.inside.entries.entries c.reserve.new.self.entries c.reserve.ensures.entries.2 ∙ ap (λ t. t.0) c.self.view_is

use Rattle.std.proofs.Common.{ap, ◌∙◌}
use Rattle.std.specs.Ordering.{nat_cmp}
use Rattle.fs_layout.specs.Maps.{without}
use Rattle.fuse_state.proofs.Scattered.{without-rising}
use Rattle.fuse_state.proofs.hash_table.HashTable.remove.Goals as goal

pub returns-clause-removed : goal.returns-clause-removed
returns-clause-removed g c =
    without-rising c.self.inside.entries.entries c.remove-value.new.self.entries c.args.key c.remove-value.ensures.updates.0
    ∙ ap (λ t. without nat_cmp t.0 c.args.key) c.self.view_is

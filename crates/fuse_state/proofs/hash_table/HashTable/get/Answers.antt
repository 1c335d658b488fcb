use Rattle.std.proofs.Common.{sym, ap, ◌∙◌}
use Rattle.std.specs.Ordering.{nat_cmp}
use Rattle.fs_layout.specs.Maps.{get}
use Rattle.fuse_state.proofs.Scattered.{get-rising}
use Rattle.fuse_state.proofs.hash_table.HashTable.get.Goals as goal

pub returns : goal.returns
returns g c =
    c.get.ensures.value ∙ sym (get-rising c.self.inside.entries.entries c.args.key) ∙ ap (λ t. get nat_cmp t.0 c.args.key) c.self.view_is

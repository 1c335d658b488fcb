use Rattle.std.proofs.Common.{◌<◌, arith, ap, ◌∙◌}
use Rattle.std.specs.HashMap.{spare}
use Rattle.std.specs.Ordering.{nat_cmp}
use Rattle.fs_layout.specs.Maps.{with_entry}
use Rattle.fuse_state.proofs.Scattered.{put-rising, on_ok}
use Rattle.fuse_state.proofs.hash_table.HashTable.put.Goals as goal

pub returns-clause-put : goal.returns-clause-put
returns-clause-put g c =
    let room : 0 < spare c.self.inside.entries = omega (arith, c.requires, ap (λ t. t.1) c.self.view_is) in
    let updates = on_ok c.insert-before.result (c.insert-before.ensures.succeeds room) c.insert-before.ensures.updates in
    put-rising c.self.inside.entries.entries c.insert-before.new.self.entries c.args.key c.args.value updates.0
    ∙ ap (λ t. with_entry nat_cmp t.0 c.args.key c.args.value) c.self.view_is

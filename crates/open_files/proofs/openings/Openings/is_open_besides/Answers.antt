use Rattle.std.proofs.Common.{ap, sym, ◌∙◌}
use Rattle.std.specs.Prelude.{nat_lt}
use Rattle.std.specs.List.{list_any}
use Rattle.std.specs.Ordering.{nat_cmp}
use Rattle.slab.specs.Slab.{entries_from}
use Rattle.fs_layout.specs.Maps.{without}
use Rattle.open_files.specs.Handles.{count_for, count_of_handle}
use Rattle.open_files.proofs.Slots.{slots_rise}
use Rattle.open_files.proofs.Handled.{is_for, some_besides}
use Rattle.open_files.proofs.openings.Openings.is_open_besides.Goals as goal

pub returns : goal.returns
returns c =
    let m = entries_from 0 c.self.inside.slab.slots in
    ap (nat_lt c.own.result) (c.count_of.ensures ∙ c.self.invariant.each c.args.ino)
    ∙ ap (λ k. nat_lt k (count_for c.args.ino m)) (c.own.ensures ∙ ap (λ t. count_of_handle t.0 c.args.handle c.args.ino) (sym c.self.view_is))
    ∙ some_besides c.args.ino m c.args.handle (slots_rise 0 c.self.inside.slab.slots)
    ∙ ap (λ t. list_any (is_for c.args.ino) (without nat_cmp t.0 c.args.handle)) c.self.view_is

use Rattle.std.proofs.Common.{ap, ◌∙◌}
use Rattle.std.proofs.lemmas.Cmp.{nat_cmp_total}
use Rattle.std.specs.Ordering.{nat_cmp}
use Rattle.fs_layout.specs.Maps.{without}
use Rattle.fuse_state.proofs.Edited.{remove_at, without_lacking, without-IsMap}
use Rattle.fuse_state.proofs.Searched.{lacks_in_gap}
use Rattle.fuse_state.proofs.table.Table.remove.Goals as goal

pub invariant_of-self : goal.invariant_of-self
invariant_of-self g c =
    rw (c.remove-entry.ensures.items
    ∙ remove_at nat_cmp_total c.self.inside.entries.items c.args.key c.in-Ok.at c.self.invariant (rw c.deref.ensures.value at c.in-Ok.ensures))
    (without-IsMap nat_cmp_total c.self.inside.entries.items c.args.key c.self.invariant)

pub returns-in-Ok-clause-removed : goal.returns-in-Ok-clause-removed
returns-in-Ok-clause-removed g c =
    c.remove-entry.ensures.items
    ∙ remove_at nat_cmp_total c.self.inside.entries.items c.args.key c.in-Ok.at c.self.invariant (rw c.deref.ensures.value at c.in-Ok.ensures)
    ∙ ap (λ t. without nat_cmp t.0 c.args.key) c.self.view_is

pub returns-in_default-clause-removed : goal.returns-in_default-clause-removed
returns-in_default-clause-removed g c =
    rw (← c.self.view_is)
    (without_lacking nat_cmp_total c.self.inside.entries.items c.args.key (lacks_in_gap nat_cmp_total c.self.inside.entries.items c.args.key c.in_default.field-0 (rw c.deref.ensures.value at c.in_default.ensures)))

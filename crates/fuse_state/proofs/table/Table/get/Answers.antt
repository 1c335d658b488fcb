use Rattle.std.proofs.Common.{sym, ap, ◌∙◌, Some}
use Rattle.std.proofs.lemmas.Cmp.{nat_cmp_total}
use Rattle.std.specs.Ordering.{nat_cmp}
use Rattle.fs_layout.specs.Maps.{get}
use Rattle.fuse_state.proofs.Searched.{get_at, get_lacking, lacks_in_gap}
use Rattle.fuse_state.proofs.table.Table.get.Goals as goal

pub returns-in-Ok : goal.returns-in-Ok
returns-in-Ok g c =
    ap (λ e. Some e.1) c.index.ensures
    ∙ sym (get_at nat_cmp_total c.self.inside.entries.items c.args.key c.in-Ok.at c.index.result.now c.self.invariant (rw c.deref.ensures.value at c.in-Ok.ensures))
    ∙ ap (λ t. get nat_cmp t.0 c.args.key) c.self.view_is

pub returns-in-Err : goal.returns-in-Err
returns-in-Err g c =
    sym (get_lacking nat_cmp_total c.self.inside.entries.items c.args.key (lacks_in_gap nat_cmp_total c.self.inside.entries.items c.args.key c.in-Err.field-0 (rw c.deref.ensures.value at c.in-Err.ensures)))
    ∙ ap (λ t. get nat_cmp t.0 c.args.key) c.self.view_is

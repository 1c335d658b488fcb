use Rattle.std.proofs.Common.{ap, ◌∙◌, ◌<◌, arith, vec_len, vec_capacity}
use Rattle.std.proofs.lemmas.Cmp.{nat_cmp_total}
use Rattle.std.specs.Ordering.{nat_cmp}
use Rattle.fs_layout.specs.Maps.{with_entry}
use Rattle.fs_layout.proofs.MapLaws.{with_entry-IsMap}
use Rattle.fuse_state.proofs.Edited.{put_at, inserted}
use Rattle.fuse_state.proofs.table.Table.put.Goals as goal
use Rattle.fuse_state.proofs.table.Table.put.Goals.{in-Err-1, in-Ok-1}

pub invariant_of-self : goal.invariant_of-self
invariant_of-self g c =
    rw (put_at nat_cmp_total c.self.inside.entries.items c.args.key c.in-Ok.at c.args.value c.self.invariant (rw c.deref.ensures.value at c.in-Ok.ensures))
    (with_entry-IsMap c.self.inside.entries.items c.args.key c.args.value c.self.invariant)

pub returns-in-Ok-clause-put : goal.returns-in-Ok-clause-put
returns-in-Ok-clause-put g c =
    put_at nat_cmp_total c.self.inside.entries.items c.args.key c.in-Ok.at c.args.value c.self.invariant (rw c.deref.ensures.value at c.in-Ok.ensures)
    ∙ ap (λ t. with_entry nat_cmp t.0 c.args.key c.args.value) c.self.view_is

pub invariant_of-self-in-Err-2 : goal.invariant_of-self-in-Err-2
invariant_of-self-in-Err-2 g c =
    let room : vec_len c.self.inside.entries < vec_capacity c.self.inside.entries = omega (arith, c.requires, ap (λ t. t.1) c.self.view_is) in
    rw (inserted nat_cmp_total c.self.inside.entries.items _ c.args.key c.in-Err.at c.args.value _ (rw c.deref.ensures.value at c.in-Err.ensures) (c.insert-placed.ensures.succeeds room) c.insert-placed.ensures.items)
    (with_entry-IsMap c.self.inside.entries.items c.args.key c.args.value c.self.invariant)

pub returns-in-Err-clause-put : goal.returns-in-Err-clause-put
returns-in-Err-clause-put g c =
    let room : vec_len c.self.inside.entries < vec_capacity c.self.inside.entries = omega (arith, c.requires, ap (λ t. t.1) c.self.view_is) in
    let placed = inserted nat_cmp_total c.self.inside.entries.items _ c.args.key c.in-Err.at c.args.value _ (rw c.deref.ensures.value at c.in-Err.ensures) (c.insert-placed.ensures.succeeds room) c.insert-placed.ensures.items in
    let is = placed ∙ ap (λ t. with_entry nat_cmp t.0 c.args.key c.args.value) c.self.view_is in
    elim c.match-placed.branch [ in-Err-1 w ↦ ap (λ t. t.0) w.self-is ∙ is | in-Ok-1 w ↦ ap (λ t. t.0) w.self-is ∙ is ]

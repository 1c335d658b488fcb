use Rattle.std.proofs.Common.{true, set, sym, ap, ◌∙◌}
use Rattle.fs_check.specs.declared.marks.Marks.{Marks}
use Rattle.fs_check.proofs.Counts.{first_owner, second_owner}
use Rattle.fs_check.proofs.marks.Marks.mark.Goals as goal
use Rattle.fs_check.proofs.marks.Marks.mark.Goals.{then-has, else-has}

pub returns-clause-marked : goal.returns-clause-marked
returns-clause-marked c = λ m.
    let p = c.args.geometry in
    let s = c.args.s in
    let old = c.args.self.now in
    elim c.if-has.branch [
      | then-has w ↦
          second_owner p m s old _ c.requires.some c.requires.in_data (c.insert-2.ensures ∙ ap (λ (x : Marks). set x.owned s true) w.self-is)
          (ap (λ (x : Marks). x.once) w.self-is) (ap (λ (x : Marks). x.again) w.self-is) (ap (λ (x : Marks). x.twice) w.self-is ∙ w.insert.ensures)
          (sym w.if-has.ensures)
      | else-has w ↦
          first_owner p m s old _ c.requires.some c.requires.in_data (c.insert-2.ensures ∙ ap (λ (x : Marks). set x.owned s true) w.self-is)
          (ap (λ (x : Marks). x.once) w.self-is) (ap (λ (x : Marks). x.again) w.self-is) (ap (λ (x : Marks). x.twice) w.self-is) (sym w.if-has.ensures)
    ]

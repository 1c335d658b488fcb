use Rattle.std.proofs.Common.{ap, ◌∙◌, not, nat_eq}
use Rattle.std.specs.List.{list_any}
use Rattle.slab.specs.Slab.{entries_from}
use Rattle.open_files.proofs.Handled.{is_for, some_open}
use Rattle.open_files.proofs.openings.Openings.is_open.Goals as goal

pub returns : goal.returns
returns c =
    ap (λ k. not (nat_eq k 0)) (c.count_of.ensures ∙ c.self.invariant.each c.args.ino)
    ∙ some_open c.args.ino (entries_from 0 c.self.inside.slab.slots)
    ∙ ap (λ t. list_any (is_for c.args.ino) t.0) c.self.view_is

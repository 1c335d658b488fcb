use Rattle.std.proofs.Common.{ap, ◌∙◌, subst, ◌≡◌, None, ℕ, List}
use Rattle.std.specs.Prelude.{IfSome}
use Rattle.std.specs.Ordering.{nat_cmp}
use Rattle.fs_layout.specs.Maps.{get}
use Rattle.fs_model.specs.Processes.{Descriptor}
use Rattle.open_files.specs.Tables.{lowest}
use Rattle.open_files.proofs.OpenSlots.{lowest_in, empty_below, empty_unused}
use Rattle.open_files.proofs.procs.Descriptors.lowest_unused.Goals as goal

pub returns-clause-lowest : goal.returns-clause-lowest
returns-clause-lowest c = c.first_empty.ensures ∙ lowest_in c.self.inside.slots c.self.invariant ∙ ap lowest c.self.view_is

pub returns-clause-below : goal.returns-clause-below
returns-clause-below c = empty_below c.self.inside.slots c.self.invariant c.first_empty.result c.first_empty.ensures

pub returns-clause-unused : goal.returns-clause-unused
returns-clause-unused c =
    subst (λ (m : List (ℕ × Descriptor)). IfSome c.first_empty.result (λ fd. get nat_cmp m fd ≡ None)) c.self.view_is
    (empty_unused c.self.inside.slots c.first_empty.result c.first_empty.ensures)

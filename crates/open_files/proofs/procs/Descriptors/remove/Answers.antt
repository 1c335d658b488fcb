use Rattle.std.proofs.Common.{arith, ap, ◌∙◌, None}
use Rattle.std.proofs.lemmas.List.{length-set}
use Rattle.std.specs.Ordering.{nat_cmp}
use Rattle.fs_layout.specs.Maps.{without}
use Rattle.open_files.proofs.OpenSlots.{taken_out, are_descriptors}
use Rattle.open_files.proofs.procs.Descriptors.remove.Goals as goal

pub returns-clause-removed : goal.returns-clause-removed
returns-clause-removed c =
    taken_out c.self.inside.slots c.args.fd (omega (arith, c.self.invariant, c.requires))
    ∙ ap (λ m. without nat_cmp m c.args.fd) c.self.view_is

pub returns-clause-kept : goal.returns-clause-kept
returns-clause-kept c = are_descriptors _ (length-set c.self.inside.slots c.args.fd None ∙ c.self.invariant)

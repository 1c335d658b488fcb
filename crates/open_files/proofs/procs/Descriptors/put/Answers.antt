use Rattle.std.proofs.Common.{arith, ap, ◌∙◌, Some}
use Rattle.std.proofs.lemmas.List.{length-set}
use Rattle.std.specs.Ordering.{nat_cmp}
use Rattle.fs_layout.specs.Maps.{with_entry}
use Rattle.open_files.proofs.OpenSlots.{put_in, are_descriptors}
use Rattle.open_files.proofs.procs.Descriptors.put.Goals as goal

pub returns-clause-put : goal.returns-clause-put
returns-clause-put c =
    put_in c.self.inside.slots c.args.fd c.args.descriptor (omega (arith, c.self.invariant, c.requires))
    ∙ ap (λ m. with_entry nat_cmp m c.args.fd c.args.descriptor) c.self.view_is

pub returns-clause-kept : goal.returns-clause-kept
returns-clause-kept c = are_descriptors _ (length-set c.self.inside.slots c.args.fd (Some c.args.descriptor) ∙ c.self.invariant)

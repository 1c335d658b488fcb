use Rattle.std.proofs.Common.{arith, ap, sym, ◌∙◌}
use Rattle.std.specs.Ordering.{nat_cmp}
use Rattle.fs_layout.specs.Maps.{get}
use Rattle.open_files.proofs.OpenSlots.{read_slot, no_slot}
use Rattle.open_files.proofs.procs.Descriptors.get.Goals as goal

pub returns-then-fd-lt-MAX_DESCRIPTORS : goal.returns-then-fd-lt-MAX_DESCRIPTORS
returns-then-fd-lt-MAX_DESCRIPTORS c =
    read_slot c.self.inside.slots c.args.fd c.index-self-fd.result (omega (arith, c.self.invariant))
    ∙ ap (λ m. get nat_cmp m c.args.fd) c.self.view_is

pub returns-else-fd-lt-MAX_DESCRIPTORS : goal.returns-else-fd-lt-MAX_DESCRIPTORS
returns-else-fd-lt-MAX_DESCRIPTORS c =
    sym (ap (λ m. get nat_cmp m c.args.fd) (sym c.self.view_is) ∙ no_slot c.self.inside.slots c.args.fd (omega (arith, c.self.invariant)))

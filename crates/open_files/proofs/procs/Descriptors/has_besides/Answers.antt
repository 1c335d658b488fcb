use Rattle.std.proofs.Common.{arith, ap, ◌∙◌, ◌==◌, ◌+◌, ◌-◌, length, drop}
use Rattle.std.proofs.lemmas.List.{take_all, length-drop}
use Rattle.std.specs.List.{list_any}
use Rattle.std.specs.Ordering.{nat_cmp}
use Rattle.slab.specs.Slab.{entries_from}
use Rattle.fs_layout.specs.Maps.{without}
use Rattle.open_files.proofs.OpenSlots.{found_besides, besides_before, besides_after}
use Rattle.open_files.proofs.procs.Descriptors.has_besides.Goals as goal

pub returns-then-is_in : goal.returns-then-is_in
returns-then-is_in c =
    besides_before _ _ _ c.is_in.result c.is_in.ensures c.if-is_in.true
    (found_besides c.self.inside.slots c.args.fd c.args.ino (omega (arith, c.self.invariant, c.requires))
    ∙ ap (λ m. list_any (λ d. d.1.ino == c.args.ino) (without nat_cmp m c.args.fd)) c.self.view_is)

pub returns-else-is_in : goal.returns-else-is_in
returns-else-is_in c =
    besides_after _ _ _ c.is_in.result c.is_in-else-is_in.result c.is_in.ensures c.if-is_in.false
    (c.is_in-else-is_in.ensures
    ∙ ap (λ s. list_any (λ d. d.1.ino == c.args.ino) (entries_from 0 s))
    (take_all (length c.self.inside.slots - (c.args.fd + 1)) (drop (c.args.fd + 1) c.self.inside.slots)
    (omega (arith, length-drop (c.args.fd + 1) c.self.inside.slots))))
    (found_besides c.self.inside.slots c.args.fd c.args.ino (omega (arith, c.self.invariant, c.requires))
    ∙ ap (λ m. list_any (λ d. d.1.ino == c.args.ino) (without nat_cmp m c.args.fd)) c.self.view_is)

use Rattle.std.proofs.Common.{◌≡◌, ℕ, ◌-◌, ◌*◌, List, length, refl, sym, ap, subst, ◌∙◌, arith}
use Rattle.fs_layout.specs.Version.{slot_size}
use Rattle.fs_layout.specs.Images.{Holds}
use Rattle.fs_layout.specs.Directories.{NamedInode, slots_bytes}
use Rattle.dir_core.proofs.Changing.{slot_below, same_content, slot_inside, moves_itself}
use Rattle.dir_core.proofs.SlotPlaces.{slot_start, slot_is_last}
use Rattle.dir_core.proofs.Taking.{size_of_slots}
use Rattle.dir_core.proofs.names.move_last.Goals as goal

pub overflow_mul-at : goal.overflow_mul-at
overflow_mul-at g c = omega (arith, slot_below c.requires.directory.1 c.args.slot c.requires.directory.2 c.slot_size-slot_size.ensures)

pub overflow_sub-last : goal.overflow_sub-last
overflow_sub-last g c =
    let inside = slot_inside c.requires.directory.1 c.args.slot c.requires.directory.2 {at = c.args.slot * slot_size c.args.geometry.version} refl in
    let is = c.slot_size-slot_size.ensures in
    omega (arith, inside, is)

pub returns-then-at-last-clause-change : goal.returns-then-at-last-clause-change
returns-then-at-last-clause-change g c = same_content c.requires.sound c.requires.below c.requires.inode c.requires.directory.1.kind

pub returns-then-at-last-clause-moved : goal.returns-then-at-last-clause-moved
returns-then-at-last-clause-moved g c = λ slots d h.
    let version = c.args.geometry.version in
    let is = c.slot_size-slot_size.ensures in
    let last : c.args.slot ≡ length slots - 1 =
    slot_is_last version c.args.slot (length slots) (sym (slot_start version c.args.slot) ∙ sym (ap (λ (w : ℕ). c.args.slot * w) is) ∙ c.if-at-last.true
    ∙ ap (λ (w : ℕ). c.args.inode.now.size - w) is ∙ ap (λ (k : ℕ). k - slot_size version) (size_of_slots h)) in
    subst (λ (r : List NamedInode). Holds (g.S.Sectors.state c.args.s.now).sectors c.args.inode.now (slots_bytes version r))
    (sym (moves_itself slots c.args.slot d last)) h.holds

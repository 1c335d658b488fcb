use Rattle.std.proofs.Common.{◌≡◌, ◌<◌, ◌+◌, ◌-◌, ◌/◌, ℕ, sym, ap, subst, ◌∙◌, arith, inl, inr, Err}
use Rattle.fs_layout.specs.declared.inode.TheConstants.{DIRECT_BLOCKS, POINTER_LEVELS, SECTOR_POINTERS}
use Rattle.fs_layout.specs.Images.{holder, free_sectors}
use Rattle.fs_layout.specs.Lacking.{lacks_from}
use Rattle.bit_alloc.specs.Room.{HasSpare}
use Rattle.block_map.specs.declared.fault.MapFault.TheVariants.{Full}
use Rattle.block_map.specs.Steps.{AddsNumbers, most_for}
use Rattle.block_map.proofs.Adding.{adds_pointers, first_level_lacks, needs_no_pointers}
use Rattle.block_map.proofs.Counts.{most_far}
use Rattle.block_map.proofs.Runs.{same_fault}
use Rattle.block_map.proofs.steps.add_pointers.Goals as goal

pub returns-then-end-le-DIRECT_BLOCKS-clause-added : goal.returns-then-end-le-DIRECT_BLOCKS-clause-added
returns-then-end-le-DIRECT_BLOCKS-clause-added g c = needs_no_pointers c.requires.may (inl c.if-end-le-DIRECT_BLOCKS.true)

pub returns-then-end-first-clause-added : goal.returns-then-end-first-clause-added
returns-then-end-first-clause-added g c = needs_no_pointers c.requires.may (inr c.if-end-first.true)

pub add_numbers-requires-clause-order : goal.add_numbers-requires-clause-order
add_numbers-requires-clause-order g c = (
  omega (arith, c.saturating_sub-from.ensures, c.requires.inside.1, c.if-end-first.false, c.if-end-le-DIRECT_BLOCKS.false),
  omega (arith, c.requires.inside.2, c.if-end-le-DIRECT_BLOCKS.false),
)

pub add_numbers-requires-clause-inside : goal.add_numbers-requires-clause-inside
add_numbers-requires-clause-inside g c =
    let far = c.requires.inside.0 (omega (arith, c.if-end-le-DIRECT_BLOCKS.false)) in
    omega (arith, far, c.if-end-le-DIRECT_BLOCKS.false)

pub add_numbers-requires-clause-room : goal.add_numbers-requires-clause-room
add_numbers-requires-clause-room g c =
    let first = c.args.first in
    let end = c.args.end in
    let from : holder DIRECT_BLOCKS first ≡ c.saturating_sub-from.result / SECTOR_POINTERS = ap (λ (m : ℕ). m / SECTOR_POINTERS) (sym c.saturating_sub-from.ensures) in
    subst (λ (m : ℕ). HasSpare c.args.geometry m (g.S.Sectors.state c.args.s.now))
    (most_far first end (omega (arith, c.if-end-le-DIRECT_BLOCKS.false)) ∙ ap (λ (i : ℕ). most_for 1 i (holder DIRECT_BLOCKS (end - 1) + 1)) from) c.requires.room

pub returns-in_err-add_numbers-clause-full : goal.returns-in_err-add_numbers-clause-full
returns-in_err-add_numbers-clause-full g c = λ is.
    let p = c.args.geometry in
    let first = c.args.first in
    let end = c.args.end in
    let old = g.S.Sectors.state c.args.s.now in
    let v = c.args.blocks.now.inode in
    let from : c.saturating_sub-from.result / SECTOR_POINTERS ≡ holder DIRECT_BLOCKS first = ap (λ (m : ℕ). m / SECTOR_POINTERS) c.saturating_sub-from.ensures in
    let e = c.from_residual.ensures in
    let f = c.in_err-add_numbers.ensures.full (ap Err (same_fault c.from_residual.result c.in_err-add_numbers.field-0.0 Full e.0 e.1 is)) in
    first_level_lacks p first end old v (omega (arith, c.if-end-le-DIRECT_BLOCKS.false))
    (subst (λ (i : ℕ). free_sectors p old.sectors < lacks_from old.sectors v POINTER_LEVELS 1 i (holder DIRECT_BLOCKS (end - 1) + 1)) from f)

pub returns-clause-added : goal.returns-clause-added
returns-clause-added g c =
    let first = c.args.first in
    let end = c.args.end in
    let old = g.S.Sectors.state c.args.s.now in
    let new = g.S.Sectors.state c.add_numbers.new.s in
    let from : c.saturating_sub-from.result / SECTOR_POINTERS ≡ holder DIRECT_BLOCKS first = ap (λ (m : ℕ). m / SECTOR_POINTERS) c.saturating_sub-from.ensures in
    adds_pointers (omega (arith, c.if-end-le-DIRECT_BLOCKS.false))
    (subst (λ (i : ℕ). AddsNumbers c.args.geometry 1 i (holder DIRECT_BLOCKS (end - 1) + 1) old new c.args.blocks.now.inode c.add_numbers.new.blocks.inode) from
    c.in_ok-add_numbers.ensures.added)

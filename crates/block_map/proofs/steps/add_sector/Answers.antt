use Rattle.std.proofs.Common.{◌*◌, ◌<◌, [], ℕ, List, sym, ap, subst, ◌∙◌, arith, Err}
use Rattle.fs_layout.specs.Images.{first_block, number_on}
use Rattle.bit_alloc.specs.Room.{bitmaps}
use Rattle.block_map.specs.declared.fault.MapFault.TheVariants.{Full}
use Rattle.block_map.specs.Steps.{AddsSector, HasRoomFor, sectors_to}
use Rattle.block_map.proofs.AddedPointers.{adds_beside, sectors_far}
use Rattle.block_map.proofs.Rooms.{lacking-append}
use Rattle.block_map.proofs.Runs.{same_fault}
use Rattle.block_map.proofs.steps.add_sector.Goals as goal

pub add_named-requires-clause-inside : goal.add_named-requires-clause-inside
add_named-requires-clause-inside g c = subst (λ (i : ℕ). 512 * first_block c.args.level i < c.args.blocks.now.inode.size) c.if-i-eq0.true c.requires.inside

pub add_named-requires-clause-room : goal.add_named-requires-clause-room
add_named-requires-clause-room g c =
    let old = g.S.Sectors.state c.args.s.now in
    let a = lacking-append old (sectors_to old.sectors c.args.blocks.now.inode c.args.level c.args.i) (bitmaps c.args.geometry) in
    let r = c.requires.room in
    omega (arith, a, r)

pub returns-in_err-add_named-clause-full : goal.returns-in_err-add_named-clause-full
returns-in_err-add_named-clause-full g c = λ is.
    let e = c.from_residual.ensures in
    let f = c.in_err-add_named.ensures.full (ap Err (same_fault c.from_residual.result c.in_err-add_named.field-0.0 Full e.0 e.1 is)) in
    (ap (number_on (g.S.Sectors.state c.args.s.now).sectors c.args.blocks.now.inode c.args.level) c.if-i-eq0.true ∙ f.0, f.1)

pub returns-then-i-eq0-clause-added : goal.returns-then-i-eq0-clause-added
returns-then-i-eq0-clause-added g c =
    let p = c.args.geometry in
    let old = g.S.Sectors.state c.args.s.now in
    let new = g.S.Sectors.state c.add_named.new.s in
    let v = c.args.blocks.now.inode in
    adds_beside (subst (λ (i : ℕ). AddsSector p [] c.args.level i old new v c.add_named.new.blocks.inode) (sym c.if-i-eq0.true) c.in_ok-add_named.ensures.added)
    (sectors_to old.sectors v c.args.level c.args.i)

pub add_listed-requires-clause-number : goal.add_listed-requires-clause-number
add_listed-requires-clause-number g c = (c.requires.level.0, c.requires.level.1, omega (arith, c.if-i-eq0.false))

pub add_listed-requires-clause-above : goal.add_listed-requires-clause-above
add_listed-requires-clause-above g c = c.requires.above (omega (arith, c.if-i-eq0.false))

pub add_listed-requires-clause-room : goal.add_listed-requires-clause-room
add_listed-requires-clause-room g c =
    let old = g.S.Sectors.state c.args.s.now in
    subst (λ (ns : List ℕ). HasRoomFor c.args.geometry ns 1 old)
    (sectors_far old.sectors c.args.blocks.now.inode c.args.level c.args.i c.requires.level.0 (omega (arith, c.if-i-eq0.false))) c.requires.room

pub returns-clause-added : goal.returns-clause-added
returns-clause-added g c =
    let old = g.S.Sectors.state c.args.s.now in
    let new = g.S.Sectors.state c.add_listed.new.s in
    let v = c.args.blocks.now.inode in
    subst (λ (ns : List ℕ). AddsSector c.args.geometry ns c.args.level c.args.i old new v c.add_listed.new.blocks.inode)
    (sym (sectors_far old.sectors v c.args.level c.args.i c.requires.level.0 (omega (arith, c.if-i-eq0.false)))) c.in_ok-add_listed.ensures.added

use Rattle.std.proofs.Common.{◌∷◌, [], ℕ, List, suc, sym, ap, subst, ◌∙◌, arith, Err}
use Rattle.fs_layout.specs.Bytes.{SectorMap}
use Rattle.fs_layout.specs.Images.{holder, number_on}
use Rattle.sector_txn.specs.Sectors.{lacking}
use Rattle.sector_txn.proofs.TransactionRuns.{lacking_less, store_joined}
use Rattle.bit_alloc.specs.Room.{bitmaps}
use Rattle.block_map.specs.declared.fault.MapFault.TheVariants.{Full}
use Rattle.block_map.specs.Steps.{AddsSector}
use Rattle.block_map.proofs.AddedPointers.{sector_there, added_after, read_above}
use Rattle.block_map.proofs.Givings.{may_unchanged}
use Rattle.block_map.proofs.Numbers.{at_hand_unchanged, next_pointers}
use Rattle.bit_alloc.proofs.Passing.{cause_on, no_fault_of}
use Rattle.block_map.proofs.Runs.{same_fault, same_map}
use Rattle.block_map.proofs.Wrote.{free_same, may_within}
use Rattle.block_map.proofs.steps.add_listed.Goals as goal

pub read_pointers-requires-clause-within : goal.read_pointers-requires-clause-within
read_pointers-requires-clause-within g c = may_within c.requires.may

pub returns-then-number-ne0-clause-added : goal.returns-then-number-ne0-clause-added
returns-then-number-ne0-clause-added g c =
    let old = g.S.Sectors.state c.args.s.now in
    let v = c.args.blocks.now.inode in
    let is = c.number-number.ensures old.sectors (λ ge. next_pointers v c.args.level c.args.i (λ e. let low = c.requires.number.0 in omega (arith, low, e)) c.in_ok-above.ensures.content) in
    let ns : List ℕ = number_on old.sectors v (suc c.args.level) (holder 1 c.args.i) ∷ [] in
    added_after {ns = ns} c.in_ok-above.ensures.same
    (sector_there (may_unchanged c.requires.may c.in_ok-above.ensures.same)
    (λ e. c.if-number-ne0.true
    (is ∙ ap (λ (image : SectorMap). number_on image v c.args.level c.args.i) (sym (same_map old.sectors (g.S.Sectors.state c.read_pointers.new.s).sectors c.in_ok-above.ensures.same.sectors)) ∙ e)))

pub returns-then-number-ne0-clause-at_hand : goal.returns-then-number-ne0-clause-at_hand
returns-then-number-ne0-clause-at_hand g c = at_hand_unchanged c.in_ok-above.ensures.same c.requires.at_hand

pub list_sector-requires-clause-may : goal.list_sector-requires-clause-may
list_sector-requires-clause-may g c = may_unchanged c.requires.may c.in_ok-above.ensures.same

pub list_sector-requires-clause-at_hand : goal.list_sector-requires-clause-at_hand
list_sector-requires-clause-at_hand g c = at_hand_unchanged c.in_ok-above.ensures.same c.requires.at_hand

pub list_sector-requires-clause-above : goal.list_sector-requires-clause-above
list_sector-requires-clause-above g c =
    let old = g.S.Sectors.state c.args.s.now in
    let mid = g.S.Sectors.state c.read_pointers.new.s in
    let v = c.args.blocks.now.inode in
    let e = same_map old.sectors mid.sectors c.in_ok-above.ensures.same.sectors in
    let is = read_above old.sectors v c.args.level c.args.i c.in_ok-above.ensures.number in
    (is ∙ ap (λ (image : SectorMap). number_on image v (suc c.args.level) (holder 1 c.args.i)) (sym e), λ z. c.requires.above (sym is ∙ z))

pub list_sector-requires-clause-content : goal.list_sector-requires-clause-content
list_sector-requires-clause-content g c =
    let is = read_above (g.S.Sectors.state c.args.s.now).sectors c.args.blocks.now.inode c.args.level c.args.i c.in_ok-above.ensures.number in
    c.in_ok-above.ensures.content.is (λ z. c.requires.above (sym is ∙ c.in_ok-above.ensures.number ∙ z))
    ∙ ap (g.S.Sectors.state c.args.s.now).sectors (sym c.in_ok-above.ensures.number) ∙ sym (c.in_ok-above.ensures.same.sectors _)

pub list_sector-requires-clause-none : goal.list_sector-requires-clause-none
list_sector-requires-clause-none g c =
    let old = g.S.Sectors.state c.args.s.now in
    let mid = g.S.Sectors.state c.read_pointers.new.s in
    let v = c.args.blocks.now.inode in
    let is = c.number-number.ensures old.sectors (λ ge. next_pointers v c.args.level c.args.i (λ e. let low = c.requires.number.0 in omega (arith, low, e)) c.in_ok-above.ensures.content) in
    ap (λ (image : SectorMap). number_on image v c.args.level c.args.i) (same_map old.sectors mid.sectors c.in_ok-above.ensures.same.sectors) ∙ sym is ∙ c.if-number-ne0.false

pub list_sector-requires-clause-room : goal.list_sector-requires-clause-room
list_sector-requires-clause-room g c =
    let old = g.S.Sectors.state c.args.s.now in
    let mid = g.S.Sectors.state c.read_pointers.new.s in
    let less = lacking_less old mid (λ m has. c.in_ok-above.ensures.same.delta m ∙ has)
    (number_on old.sectors c.args.blocks.now.inode (suc c.args.level) (holder 1 c.args.i) ∷ bitmaps c.args.geometry) in
    let e = ap (λ (t : ℕ). lacking mid (t ∷ bitmaps c.args.geometry)) (read_above old.sectors c.args.blocks.now.inode c.args.level c.args.i c.in_ok-above.ensures.number) in
    omega (arith, c.requires.room, less, e, c.in_ok-above.ensures.same.room)

pub returns-in_err-list_sector-clause-full : goal.returns-in_err-list_sector-clause-full
returns-in_err-list_sector-clause-full g c = λ is.
    let old = g.S.Sectors.state c.args.s.now in
    let v = c.args.blocks.now.inode in
    let none = c.number-number.ensures old.sectors (λ ge. next_pointers v c.args.level c.args.i (λ e. let low = c.requires.number.0 in omega (arith, low, e)) c.in_ok-above.ensures.content) in
    let e = c.from_residual-in_err-list_sector.ensures in
    let f = c.in_err-list_sector.ensures.full (ap Err (same_fault c.from_residual-in_err-list_sector.result c.in_err-list_sector.field-0.0 Full e.0 e.1 is)) in
    (sym none ∙ c.if-number-ne0.false, sym (free_same c.args.geometry old (g.S.Sectors.state c.read_pointers.new.s) c.in_ok-above.ensures.same) ∙ f)

pub returns-clause-added : goal.returns-clause-added
returns-clause-added g c =
    let mid = g.S.Sectors.state c.read_pointers.new.s in
    let new = g.S.Sectors.state c.list_sector.new.s in
    added_after c.in_ok-above.ensures.same
    (subst (λ (u : ℕ). AddsSector c.args.geometry (u ∷ []) c.args.level c.args.i mid new c.args.blocks.now.inode c.list_sector.new.blocks.inode)
    (read_above (g.S.Sectors.state c.args.s.now).sectors c.args.blocks.now.inode c.args.level c.args.i c.in_ok-above.ensures.number) c.in_ok-list_sector.ensures.added)

pub returns-clause-store : goal.returns-clause-store
returns-clause-store g c = store_joined c.in_ok-above.ensures.same.store c.in_ok-list_sector.ensures.store

pub returns-in_err-list_sector-clause-store : goal.returns-in_err-list_sector-clause-store
returns-in_err-list_sector-clause-store g c = store_joined c.in_ok-above.ensures.same.store c.in_err-list_sector.ensures.store

pub returns-in_err-list_sector-clause-cause : goal.returns-in_err-list_sector-clause-cause
returns-in_err-list_sector-clause-cause g c =
    cause_on c.in_ok-above.ensures.same.store c.in_err-list_sector.ensures.cause c.from_residual-in_err-list_sector.result c.from_residual-in_err-list_sector.ensures

pub returns-then-number-ne0-clause-cause : goal.returns-then-number-ne0-clause-cause
returns-then-number-ne0-clause-cause g c = no_fault_of c.in_ok-above.ensures.same.store

pub returns-clause-cause : goal.returns-clause-cause
returns-clause-cause g c = no_fault_of (store_joined c.in_ok-above.ensures.same.store c.in_ok-list_sector.ensures.store)

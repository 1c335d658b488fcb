use Rattle.std.proofs.Common.{◌≡◌, ◌<◌, ◌≤◌, ◌+◌, ◌-◌, ◌*◌, ◌/◌, ℕ, ap, subst, ◌∙◌, arith, rules, Err}
use Rattle.fs_layout.specs.declared.inode.TheConstants.{POINTER_LEVELS, SECTOR_POINTERS}
use Rattle.fs_layout.specs.Images.{first_block, level_end}
use Rattle.sector_txn.proofs.TransactionRuns.{store_joined}
use Rattle.bit_alloc.specs.Room.{HasSpare}
use Rattle.block_map.specs.Steps.{most_for}
use Rattle.block_map.specs.declared.fault.MapFault.TheVariants.{Full}
use Rattle.block_map.proofs.AddedPointers.{one_lacks}
use Rattle.block_map.proofs.Adding.{IsAdded, above_of, above_at, above_lacks, all_added, first_block_grows, first_block_held, has_above, more_numbers, named_added, named_lacks, none_added, number_lacks, room_for_number, spare_above, stands}
use Rattle.block_map.proofs.Alterings.{may_after}
use Rattle.block_map.proofs.Counts.{most_least}
use Rattle.bit_alloc.proofs.Passing.{cause_on, no_fault_of}
use Rattle.block_map.proofs.Runs.{same_fault}
use Rattle.block_map.proofs.steps.+add_numbers.Goals as goal

-- ---- the first alone
pub add_named-requires-clause-inside : goal.add_named-requires-clause-inside
add_named-requires-clause-inside g t c =
    let inside = c.requires.inside in
    let grows = first_block_grows c.args.level 0 (c.args.end - 1) (omega arith) in
    omega (arith, inside, grows)

pub add_named-requires-clause-room : goal.add_named-requires-clause-room
add_named-requires-clause-room g t c =
    let least = most_least c.args.level c.args.first c.args.end c.requires.level.0 c.requires.level.1 in
    omega (arith, least, c.requires.order.0, c.requires.room)

pub returns-then-end-le1-clause-added : goal.returns-then-end-le1-clause-added
returns-then-end-le1-clause-added g t c =
    named_added c.requires.level.0 c.requires.level.1 c.requires.order.0 c.if-end-le1.true c.in_ok-add_named.ensures.added

pub returns-in_err-add_named-clause-full : goal.returns-in_err-add_named-clause-full
returns-in_err-add_named-clause-full g t c = λ is.
    let old = g.S.Sectors.state c.args.s.now in
    let v = c.args.blocks.now.inode in
    let e = c.from_residual.ensures in
    let f = c.in_err-add_named.ensures.full (ap Err (same_fault c.from_residual.result c.in_err-add_named.field-0.0 Full e.0 e.1 is)) in
    let count = named_lacks old.sectors v c.args.level c.args.first c.args.end c.requires.level.0 c.requires.level.1 c.requires.order.0 c.if-end-le1.true in
    let one = one_lacks old.sectors v c.args.level 0 f.0 in
    omega (arith, count, one, f.1)

-- ---- those above
pub add_numbers-requires : goal.add_numbers-requires
add_numbers-requires g t c =
    let level = c.args.level in
    let size = c.args.blocks.now.inode.size in
    let from : ℕ = c.saturating_sub-from.result / SECTOR_POINTERS in
    let last : ℕ = (c.args.end - 2) / SECTOR_POINTERS in
    let some : 1 < c.args.end = omega (arith, c.if-end-le1.false) in
    let far = has_above level c.args.end c.requires.level.0 c.requires.level.1 some c.requires.order.1 in
    let held = first_block_held level (c.args.end - 1) c.requires.level.0 (omega (arith, some)) in
    let grows = first_block_grows (level + 1) (last + 1 - 1) ((c.args.end - 1 - 1) / SECTOR_POINTERS) (omega (arith, some)) in
    let smaller : POINTER_LEVELS + 1 - (level + 1) < POINTER_LEVELS + 1 - level = omega (arith, far.0) in
    let is_level : (1 ≤ level + 1) × (level + 1 ≤ POINTER_LEVELS) = (omega arith, omega (arith, far.0)) in
    let order : (from < last + 1) × (last + 1 ≤ level_end (level + 1)) =
    (omega (arith, c.requires.order.0, c.saturating_sub-from.ensures, some), omega (arith, far.1, some)) in
    let inside : 512 * first_block (level + 1) (last + 1 - 1) < size = let i = c.requires.inside in omega (arith, i, held, grows) in
    let room : HasSpare c.args.geometry (most_for (level + 1) from (last + 1)) (g.S.Sectors.state c.args.s.now) =
    spare_above c.args.geometry c.args.first c.args.end (g.S.Sectors.state c.args.s.now) c.requires.level.0 far.0 some
    (ap (λ (m : ℕ). m / SECTOR_POINTERS) c.saturating_sub-from.ensures) (omega (arith, some)) c.requires.room in
    let may = c.requires.may in
    let at_hand = c.requires.at_hand in
    search rules

pub returns-in_err-add_numbers-clause-full : goal.returns-in_err-add_numbers-clause-full
returns-in_err-add_numbers-clause-full g t c = λ is.
    let far = has_above c.args.level c.args.end c.requires.level.0 c.requires.level.1 (omega (arith, c.if-end-le1.false)) c.requires.order.1 in
    let e = c.from_residual-in_err-add_numbers.ensures in
    let f = c.in_err-add_numbers.ensures.full (ap Err (same_fault c.from_residual-in_err-add_numbers.result c.in_err-add_numbers.field-0.0 Full e.0 e.1 is)) in
    above_lacks c.args.geometry c.args.level c.args.first c.args.end (g.S.Sectors.state c.args.s.now) c.args.blocks.now.inode c.requires.level.0 far.0 (omega (arith, c.if-end-le1.false))
    (ap (λ (m : ℕ). m / SECTOR_POINTERS) c.saturating_sub-from.ensures) (omega (arith, c.if-end-le1.false)) f

-- ---- one after the other
pub loop-i-init : goal.loop-i-init
loop-i-init g t c =
    let mid = g.S.Sectors.state c.add_numbers.new.s in
    let v = c.add_numbers.new.blocks.inode in
    record {
      from = omega arith;
      most = omega (arith, c.requires.order.0);
      at_hand = c.in_ok-add_numbers.ensures.at_hand;
      added = none_added (above_of mid.sectors v c.args.level c.args.first c.args.end) (may_after c.requires.may c.in_ok-add_numbers.ensures.added.alters);
    }

pub loop-i-preserved : goal.loop-i-preserved
loop-i-preserved g t c =
    let x = c.loop-i.invariant in
    let far = has_above c.args.level c.args.end c.requires.level.0 c.requires.level.1 (omega (arith, c.if-end-le1.false)) c.requires.order.1 in
    let above = above_at c.args.level c.args.first c.args.end (ap (λ (m : ℕ). m / SECTOR_POINTERS) c.saturating_sub-from.ensures) (omega (arith, c.if-end-le1.false)) c.in_ok-add_numbers.ensures.added in
    record {
      from = omega (arith, x.from);
      most = omega (arith, c.loop-i-test.true);
      at_hand = c.in_ok-add_sector.ensures.at_hand;
      added = more_numbers c.requires.level.0 c.requires.order.0 (omega (arith, c.if-end-le1.false)) far.0 above x.added x.from c.loop-i-test.true c.in_ok-add_sector.ensures.added;
    }

pub add_sector-requires-clause-may : goal.add_sector-requires-clause-may
add_sector-requires-clause-may g t c = c.loop-i.invariant.added.may

pub add_sector-requires-clause-at_hand : goal.add_sector-requires-clause-at_hand
add_sector-requires-clause-at_hand g t c = c.loop-i.invariant.at_hand

pub add_sector-requires-clause-above : goal.add_sector-requires-clause-above
add_sector-requires-clause-above g t c = λ some.
    let x = c.loop-i.invariant in
    let far = has_above c.args.level c.args.end c.requires.level.0 c.requires.level.1 (omega (arith, c.if-end-le1.false)) c.requires.order.1 in
    let above = above_at c.args.level c.args.first c.args.end (ap (λ (m : ℕ). m / SECTOR_POINTERS) c.saturating_sub-from.ensures) (omega (arith, c.if-end-le1.false)) c.in_ok-add_numbers.ensures.added in
    stands c.requires.level.0 c.requires.order.0 (omega (arith, c.if-end-le1.false)) far.0 above x.added x.from c.loop-i-test.true some

pub add_sector-requires-clause-inside : goal.add_sector-requires-clause-inside
add_sector-requires-clause-inside g t c =
    let size = c.loop-i.invariant.added.size ∙ c.in_ok-add_numbers.ensures.added.size in
    let grows = first_block_grows c.args.level c.loop-i.i (c.args.end - 1) (omega (arith, c.loop-i-test.true)) in
    let inside = c.requires.inside in
    omega (arith, size, grows, inside)

pub add_sector-requires-clause-room : goal.add_sector-requires-clause-room
add_sector-requires-clause-room g t c =
    let x = c.loop-i.invariant in
    let far = has_above c.args.level c.args.end c.requires.level.0 c.requires.level.1 (omega (arith, c.if-end-le1.false)) c.requires.order.1 in
    let above = above_at c.args.level c.args.first c.args.end (ap (λ (m : ℕ). m / SECTOR_POINTERS) c.saturating_sub-from.ensures) (omega (arith, c.if-end-le1.false)) c.in_ok-add_numbers.ensures.added in
    room_for_number c.requires.level.0 c.requires.order.0 (omega (arith, c.if-end-le1.false)) far.0 above x.added x.from c.loop-i-test.true c.requires.room

pub returns-in_err-add_sector-clause-full : goal.returns-in_err-add_sector-clause-full
returns-in_err-add_sector-clause-full g t c = λ is.
    let x = c.loop-i.invariant in
    let far = has_above c.args.level c.args.end c.requires.level.0 c.requires.level.1 (omega (arith, c.if-end-le1.false)) c.requires.order.1 in
    let above = above_at c.args.level c.args.first c.args.end (ap (λ (m : ℕ). m / SECTOR_POINTERS) c.saturating_sub-from.ensures) (omega (arith, c.if-end-le1.false)) c.in_ok-add_numbers.ensures.added in
    let e = c.from_residual-in_err-add_sector.ensures in
    let f = c.in_err-add_sector.ensures.full (ap Err (same_fault c.from_residual-in_err-add_sector.result c.in_err-add_sector.field-0.0 Full e.0 e.1 is)) in
    number_lacks c.requires.level.0 c.requires.order.0 (omega (arith, c.if-end-le1.false)) far.0 above x.added x.from c.loop-i-test.true f.0 f.1

pub returns-in_err-add_sector-clause-store : goal.returns-in_err-add_sector-clause-store
returns-in_err-add_sector-clause-store g t c =
    store_joined (store_joined c.in_ok-add_numbers.ensures.store c.loop-i.invariant.added.puts.store) c.in_err-add_sector.ensures.store

pub returns-in_err-add_sector-clause-cause : goal.returns-in_err-add_sector-clause-cause
returns-in_err-add_sector-clause-cause g t c =
    cause_on (store_joined c.in_ok-add_numbers.ensures.store c.loop-i.invariant.added.puts.store) c.in_err-add_sector.ensures.cause
    c.from_residual-in_err-add_sector.result c.from_residual-in_err-add_sector.ensures

pub returns-clause-added : goal.returns-clause-added
returns-clause-added g t c =
    let x = c.loop-i.invariant in
    let far = has_above c.args.level c.args.end c.requires.level.0 c.requires.level.1 (omega (arith, c.if-end-le1.false)) c.requires.order.1 in
    let above = above_at c.args.level c.args.first c.args.end (ap (λ (m : ℕ). m / SECTOR_POINTERS) c.saturating_sub-from.ensures) (omega (arith, c.if-end-le1.false)) c.in_ok-add_numbers.ensures.added in
    let mid = g.S.Sectors.state c.add_numbers.new.s in
    let now = g.S.Sectors.state c.loop-i.s in
    let v = c.add_numbers.new.blocks.inode in
    let done : c.loop-i.i ≡ c.args.end = omega (arith, c.loop-i-test.false, x.most) in
    all_added c.requires.level.0 c.requires.order.0 (omega (arith, c.if-end-le1.false)) far.0 above
    (subst (λ (m : ℕ). IsAdded c.args.geometry (above_of mid.sectors v c.args.level c.args.first c.args.end) c.args.level c.args.first m mid now v c.loop-i.blocks.inode) done x.added)

pub returns-clause-at_hand : goal.returns-clause-at_hand
returns-clause-at_hand g t c = c.loop-i.invariant.at_hand

pub returns-clause-store : goal.returns-clause-store
returns-clause-store g t c = store_joined c.in_ok-add_numbers.ensures.store c.loop-i.invariant.added.puts.store

pub returns-clause-cause : goal.returns-clause-cause
returns-clause-cause g t c = no_fault_of (store_joined c.in_ok-add_numbers.ensures.store c.loop-i.invariant.added.puts.store)

use Rattle.std.proofs.Common.{◌≡◌, ℕ, ◌*◌, ◌+◌, ◌/◌, ◌≤◌, Result, Ok, Err, Some, length, arith, rules, sym, ap, subst, ◌∙◌}
use Rattle.std.specs.Prelude.{IsErr, IfOk}
use Rattle.std.specs.Int.{div_ceil}
use Rattle.fs_layout.specs.Version.{block_slots}
use Rattle.dir_core.specs.Slots.{IsFoundIn, IsFoundInBlock}
use Rattle.block_map.proofs.Numbers.{at_hand_unchanged}
use Rattle.bit_alloc.proofs.Transactions.{unchanged_nothing}
use Rattle.block_map.proofs.Runs.{unchanged_joined}
use Rattle.dir_core.proofs.Found.{absent_in_block, found_in_block}
use Rattle.dir_core.proofs.Pieces.{slots_are}
use Rattle.dir_core.proofs.SlotPlaces.{blocks_reach}
use Rattle.dir_core.proofs.Scans.{within_later, block_before}
use Rattle.bit_alloc.proofs.Passing.{fault_on, no_fault}
use Rattle.dir_core.proofs.names.find_by_blocks.Goals as goal

pub read_with-requires-clause-within : goal.read_with-requires-clause-within
read_with-requires-clause-within g c =
    within_later c.loop-k.invariant.same c.args.inode.now c.loop-k.blocks.inode c.loop-k.invariant.inode c.requires.within

pub loop-k-preserved : goal.loop-k-preserved
loop-k-preserved g c =
    let k = c.loop-k.k in
    let seen = c.in_ok-found.ensures.made in
    let block = seen.block in
    let here = block_before c.loop-k.invariant.same c.args.inode.now c.loop-k.blocks.inode k block c.loop-k.invariant.inode seen.bytes in
    let said : (length block ≡ 512) × IsFoundInBlock c.args.version block c.args.name.now c.in_ok-found.found = search rules in
    record {
      same = unchanged_joined {new = g.S.Sectors.state c.read_with.new.s} c.loop-k.invariant.same c.in_ok-found.ensures.same;
      inode = c.in_ok-found.ensures.inode ∙ c.loop-k.invariant.inode;
      pointers = at_hand_unchanged {mid = g.S.Sectors.state c.read_with.new.s} c.in_ok-found.ensures.same c.in_ok-found.ensures.at_hand;
      absent = λ slots h.
          absent_in_block h block c.args.name.now k said.0 here (subst (IsFoundInBlock c.args.version block c.args.name.now) c.in_default.is said.1) (c.loop-k.invariant.absent slots h);
    }

pub returns-in-Some-clause-same : goal.returns-in-Some-clause-same
returns-in-Some-clause-same g c = unchanged_joined c.loop-k.invariant.same c.in_ok-found.ensures.same

pub returns-in-Some-clause-found : goal.returns-in-Some-clause-found
returns-in-Some-clause-found g c = λ slots h.
    let k = c.loop-k.k in
    let seen = c.in_ok-found.ensures.made in
    let block = seen.block in
    let here = block_before c.loop-k.invariant.same c.args.inode.now c.loop-k.blocks.inode k block c.loop-k.invariant.inode seen.bytes in
    let said : (length block ≡ 512) × IsFoundInBlock c.args.version block c.args.name.now c.in_ok-found.found = search rules in
    let is =
    found_in_block h block c.args.name.now k c.in-Some.found said.0 c.requires.len.0 here (subst (IsFoundInBlock c.args.version block c.args.name.now) c.in-Some.is said.1) in
    subst (λ x. IsFoundIn slots c.args.name.now (Some x)) (sym c.behind.ensures)
    (subst (λ (b : ℕ). IsFoundIn slots c.args.name.now (Some (record { slot = b * k + c.in-Some.found.slot; ino = c.in-Some.found.ino })))
    (sym c.block_slots-block_slots.ensures) is)

pub returns-clause-found : goal.returns-clause-found
returns-clause-found g c = λ slots h n d lt.
    let count : c.args.inode.now.size / c.slot_size-slot_size.result ≡ length slots =
    ap (λ (w : ℕ). c.args.inode.now.size / w) c.slot_size-slot_size.ensures ∙ slots_are h in
    let ends : c.div_ceil-k-end.result ≡ div_ceil (length slots) (block_slots c.args.version) =
    c.div_ceil-k-end.ensures ∙ ap (λ (m : ℕ). div_ceil m c.block_slots-block_slots.result) count
    ∙ ap (λ (b : ℕ). div_ceil (length slots) b) c.block_slots-block_slots.ensures in
    let all = blocks_reach c.args.version c.loop-k.k (length slots) (subst (λ (m : ℕ). m ≤ c.loop-k.k) ends c.loop-k-test.false) in
    c.loop-k.invariant.absent slots h n d (omega (arith, lt, all)) lt

pub returns-in_err-found-clause-same : goal.returns-in_err-found-clause-same
returns-in_err-found-clause-same g c = unchanged_joined c.loop-k.invariant.same c.in_err-found.ensures.same

pub returns-in_err-found-clause-cause : goal.returns-in_err-found-clause-cause
returns-in_err-found-clause-cause g c = fault_on c.loop-k.invariant.same.store c.in_err-found.ensures.cause c.from_residual.result c.from_residual.ensures

pub returns-in-Some-clause-cause : goal.returns-in-Some-clause-cause
returns-in-Some-clause-cause g c = no_fault (unchanged_joined c.loop-k.invariant.same c.in_ok-found.ensures.same).store

pub returns-clause-same : goal.returns-clause-same
returns-clause-same g c = c.loop-k.invariant.same

pub returns-clause-cause : goal.returns-clause-cause
returns-clause-cause g c = no_fault c.loop-k.invariant.same.store

pub read_with-requires-clause-at_hand : goal.read_with-requires-clause-at_hand
read_with-requires-clause-at_hand g c = c.loop-k.invariant.pointers

pub loop-k-init : goal.loop-k-init
loop-k-init g c = record {
  same = unchanged_nothing;
  inode = c.new-blocks.ensures.inode;
  pointers = c.new-blocks.ensures.at_hand (g.S.Sectors.state c.args.s.now).sectors;
  absent = λ slots h i d low. absurd (omega (arith, low));
}

-- an error finds nothing
nothing_found : {A E : Type 0} (P : A → Type 0) (r : Result A E) → IsErr r → IfOk r P
nothing_found P (Ok x) err = absurd (cc)
nothing_found P (Err e) err = tt

pub returns-in_err-found-clause-found : goal.returns-in_err-found-clause-found
returns-in_err-found-clause-found g c = nothing_found _ c.from_residual.result c.from_residual.ensures.0

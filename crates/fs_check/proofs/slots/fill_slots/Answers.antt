use Rattle.std.proofs.Common.{arith, refl, rules, subst, ◌∙◌, sym, ap}
use Rattle.std.proofs.lemmas.Bool.{false≢true}
use Rattle.std.specs.Prelude.{◌≡◌, ◌≢◌, ◌<◌, ◌%◌, ℕ, Ok}
use Rattle.sector_disk.proofs.Moments.{reads_joined, reads_nothing}
use Rattle.fs_layout.specs.Directories.{slot_count, slot_at, slot_of, stored_slot}
use Rattle.fs_check.specs.Checks.{meaning}
use Rattle.fs_check.specs.Naming.{IsSlotIn, block_of_slot}
use Rattle.fs_check.specs.Owning.{AreAtHand}
use Rattle.fs_check.proofs.Carrying.{meaning_same, read_error, hand_still, opened_still}
use Rattle.fs_check.proofs.Tables.{more_there, more_good}
use Rattle.fs_check.proofs.DirectorySlots.{in_data_still, block_back, same_block}
use Rattle.fs_check.proofs.Endings.{if_ended}
use Rattle.fs_layout.specs.Bytes.{SectorMap}
use Rattle.fs_check.proofs.slots.fill_slots.Goals as goal

first_slot : (n : ℕ) (P : Type 0) → 0 % n ≢ 0 → P
first_slot n P inside = absurd (inside (search rules))

none_yet : (P : ℕ → Type 0) (j : ℕ) → j < 0 → P j
none_yet P j lt = absurd (omega (arith, lt))

pub loop-k-init : goal.loop-k-init
loop-k-init g c =
    let none = c.requires.none in
    record {
      reads = reads_nothing;
      at_hand = c.new-pointers.ensures (meaning (g.D.Disk.state c.args.disk.now));
      block = first_slot _ _;
      len = none;
      room = refl;
      valid = none_yet _;
      each = λ d. none_yet _;
    }

pub read_block_of-requires-clause-in_data : goal.read_block_of-requires-clause-in_data
read_block_of-requires-clause-in_data g c =
    in_data_still (g.D.Disk.state c.args.disk.now) (g.D.Disk.state c.loop-k.disk) c.loop-k.invariant.reads c.args.inode.now c.args.opened.now.geometry c.requires.in_data

pub returns-in_err-read_block_of-clause-passed : goal.returns-in_err-read_block_of-clause-passed
returns-in_err-read_block_of-clause-passed g c = read_error c.loop-k.invariant.reads c.from_residual.result c.from_residual.ensures.1 c.in_err-read_block_of.ensures.passed

pub returns-in_default-clause-test : goal.returns-in_default-clause-test
returns-in_default-clause-test g c =
    let s0 = g.D.Disk.state c.args.disk.now in
    let version = c.args.opened.now.geometry.version in
    let v = c.args.inode.now in
    let k = c.loop-k.k in
    let here = block_back s0 (g.D.Disk.state c.loop-k.disk) c.loop-k.invariant.reads v version k c.read_block_of.new.block c.in_ok-read_block_of.ensures.content in
    let below : k < slot_count version v = omega (arith, c.requires.count, c.loop-k-test.true) in
    let bad = subst (IsSlotIn version (meaning s0) v k) c.in_default.is (c.slot_in.ensures (meaning s0) v here) below in
    ((λ f. absurd (false≢true f)), (λ valid. absurd (bad valid)))

pub returns-in_default-clause-passed : goal.returns-in_default-clause-passed
returns-in_default-clause-passed g c = record { reads = reads_joined c.loop-k.invariant.reads c.in_ok-read_block_of.ensures.passed.reads; reason = tt }

pub loop-k-preserved : goal.loop-k-preserved
loop-k-preserved g c =
    let s0 = g.D.Disk.state c.args.disk.now in
    let m = meaning s0 in
    let version = c.args.opened.now.geometry.version in
    let v = c.args.inode.now in
    let k = c.loop-k.k in
    let block = c.read_block_of.new.block in
    let here = block_back s0 (g.D.Disk.state c.loop-k.disk) c.loop-k.invariant.reads v version k block c.in_ok-read_block_of.ensures.content in
    let good = subst (IsSlotIn version m v k) c.in-Some.is (c.slot_in.ensures m v here) in
    let len = c.loop-k.invariant.len in
    let more = c.push_reserved.ensures.len in
    record {
      reads = reads_joined c.loop-k.invariant.reads c.in_ok-read_block_of.ensures.passed.reads;
      at_hand = subst (λ q. AreAtHand q c.read_block_of.new.pointers) (meaning_same c.loop-k.invariant.reads) c.in_ok-read_block_of.ensures.at_hand;
      block = same_block version m v k block here;
      len = omega (arith, len, more);
      room = c.push_reserved.ensures.capacity ∙ c.loop-k.invariant.room;
      valid = more_good (λ j. slot_of version (stored_slot version m v j) ≡ Ok (slot_at version m v j)) k c.loop-k.invariant.valid good.0;
      each = λ d. more_there c.loop-k.slots.items c.push_reserved.new.self.items c.in-Some.slot d (slot_at version m v) k c.push_reserved.ensures.items len
          (c.loop-k.invariant.each d) good.1;
    }

pub returns-clause-test : goal.returns-clause-test
returns-clause-test g c = (
  (λ t k lt. c.loop-k.invariant.valid k (omega (arith, lt, c.requires.count, c.loop-k-test.false))),
  (λ valid. refl),
)

pub returns-clause-slots : goal.returns-clause-slots
returns-clause-slots g c = λ t.
    let past = c.loop-k-test.false in
    let end = c.loop-k.auto.k-end in
    let len = c.loop-k.invariant.len in
    record {
      valid = λ k lt. c.loop-k.invariant.valid k (omega (arith, lt, c.requires.count, past));
      len = omega (arith, len, c.requires.count, past, end);
      each = λ k d lt. c.loop-k.invariant.each d k (omega (arith, lt, c.requires.count, past));
    }

pub returns-clause-passed : goal.returns-clause-passed
returns-clause-passed g c = record { reads = c.loop-k.invariant.reads; reason = tt }

pub returns-in_err-read_block_of-clause-test : goal.returns-in_err-read_block_of-clause-test
returns-in_err-read_block_of-clause-test g c = if_ended _ _ c.from_residual.result c.from_residual.ensures.1

pub returns-in_err-read_block_of-clause-slots : goal.returns-in_err-read_block_of-clause-slots
returns-in_err-read_block_of-clause-slots g c = if_ended _ _ c.from_residual.result c.from_residual.ensures.1

pub read_block_of-requires-clause-opened : goal.read_block_of-requires-clause-opened
read_block_of-requires-clause-opened g c = opened_still c.loop-k.invariant.reads c.requires.opened

pub read_block_of-requires-clause-at_hand : goal.read_block_of-requires-clause-at_hand
read_block_of-requires-clause-at_hand g c =
    hand_still c.loop-k.invariant.reads c.loop-k.pointers c.loop-k.invariant.at_hand

pub read_block_of-requires-clause-before : goal.read_block_of-requires-clause-before
read_block_of-requires-clause-before g c = λ inside.
    c.loop-k.invariant.block inside
    ∙ sym (ap
    (λ (m : SectorMap). block_of_slot c.args.opened.now.geometry.version m c.args.inode.now c.loop-k.k)
    (meaning_same c.loop-k.invariant.reads))

pub returns-in_default-clause-slots : goal.returns-in_default-clause-slots
returns-in_default-clause-slots g c = λ f. absurd (false≢true f)

use Rattle.std.proofs.Common.{◌≡◌, ℕ, List, ◌+◌, ◌*◌, ◌/◌, ◌%◌, ◌<◌, [], ◌∷◌, ◌++◌, length, get_or, take, refl, ap, sym, subst, ◌∙◌, arith, rules, inl}
use Rattle.std.proofs.lemmas.List.{take_all, take_more}
use Rattle.fs_layout.specs.declared.version.Version.{Version}
use Rattle.fs_layout.specs.Version.{slot_size, block_slots}
use Rattle.fs_layout.specs.Directories.{NamedInode}
use Rattle.fs_layout.proofs.Codecs.{same_ok}
use Rattle.block_map.proofs.Numbers.{at_hand_unchanged}
use Rattle.block_map.proofs.Runs.{unchanged_joined}
use Rattle.dir_core.specs.Slots.{IsSlotAt}
use Rattle.dir_core.proofs.SlotPlaces.{first_of_block, place_within, slot_ends_within}
use Rattle.dir_core.proofs.Pieces.{slot_there, slots_are}
use Rattle.dir_core.proofs.Scans.{within_later, block_later, block_before, block_stays}
use Rattle.bit_alloc.proofs.Passing.{through_try, other_fault_on, no_fault_of, not_of_disk}
use Rattle.dir_core.proofs.names.read_slots.Goals as goal

pub read_block_of-requires-clause-within : goal.read_block_of-requires-clause-within
read_block_of-requires-clause-within g c =
    within_later c.loop-k.invariant.same c.args.inode.now c.loop-k.blocks.inode c.loop-k.invariant.inode c.requires.within

-- the slot stands where it is read
at_place : (version : Version) (block : List ℕ) (x : NamedInode) (k size slots : ℕ) → size ≡ slot_size version → slots ≡ block_slots version
    → IsSlotAt version block (slot_size version * (k % block_slots version)) x → IsSlotAt version block (size * (k % slots)) x
at_place version block x k size slots e f there =
    let at : slot_size version * (k % block_slots version) ≡ size * (k % slots) =
    ap (λ (w : ℕ). w * (k % block_slots version)) (sym e) ∙ ap (λ (b : ℕ). size * (k % b)) (sym f) in
    subst (λ (a : ℕ). IsSlotAt version block a x) at there

pub loop-k-init : goal.loop-k-init
loop-k-init g c = record {
  same = search rules;
  inode = c.new-blocks.ensures.inode;
  pointers = c.new-blocks.ensures.at_hand (g.S.Sectors.state c.args.s.now).sectors;
  block = λ inside. absurd (inside (first_of_block c.args.version));
  read = λ slots h. search rules;
}

pub read_block_of-requires-clause-at_hand : goal.read_block_of-requires-clause-at_hand
read_block_of-requires-clause-at_hand g c = λ inside.
    block_later c.loop-k.invariant.same c.args.inode.now c.loop-k.blocks.inode (c.loop-k.k / block_slots c.args.version) c.loop-k.block c.loop-k.invariant.inode
    (c.loop-k.invariant.block inside)

pub returns-in_default-push-clause-same : goal.returns-in_default-push-clause-same
returns-in_default-push-clause-same g c = unchanged_joined c.loop-k.invariant.same c.in_ok-read_block_of.ensures.same

pub unreachable-requires : goal.unreachable-requires
unreachable-requires g c =
    let slots = c.requires.directory.0 in
    let h = c.requires.directory.1 in
    let k = c.loop-k.k in
    let block = c.read_block_of.new.block in
    let none : NamedInode = record { ino = 0; name = [] } in
    let here = block_before c.loop-k.invariant.same c.args.inode.now c.loop-k.blocks.inode (k / block_slots c.args.version) block
    c.loop-k.invariant.inode c.in_ok-read_block_of.ensures.block in
    let count = ap (λ (w : ℕ). c.args.inode.now.size / w) c.slot_size-slot_size.ensures ∙ slots_are h in
    let there = at_place c.args.version block (get_or slots k none) k c.slot_size-slot_size.result c.block_slots-block_slots.result
    c.slot_size-slot_size.ensures c.block_slots-block_slots.ensures (slot_there h block k none (omega arith) here (omega (arith, c.loop-k-test.true, count))) in
    c.in_default-read_in.not-Ok (get_or slots k none) (c.read_in.ensures.only (get_or slots k none) there.0 there.1)

one_more : (slots items pushed : List NamedInode) (k : ℕ) (slot : NamedInode) → items ≡ take k slots → pushed ≡ items ++ slot ∷ [] → slot ≡ get_or slots k slot
    → k < length slots → pushed ≡ take (k + 1) slots
one_more slots items pushed k slot so_far push is lt =
    push ∙ ap (λ l. l ++ slot ∷ []) so_far ∙ ap (λ (x : NamedInode). take k slots ++ x ∷ []) is ∙ sym (take_more slots k slot lt)

pub loop-k-preserved : goal.loop-k-preserved
loop-k-preserved g c =
    let old = g.S.Sectors.state c.args.s.now in
    let k = c.loop-k.k in
    let block = c.read_block_of.new.block in
    let slot : NamedInode = c.in-Ok-read_in.slot in
    let here = block_before c.loop-k.invariant.same c.args.inode.now c.loop-k.blocks.inode (k / block_slots c.args.version) block
    c.loop-k.invariant.inode c.in_ok-read_block_of.ensures.block in
    record {
      same = unchanged_joined c.loop-k.invariant.same c.in_ok-read_block_of.ensures.same;
      inode = c.in_ok-read_block_of.ensures.inode ∙ c.loop-k.invariant.inode;
      pointers = at_hand_unchanged c.in_ok-read_block_of.ensures.same c.in_ok-read_block_of.ensures.pointers;
      block = block_stays c.args.version old.sectors c.args.inode.now k block here;
      read = λ slots h.
          let count = ap (λ (w : ℕ). c.args.inode.now.size / w) c.slot_size-slot_size.ensures ∙ slots_are h in
          let lt : k < length slots = omega (arith, c.loop-k-test.true, count) in
          let there = at_place c.args.version block (get_or slots k slot) k c.slot_size-slot_size.result c.block_slots-block_slots.result
          c.slot_size-slot_size.ensures c.block_slots-block_slots.ensures (slot_there h block k slot (omega arith) here lt) in
          let is : slot ≡ get_or slots k slot =
          same_ok slot (get_or slots k slot) c.read_in.result c.in-Ok-read_in.is (c.read_in.ensures.only (get_or slots k slot) there.0 there.1) in
          one_more slots c.loop-k.slots.items c.push.new.self.items k slot (c.loop-k.invariant.read slots h) c.in-Ok-push.ensures.items is lt;
    }

pub returns-clause-found : goal.returns-clause-found
returns-clause-found g c = λ slots h.
    let count = ap (λ (w : ℕ). c.args.inode.now.size / w) c.slot_size-slot_size.ensures ∙ slots_are h in
    c.loop-k.invariant.read slots h ∙ take_all c.loop-k.k slots (omega (arith, c.loop-k-test.false, count))

pub returns-in_err-read_block_of-clause-same : goal.returns-in_err-read_block_of-clause-same
returns-in_err-read_block_of-clause-same g c = unchanged_joined c.loop-k.invariant.same c.in_err-read_block_of.ensures.same

pub returns-in_err-read_block_of-clause-faults : goal.returns-in_err-read_block_of-clause-faults
returns-in_err-read_block_of-clause-faults g c = through_try _ c.from_residual.result _ c.from_residual.ensures (inl refl)

pub returns-in_err-read_block_of-clause-cause : goal.returns-in_err-read_block_of-clause-cause
returns-in_err-read_block_of-clause-cause g c = other_fault_on c.loop-k.invariant.same.store c.in_err-read_block_of.ensures.cause c.from_residual.result c.from_residual.ensures.0

pub returns-in_default-push-clause-cause : goal.returns-in_default-push-clause-cause
returns-in_default-push-clause-cause g c = not_of_disk (unchanged_joined c.loop-k.invariant.same c.in_ok-read_block_of.ensures.same).store (λ e. cc)

pub returns-clause-same : goal.returns-clause-same
returns-clause-same g c = c.loop-k.invariant.same

pub returns-clause-cause : goal.returns-clause-cause
returns-clause-cause g c = no_fault_of c.loop-k.invariant.same.store

pub overflow_mul-at : goal.overflow_mul-at
overflow_mul-at g c =
    let inside = slot_ends_within c.args.version (c.loop-k.k % block_slots c.args.version) (place_within c.args.version c.loop-k.k) in
    rw (c.slot_size-slot_size.ensures, c.block_slots-block_slots.ensures) (omega (arith, inside))

pub read_in-requires : goal.read_in-requires
read_in-requires g c =
    rw (c.slot_size-slot_size.ensures, c.block_slots-block_slots.ensures)
    (slot_ends_within c.args.version (c.loop-k.k % block_slots c.args.version) (place_within c.args.version c.loop-k.k))

pub read_block_of-requires-clause-pointers : goal.read_block_of-requires-clause-pointers
read_block_of-requires-clause-pointers g c = c.loop-k.invariant.pointers

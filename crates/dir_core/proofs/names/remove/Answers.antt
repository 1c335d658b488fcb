use Rattle.std.proofs.Common.{◌≡◌, ◌-◌, ◌*◌, ℕ, List, length, get_or, set, Some, Err, refl, ap, subst, ◌∙◌, arith}
use Rattle.fs_layout.specs.Version.{slot_size}
use Rattle.fs_layout.specs.Images.{Holds}
use Rattle.fs_layout.specs.Bytes.{resized}
use Rattle.fs_layout.specs.Directories.{NamedInode, HasNames, slots_bytes}
use Rattle.fs_layout.proofs.SlotSizes.{directory_most}
use Rattle.sector_txn.proofs.TransactionRuns.{store_joined}
use Rattle.bit_alloc.proofs.Soundness.{spare_then}
use Rattle.bit_alloc.proofs.Transactions.{spare_unchanged}
use Rattle.block_map.proofs.Wrote.{put_to_fewer}
use Rattle.block_map.proofs.Joins.{sound_after_reads, content_after_reads, content_joined, content_at_most}
use Rattle.dir_core.specs.Faults.{WhyNotChanged}
use Rattle.dir_core.proofs.Changing.{allows, slots_there, slots_after_reads, directory_within, directory_limit, slot_inside, found_there, said_by_slots, passed_on, added, names_without, map_cause_on}
use Rattle.dir_core.proofs.SlotPlaces.{one_less, slots_even}
use Rattle.dir_core.proofs.Taking.{size_of_slots}
use Rattle.fs_layout.proofs.Versions.{file_bounds}
use Rattle.bit_alloc.proofs.Passing.{other_fault_on, no_fault_of}
use Rattle.dir_core.proofs.names.remove.Goals as goal

pub named_slot-requires-clause-within : goal.named_slot-requires-clause-within
named_slot-requires-clause-within g c = directory_within c.requires.sound c.requires.below c.requires.inode c.requires.directory.1.kind

pub move_last-requires-clause-sound : goal.move_last-requires-clause-sound
move_last-requires-clause-sound g c = sound_after_reads c.requires.sound c.in_ok-found.ensures.same

pub overflow_sub-size : goal.overflow_sub-size
overflow_sub-size g c =
    let h = c.requires.directory.1 in
    let lt = (c.in_ok-found.ensures.found h.slots (slots_there h)).0 in
    let inside = slot_inside (slots_there h) c.in_ok-found.found.slot lt refl in
    let is = c.slot_size.ensures in
    omega (arith, inside, is)

pub set_size-requires-clause-kind : goal.set_size-requires-clause-kind
set_size-requires-clause-kind g c =
    let version = c.args.geometry.version in
    let v = c.args.inode.now in
    let h = c.requires.directory.1 in
    let there = slots_there h in
    let limit = directory_limit there in
    let most = directory_most version in
    let cut : v.size - c.slot_size.result ≡ slot_size version * (length h.slots - 1) =
    ap (λ (w : ℕ). v.size - w) c.slot_size.ensures ∙ ap (λ (k : ℕ). k - slot_size version) (size_of_slots there) ∙ one_less version (length h.slots) in
    allows v.kind (v.size - c.slot_size.result) h.kind (omega (arith, limit, most)) (slots_even version (length h.slots - 1) (v.size - c.slot_size.result) cut)

pub set_size-requires-clause-spare : goal.set_size-requires-clause-spare
set_size-requires-clause-spare g c =
    let limit = directory_limit (slots_there c.requires.directory.1) in
    let most = directory_most c.args.geometry.version in
    let few = put_to_fewer (c.args.inode.now.size - c.slot_size.result) (omega (arith, limit, most)) in
    let spare =
    spare_then c.args.geometry 1 4 (g.S.Sectors.state c.named_slot.new.s) (g.S.Sectors.state c.move_last.new.s)
    (spare_unchanged c.args.geometry 5 _ _ c.requires.spare c.in_ok-found.ensures.same) c.in_ok-move_last.ensures.change.touches.puts in
    omega (arith, few, spare)

pub returns-in_err-set_size-clause-why : goal.returns-in_err-set_size-clause-why
returns-in_err-set_size-clause-why g c =
    let old = g.S.Sectors.state c.args.s.now in
    let version = c.args.geometry.version in
    let v = c.args.inode.now in
    let e = c.from_residual-in_err-set_size.ensures in
    let r = c.in_err-set_size.ensures in
    let limit = directory_limit (slots_there c.requires.directory.1) in
    passed_on (λ f. (names : List (List ℕ × ℕ)) → HasNames version old.sectors v names → WhyNotChanged names c.args.name.now f)
    c.from_residual-in_err-set_size.result c.in_err-set_size.field-0.0 e.0 e.1 (λ full. absurd (r.never_full (ap Err full)))
    (λ big. let past = r.too_big.0 (ap Err big) in let most = (file_bounds version).0 in absurd (omega (arith, past, limit, most))) (λ names h. tt)

pub returns-in_err-set_size-clause-store : goal.returns-in_err-set_size-clause-store
returns-in_err-set_size-clause-store g c = store_joined (store_joined c.in_ok-found.ensures.same.store c.in_ok-move_last.ensures.store) c.in_err-set_size.ensures.store

pub returns-clause-change : goal.returns-clause-change
returns-clause-change g c =
    let limit = directory_limit (slots_there c.requires.directory.1) in
    let most = directory_most c.args.geometry.version in
    content_joined (content_after_reads c.in_ok-found.ensures.same c.in_ok-move_last.ensures.change)
    (content_at_most (put_to_fewer (c.args.inode.now.size - c.slot_size.result) (omega (arith, limit, most))) c.in_ok-set_size.ensures.change)

pub returns-clause-names : goal.returns-clause-names
returns-clause-names g c = λ names h.
    let version = c.args.geometry.version in
    let name = c.args.name.now in
    let found = c.in_ok-found.found in
    let x : NamedInode = added name found.ino in
    let v = c.args.inode.now in
    let at = c.in_ok-found.ensures.found h.slots (slots_there h) in
    let mid = slots_after_reads c.in_ok-found.ensures.same (slots_there h) in
    let moved = c.in_ok-move_last.ensures.moved h.slots x mid in
    let last : List ℕ = slots_bytes version (set h.slots found.slot (get_or h.slots (length h.slots - 1) x)) in
    let r = c.in_ok-set_size.ensures in
    let cut : Holds (g.S.Sectors.state c.set_size.new.s).sectors c.set_size.new.inode (resized last (v.size - slot_size version)) =
    subst (λ (w : ℕ). Holds (g.S.Sectors.state c.set_size.new.s).sectors c.set_size.new.inode (resized last (v.size - w))) c.slot_size.ensures (r.held last moved) in (
      λ none. found_there h.slots name h.apart (Some found) at refl (said_by_slots name h none),
      names_without h found.slot x at.0 (at.1 x) r.change.fields.kind cut (r.whole c.in_ok-move_last.ensures.whole (omega arith)),
    )

pub returns-clause-store : goal.returns-clause-store
returns-clause-store g c = store_joined (store_joined c.in_ok-found.ensures.same.store c.in_ok-move_last.ensures.store) c.in_ok-set_size.ensures.store

pub returns-in_err-move_last-clause-store : goal.returns-in_err-move_last-clause-store
returns-in_err-move_last-clause-store g c = store_joined c.in_ok-found.ensures.same.store c.in_err-move_last.ensures.store

pub returns-in_err-move_last-clause-cause : goal.returns-in_err-move_last-clause-cause
returns-in_err-move_last-clause-cause g c = other_fault_on c.in_ok-found.ensures.same.store c.in_err-move_last.ensures.cause c.from_residual-in_err-move_last.result c.from_residual-in_err-move_last.ensures.0

pub returns-in_err-set_size-clause-cause : goal.returns-in_err-set_size-clause-cause
returns-in_err-set_size-clause-cause g c = map_cause_on (store_joined c.in_ok-found.ensures.same.store c.in_ok-move_last.ensures.store) c.in_err-set_size.ensures.cause c.from_residual-in_err-set_size.result c.from_residual-in_err-set_size.ensures

pub returns-clause-cause : goal.returns-clause-cause
returns-clause-cause g c = no_fault_of (returns-clause-store g c)

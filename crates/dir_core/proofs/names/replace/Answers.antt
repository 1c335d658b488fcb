use Rattle.std.proofs.Common.{Some, refl}
use Rattle.fs_layout.specs.Directories.{NamedInode}
use Rattle.sector_txn.proofs.TransactionRuns.{store_joined}
use Rattle.block_map.proofs.Joins.{sound_after_reads, content_after_reads}
use Rattle.dir_core.proofs.Changing.{slots_there, slots_after_reads, directory_within, found_there, found_name, said_by_slots, added, apart_led, names_led}
use Rattle.bit_alloc.proofs.Passing.{other_fault_on, no_fault_of}
use Rattle.dir_core.proofs.names.replace.Goals as goal

pub named_slot-requires-clause-within : goal.named_slot-requires-clause-within
named_slot-requires-clause-within g c = directory_within c.requires.sound c.requires.below c.requires.inode c.requires.directory.1.kind

pub set_slot-requires-clause-sound : goal.set_slot-requires-clause-sound
set_slot-requires-clause-sound g c = sound_after_reads c.requires.sound c.in_ok-found.ensures.same

pub set_slot-requires-clause-name : goal.set_slot-requires-clause-name
set_slot-requires-clause-name g c =
    let h = c.requires.directory.1 in
    (found_name h.slots c.args.name.now c.in_ok-found.found h.each (c.in_ok-found.ensures.found h.slots (slots_there h))).0

pub set_slot-requires-clause-short : goal.set_slot-requires-clause-short
set_slot-requires-clause-short g c =
    let h = c.requires.directory.1 in
    (found_name h.slots c.args.name.now c.in_ok-found.found h.each (c.in_ok-found.ensures.found h.slots (slots_there h))).1

pub returns-clause-change : goal.returns-clause-change
returns-clause-change g c = content_after_reads c.in_ok-found.ensures.same c.in_ok-set_slot.ensures.change

pub returns-clause-names : goal.returns-clause-names
returns-clause-names g c = λ names h.
    let name = c.args.name.now in
    let found = c.in_ok-found.found in
    let x : NamedInode = added name found.ino in
    let y : NamedInode = added name c.args.to in
    let at = c.in_ok-found.ensures.found h.slots (slots_there h) in
    let mid = slots_after_reads c.in_ok-found.ensures.same (slots_there h) in (
      λ none. found_there h.slots name h.apart (Some found) at refl (said_by_slots name h none),
      names_led h found.slot x y at.0 (at.1 x) refl (c.in_ok-set_slot.ensures.slots h.slots mid (apart_led h found.slot x y at.0 (at.1 x) refl)),
    )

pub returns-clause-store : goal.returns-clause-store
returns-clause-store g c = store_joined c.in_ok-found.ensures.same.store c.in_ok-set_slot.ensures.store

pub returns-in_err-set_slot-clause-store : goal.returns-in_err-set_slot-clause-store
returns-in_err-set_slot-clause-store g c = store_joined c.in_ok-found.ensures.same.store c.in_err-set_slot.ensures.store

pub returns-in_err-set_slot-clause-cause : goal.returns-in_err-set_slot-clause-cause
returns-in_err-set_slot-clause-cause g c = other_fault_on c.in_ok-found.ensures.same.store c.in_err-set_slot.ensures.cause c.from_residual-in_err-set_slot.result c.from_residual-in_err-set_slot.ensures.0

pub returns-clause-cause : goal.returns-clause-cause
returns-clause-cause g c = no_fault_of (returns-clause-store g c)

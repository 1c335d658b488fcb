use Rattle.std.proofs.Common.{◌≡◌, ℕ, List, None, Some, refl, ap, subst, ◌∙◌}
use Rattle.fs_layout.specs.Maps.{name_cmp, get, with_entry, without}
use Rattle.fs_layout.specs.Directories.{NamedInode, HasNames}
use Rattle.fs_layout.proofs.OneSlots.{names_same}
use Rattle.sector_txn.proofs.TransactionRuns.{store_joined}
use Rattle.block_map.proofs.Joins.{sound_after_reads, content_after_reads}
use Rattle.dir_core.proofs.Changing.{slots_there, slots_after_reads, directory_within, found_there, said_by_slots, added, leads_to_found, apart_renamed, names_renamed}
use Rattle.bit_alloc.proofs.Passing.{other_fault_on, no_fault_of}
use Rattle.dir_core.proofs.names.rename.Goals as goal

pub named_slot-requires-clause-within : goal.named_slot-requires-clause-within
named_slot-requires-clause-within g c = directory_within c.requires.sound c.requires.below c.requires.inode c.requires.directory.1.kind

pub set_slot-requires-clause-sound : goal.set_slot-requires-clause-sound
set_slot-requires-clause-sound g c = sound_after_reads c.requires.sound c.in_ok-found.ensures.same

pub returns-clause-change : goal.returns-clause-change
returns-clause-change g c = content_after_reads c.in_ok-found.ensures.same c.in_ok-set_slot.ensures.change

pub returns-clause-there : goal.returns-clause-there
returns-clause-there g c = λ names h none.
    found_there h.slots c.args.name.now h.apart (Some c.in_ok-found.found) (c.in_ok-found.ensures.found h.slots (slots_there h)) refl
    (said_by_slots c.args.name.now h none)

pub returns-clause-names : goal.returns-clause-names
returns-clause-names g c = λ names to h leads.
    let old = (g.S.Sectors.state c.args.s.now).sectors in
    let new = (g.S.Sectors.state c.set_slot.new.s).sectors in
    let v = c.args.inode.now in
    let name = c.args.name.now in
    let new_name = c.args.new_name.now in
    let found = c.in_ok-found.found in
    let x : NamedInode = added name found.ino in
    let y : NamedInode = added new_name found.ino in
    let at = c.in_ok-found.ensures.found h.slots (slots_there h) in
    let mid = slots_after_reads c.in_ok-found.ensures.same (slots_there h) in
    let none : get name_cmp names new_name ≡ None =
    ap (λ (m : List (List ℕ × ℕ)). get name_cmp m new_name) (names_same c.args.geometry.version old v names c.requires.directory.0 h c.requires.directory.1) ∙ c.requires.directory.2 in
    let same : found.ino ≡ to = leads_to_found h name found at leads in
    subst (λ (k : ℕ). HasNames c.args.geometry.version new v (with_entry name_cmp (without name_cmp names name) new_name k)) same
    (names_renamed h found.slot x y at.0 (at.1 x) none (c.in_ok-set_slot.ensures.slots h.slots mid (apart_renamed h found.slot x y at.0 (at.1 x) none)))

pub returns-clause-store : goal.returns-clause-store
returns-clause-store g c = store_joined c.in_ok-found.ensures.same.store c.in_ok-set_slot.ensures.store

pub returns-in_err-set_slot-clause-store : goal.returns-in_err-set_slot-clause-store
returns-in_err-set_slot-clause-store g c = store_joined c.in_ok-found.ensures.same.store c.in_err-set_slot.ensures.store

pub returns-in_err-set_slot-clause-cause : goal.returns-in_err-set_slot-clause-cause
returns-in_err-set_slot-clause-cause g c = other_fault_on c.in_ok-found.ensures.same.store c.in_err-set_slot.ensures.cause c.from_residual-in_err-set_slot.result c.from_residual-in_err-set_slot.ensures.0

pub returns-clause-cause : goal.returns-clause-cause
returns-clause-cause g c = no_fault_of (returns-clause-store g c)

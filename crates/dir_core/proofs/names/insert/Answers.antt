use Rattle.std.proofs.Common.{ℕ, List, Result, sym, subst, ◌∙◌}
use Rattle.std.specs.Prelude.{IfErr}
use Rattle.std.proofs.lemmas.Result.{err_from_is_err_and}
use Rattle.dir_core.specs.declared.fault.DirFault.{DirFault}
use Rattle.fs_layout.specs.Bytes.{SectorMap}
use Rattle.fs_layout.specs.Directories.{HasNames}
use Rattle.sector_txn.proofs.TransactionRuns.{store_joined}
use Rattle.bit_alloc.proofs.Transactions.{map_unchanged}
use Rattle.block_map.proofs.Joins.{sound_after_reads, content_after_reads}
use Rattle.dir_core.specs.Faults.{WhyNotAdded}
use Rattle.dir_core.proofs.Changing.{slots_there, directory_within, found_there, not_there, said_by_names, said_by_slots}
use Rattle.bit_alloc.proofs.Passing.{cause_on, not_of_disk, no_fault_of}
use Rattle.dir_core.proofs.names.insert.Goals as goal

pub find_slot-requires-clause-within : goal.find_slot-requires-clause-within
find_slot-requires-clause-within g c = directory_within c.requires.sound c.requires.below c.requires.inode c.requires.directory.1.kind

pub returns-then-is_some-clause-why : goal.returns-then-is_some-clause-why
returns-then-is_some-clause-why g c = λ names h none.
    found_there h.slots c.args.name.now h.apart c.in_ok-find_slot.field-0 (c.in_ok-find_slot.ensures.found h.slots (slots_there h)) (sym c.is_some.ensures ∙ c.if-is_some.true)
    (said_by_slots c.args.name.now h none)

pub insert_new-requires-clause-sound : goal.insert_new-requires-clause-sound
insert_new-requires-clause-sound g c = sound_after_reads c.requires.sound c.in_ok-find_slot.ensures.same

pub insert_new-requires-clause-directory : goal.insert_new-requires-clause-directory
insert_new-requires-clause-directory g c =
    let h = c.requires.directory.1 in
    let mid = (g.S.Sectors.state c.find_slot.new.s).sectors in
    let none = not_there h.slots c.args.name.now h.apart c.in_ok-find_slot.field-0 (c.in_ok-find_slot.ensures.found h.slots (slots_there h)) (sym c.is_some.ensures ∙ c.if-is_some.false) in (
      c.requires.directory.0,
      subst (λ (image : SectorMap). HasNames c.args.geometry.version image c.args.inode.now c.requires.directory.0) (map_unchanged c.in_ok-find_slot.ensures.same) h,
      said_by_names c.args.name.now h none,
    )

pub returns-in_err-insert_new-clause-why : goal.returns-in_err-insert_new-clause-why
returns-in_err-insert_new-clause-why g c =
    let name = c.args.name.now in
    let v = c.args.inode.now in
    let r = c.from_residual-in_err-insert_new.result in
    let exit = err_from_is_err_and r c.from_residual-in_err-insert_new.ensures.1 in
    let Why : SectorMap → DirFault → Type 0 = λ image e. (names : List (List ℕ × ℕ)) → HasNames c.args.geometry.version image v names → WhyNotAdded c.args.geometry image v names name e in
    let mid = (g.S.Sectors.state c.find_slot.new.s).sectors in
    let why : IfErr r (Why mid) = subst (λ (result : Result (Unit {0}) DirFault). IfErr result (Why mid)) (sym exit.1) (subst (Why mid) (sym exit.2) c.in_err-insert_new.ensures.why) in
    subst (λ (image : SectorMap). IfErr r (Why image)) (sym (map_unchanged c.in_ok-find_slot.ensures.same)) why

pub returns-clause-change : goal.returns-clause-change
returns-clause-change g c = content_after_reads c.in_ok-find_slot.ensures.same c.in_ok-insert_new.ensures.change

pub returns-clause-names : goal.returns-clause-names
returns-clause-names g c = λ names h.
    let none = not_there h.slots c.args.name.now h.apart c.in_ok-find_slot.field-0 (c.in_ok-find_slot.ensures.found h.slots (slots_there h)) (sym c.is_some.ensures ∙ c.if-is_some.false) in
    let now = subst (λ (image : SectorMap). HasNames c.args.geometry.version image c.args.inode.now names) (map_unchanged c.in_ok-find_slot.ensures.same) h in
    let r = c.in_ok-insert_new.ensures.names names now in
    (said_by_names c.args.name.now h none, r.0, r.1)

pub returns-clause-store : goal.returns-clause-store
returns-clause-store g c = store_joined c.in_ok-find_slot.ensures.same.store c.in_ok-insert_new.ensures.store

pub returns-then-is_some-clause-cause : goal.returns-then-is_some-clause-cause
returns-then-is_some-clause-cause g c = not_of_disk c.in_ok-find_slot.ensures.same.store (λ e. cc)

pub returns-in_err-insert_new-clause-store : goal.returns-in_err-insert_new-clause-store
returns-in_err-insert_new-clause-store g c = store_joined c.in_ok-find_slot.ensures.same.store c.in_err-insert_new.ensures.store

pub returns-in_err-insert_new-clause-cause : goal.returns-in_err-insert_new-clause-cause
returns-in_err-insert_new-clause-cause g c =
    cause_on c.in_ok-find_slot.ensures.same.store c.in_err-insert_new.ensures.cause c.from_residual-in_err-insert_new.result c.from_residual-in_err-insert_new.ensures

pub returns-clause-cause : goal.returns-clause-cause
returns-clause-cause g c = no_fault_of (returns-clause-store g c)

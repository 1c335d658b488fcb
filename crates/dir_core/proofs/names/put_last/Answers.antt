use Rattle.std.proofs.Common.{◌≡◌, ℕ, ◌<◌, ◌-◌, ◌*◌, length, refl, sym, ap, ◌∙◌, arith}
use Rattle.fs_layout.specs.Version.{slot_size}
use Rattle.fs_layout.specs.Bytes.{SectorMap}
use Rattle.fs_layout.specs.Images.{inode_at}
use Rattle.fs_layout.specs.Directories.{slots_bytes}
use Rattle.sector_txn.proofs.TransactionRuns.{store_joined}
use Rattle.bit_alloc.proofs.Transactions.{map_unchanged, spare_unchanged}
use Rattle.block_map.proofs.Joins.{sound_after_reads, content_after_reads}
use Rattle.dir_core.proofs.Changing.{slots_after_reads, directory_within, slot_below, slot_inside, slot_has_block, slot_placed, slot_written, last_read}
use Rattle.dir_core.proofs.SlotPlaces.{as_many}
use Rattle.dir_core.proofs.Taking.{size_of_slots}
use Rattle.bit_alloc.proofs.Passing.{fault_on, no_fault}
use Rattle.dir_core.proofs.names.put_last.Goals as goal

pub overflow_mul-at : goal.overflow_mul-at
overflow_mul-at g c = omega (arith, slot_below c.requires.directory.1 c.args.slot c.requires.directory.2 c.requires.room)

pub overflow_sub-last : goal.overflow_sub-last
overflow_sub-last g c =
    let inside = slot_inside c.requires.directory.1 c.args.slot c.requires.directory.2 {at = c.args.slot * slot_size c.args.geometry.version} refl in
    let is = c.requires.room in
    omega (arith, inside, is)

pub read_at-requires : goal.read_at-requires
read_at-requires g c = record { within = directory_within c.requires.sound c.requires.below c.requires.inode c.requires.directory.1.kind }

pub overwrite-requires-clause-sound : goal.overwrite-requires-clause-sound
overwrite-requires-clause-sound g c = sound_after_reads c.requires.sound c.in_ok-read_at.ensures.same

pub overwrite-requires-clause-inode : goal.overwrite-requires-clause-inode
overwrite-requires-clause-inode g c =
    c.requires.inode ∙ ap (λ (image : SectorMap). inode_at c.args.geometry image c.args.ino) (map_unchanged c.in_ok-read_at.ensures.same)

pub overwrite-requires-clause-spare : goal.overwrite-requires-clause-spare
overwrite-requires-clause-spare g c = spare_unchanged c.args.geometry 1 _ _ c.requires.spare c.in_ok-read_at.ensures.same

pub overwrite-requires-clause-inside : goal.overwrite-requires-clause-inside
overwrite-requires-clause-inside g c =
    (slot_placed c.requires.directory.1 c.args.slot c.requires.directory.2 c.requires.room {len = length c.read_at.new.to} (omega (arith, c.requires.room, c.read_at.auto.to))).0

pub overwrite-requires-clause-one_block : goal.overwrite-requires-clause-one_block
overwrite-requires-clause-one_block g c =
    (slot_placed c.requires.directory.1 c.args.slot c.requires.directory.2 c.requires.room {len = length c.read_at.new.to} (omega (arith, c.requires.room, c.read_at.auto.to))).1

pub overwrite-requires-clause-no_hole : goal.overwrite-requires-clause-no_hole
overwrite-requires-clause-no_hole g c =
    slot_has_block (slots_after_reads c.in_ok-read_at.ensures.same c.requires.directory.1) c.args.slot c.requires.directory.2
    (ap (λ (w : ℕ). c.args.slot * w) c.requires.room)

pub returns-clause-change : goal.returns-clause-change
returns-clause-change g c = content_after_reads c.in_ok-read_at.ensures.same c.in_ok-overwrite.ensures.change

pub returns-clause-moved : goal.returns-clause-moved
returns-clause-moved g c = λ slots d h.
    let version = c.args.geometry.version in
    let here = c.requires.directory.1 in
    let count : length slots ≡ length c.requires.directory.0 =
    as_many version (length slots) (length c.requires.directory.0) (sym (size_of_slots h) ∙ size_of_slots here) in
    let few : c.args.slot < length slots = omega (arith, count, c.requires.directory.2) in
    slot_written (slots_after_reads c.in_ok-read_at.ensures.same h) c.args.slot few (h.each (length slots - 1) d (omega (arith, few)))
    (ap (λ (w : ℕ). c.args.slot * w) c.requires.room)
    (last_read h (omega (arith, few)) (ap (λ (w : ℕ). c.args.inode.now.size - w) c.requires.room) c.requires.room
    (c.in_ok-read_at.ensures.bytes (slots_bytes version slots) h.holds) d)
    c.in_ok-overwrite.ensures.held

pub returns-clause-whole : goal.returns-clause-whole
returns-clause-whole g c = c.in_ok-overwrite.ensures.whole (slots_after_reads c.in_ok-read_at.ensures.same c.requires.directory.1).whole

pub returns-clause-store : goal.returns-clause-store
returns-clause-store g c = store_joined c.in_ok-read_at.ensures.same.store c.in_ok-overwrite.ensures.store

pub returns-in_err-overwrite-clause-store : goal.returns-in_err-overwrite-clause-store
returns-in_err-overwrite-clause-store g c = store_joined c.in_ok-read_at.ensures.same.store c.in_err-overwrite.ensures.store

pub returns-in_err-overwrite-clause-cause : goal.returns-in_err-overwrite-clause-cause
returns-in_err-overwrite-clause-cause g c = fault_on c.in_ok-read_at.ensures.same.store c.in_err-overwrite.ensures.cause c.from_residual-in_err-overwrite.result c.from_residual-in_err-overwrite.ensures

pub returns-clause-cause : goal.returns-clause-cause
returns-clause-cause g c = no_fault (store_joined c.in_ok-read_at.ensures.same.store c.in_ok-overwrite.ensures.store)

use Rattle.std.proofs.Common.{◌≡◌, ◌+◌, ◌<◌, ◌≤◌, ◌↔◌, ℕ, List, get_or, length, refl, sym, ap, subst, arith, ◌∙◌}
use Rattle.std.proofs.lemmas.List.{take_at}
use Rattle.std.proofs.lemmas.Option.{MatchOption-at_some, MatchOption-at_none}
use Rattle.fs_layout.specs.declared.inode.TheConstants.{MAX_DIRECTORY_SIZE}
use Rattle.fs_layout.specs.declared.inode.Inode.{Inode}
use Rattle.fs_layout.specs.Images.{Owns, IsData, inode_at}
use Rattle.fs_layout.specs.Directories.{HaveDistinctNames, slot_count, NamedInode}
use Rattle.fs_model.specs.Rules.{Obeys, InData, Inodes, NamesApart}
use Rattle.fs_check.specs.Checks.{meaning}
use Rattle.fs_check.specs.Naming.{AreSlots, HasGoodSlots}
use Rattle.sector_disk.proofs.Moments.{reads_nothing}
use Rattle.fs_check.proofs.Carrying.{same_error}
use Rattle.fs_check.proofs.KindTests.{is_directory, no_directory, where_not, where_so}
use Rattle.fs_check.proofs.Tables.{table_geometry}
use Rattle.fs_check.proofs.Tests.{within, inode_here, blank}
use Rattle.fs_check.proofs.Tallies.{directory_size, same_naming, next_naming, few_slots, has_room, adds_same, naming_same}
use Rattle.fs_check.proofs.Endings.{if_ended}
use Rattle.std.proofs.lemmas.Bool.{false≢true}
use Rattle.fs_layout.specs.declared.geometry.Geometry.{Geometry}
use Rattle.fs_layout.specs.Bytes.{SectorMap}
use Rattle.fs_check.proofs.directories.add_directory.Goals as goal

pub returns-then-ne-clause-names : goal.returns-then-ne-clause-names
returns-then-ne-clause-names g c =
    let m = meaning (g.D.Disk.state c.args.disk.now) in
    let p = c.args.opened.now.geometry in
    let d = c.args.dir_ino in
    let here = inode_here p m c.args.inodes.now d blank c.requires.inodes.table c.requires.below in
    let other = no_directory (get_or c.args.inodes.now d blank).kind (where_not _ c.if-ne.ensures) in
    λ t. same_naming p m d c.args.names.now.counts.items c.args.names.now.directories.items c.args.names.now.repeated
    (λ e. other (ap (λ (v : Inode). v.kind) here ∙ e)) c.requires.names

pub read_good_slots-requires-clause-in_data : goal.read_good_slots-requires-clause-in_data
read_good_slots-requires-clause-in_data g c =
    let m = meaning (g.D.Disk.state c.args.disk.now) in
    let here = inode_here c.args.opened.now.geometry m c.args.inodes.now c.args.dir_ino blank c.requires.inodes.table c.requires.below in
    subst (λ v. (s : ℕ) → Owns m v s → IsData c.args.opened.now.geometry s) (sym here) (c.requires.inodes.before InData (omega arith) c.args.dir_ino
    (within c.args.opened.now.geometry m c.args.inodes.now c.args.dir_ino c.requires.inodes.table c.requires.below))

pub read_good_slots-requires-clause-size : goal.read_good_slots-requires-clause-size
read_good_slots-requires-clause-size g c =
    let m = meaning (g.D.Disk.state c.args.disk.now) in
    let p = c.args.opened.now.geometry in
    let d = c.args.dir_ino in
    let here = inode_here p m c.args.inodes.now d blank c.requires.inodes.table c.requires.below in
    let is = is_directory (get_or c.args.inodes.now d blank).kind (where_so _ c.if-ne.ensures) in
    subst (λ (v : Inode). v.size ≤ MAX_DIRECTORY_SIZE) (sym here) (directory_size p m d (c.requires.inodes.before Inodes (omega arith) d (within p m c.args.inodes.now d c.requires.inodes.table c.requires.below))
    (sym (ap (λ (v : Inode). v.kind) here) ∙ is))

pub add_slots-requires-clause-room : goal.add_slots-requires-clause-room
add_slots-requires-clause-room g c =
    let s0 = g.D.Disk.state c.args.disk.now in
    let m = meaning s0 in
    let p = c.args.opened.now.geometry in
    let d = c.args.dir_ino in
    let below = within p m c.args.inodes.now d c.requires.inodes.table c.requires.below in
    let at = table_geometry _ _ p d c.requires.opened.geometry below in
    let some = at.few in
    let here = inode_here p m c.args.inodes.now d blank c.requires.inodes.table c.requires.below in
    let is = is_directory (get_or c.args.inodes.now d blank).kind (where_so _ c.if-ne.ensures) in
    let size = directory_size p m d (c.requires.inodes.before Inodes (omega arith) d below) (sym (ap (λ (v : Inode). v.kind) here) ∙ is) in
    let found : AreSlots p.version m (get_or c.args.inodes.now d blank) c.in-Some.slots.items =
    (MatchOption-at_some _ _ c.in-Some.slots c.in-Some.is c.in_ok-slots.ensures.slots).1 in
    let len = found.len in
    let seen = ap length c.deref.ensures.value in
    subst (λ (l : List ℕ). (n : ℕ) → n < length l → get_or l n 0 + length c.deref.result.now < 18446744073709551616) (sym c.deref_mut.ensures.value) (λ n lt.
    let room = has_room p m d c.in-Some.slots.items c.args.names.now.counts.items c.args.names.now.directories.items some
    (λ k low kind. directory_size p m k (c.requires.inodes.before Inodes (omega arith) k (omega (arith, low, below))) kind)
    (let few = few_slots p.version (inode_at p m d) size in let count = ap (slot_count p.version) here in omega (arith, len, count, few)) c.requires.names.tally n lt in
    omega (arith, room, seen))

pub returns-clause-test : goal.returns-clause-test
returns-clause-test g c =
    let m = meaning (g.D.Disk.state c.args.disk.now) in
    let p = c.args.opened.now.geometry in
    let here = inode_here p m c.args.inodes.now c.args.dir_ino blank c.requires.inodes.table c.requires.below in
    let good : HasGoodSlots p m (get_or c.args.inodes.now c.args.dir_ino blank) =
    (MatchOption-at_some _ _ c.in-Some.slots c.in-Some.is c.in_ok-slots.ensures.slots).0 in
    ((λ t lt kind. subst (HasGoodSlots p m) here good), (λ o. refl))

pub returns-clause-names : goal.returns-clause-names
returns-clause-names g c =
    let m = meaning (g.D.Disk.state c.args.disk.now) in
    let p = c.args.opened.now.geometry in
    let d = c.args.dir_ino in
    let names = c.args.names.now in
    let slots = c.in-Some.slots.items in
    let here = inode_here p m c.args.inodes.now d blank c.requires.inodes.table c.requires.below in
    let is = is_directory (get_or c.args.inodes.now d blank).kind (where_so _ c.if-ne.ensures) in
    let found : AreSlots p.version m (get_or c.args.inodes.now d blank) c.in-Some.slots.items =
    (MatchOption-at_some _ _ c.in-Some.slots c.in-Some.is c.in_ok-slots.ensures.slots).1 in
    let are = subst (λ v. AreSlots p.version m v slots) here found in
    let adds = adds_same d slots c.deref.result.now names.counts.items names.directories.items c.add_slots.new.counts c.add_slots.new.directories
    c.deref_mut.result.now c.deref_mut-2.result.now c.deref.ensures.value c.deref_mut.ensures.value c.deref_mut-2.ensures.value c.add_slots.ensures in
    λ t. naming_same p m (d + 1) c.add_slots.new.counts c.add_slots.new.directories _ _ c.first_repeated-names.result
    (take_at c.add_slots.new.counts _ names.counts.len (c.add_slots.ensures.counts_len ∙ c.deref_mut.ensures.len))
    (take_at c.add_slots.new.directories _ names.directories.len (c.add_slots.ensures.directories_len ∙ c.deref_mut-2.ensures.len))
    (next_naming p m d slots names.counts.items names.directories.items c.add_slots.new.counts c.add_slots.new.directories names.repeated
    c.first_repeated-names.result
    (within p m c.args.inodes.now d c.requires.inodes.table c.requires.below) (sym (ap (λ (v : Inode). v.kind) here) ∙ is) are adds c.requires.names
    (λ x test. c.first_repeated-names.ensures p m x (subst (λ l. HaveDistinctNames l ↔ Obeys p m NamesApart d) (sym c.deref_mut-3.ensures.value) test)))

pub returns-then-ne-clause-passed : goal.returns-then-ne-clause-passed
returns-then-ne-clause-passed g c = record { reads = reads_nothing; reason = tt }

pub returns-in_err-slots-clause-passed : goal.returns-in_err-slots-clause-passed
returns-in_err-slots-clause-passed g c = same_error c.from_residual.result c.from_residual.ensures.1 c.in_err-slots.ensures.passed

pub returns-in_default-clause-passed : goal.returns-in_default-clause-passed
returns-in_default-clause-passed g c = record { reads = c.in_ok-slots.ensures.passed.reads; reason = tt }

pub returns-clause-passed : goal.returns-clause-passed
returns-clause-passed g c = record { reads = c.in_ok-slots.ensures.passed.reads; reason = tt }

pub read_good_slots-requires-clause-opened : goal.read_good_slots-requires-clause-opened
read_good_slots-requires-clause-opened g c = c.requires.opened

pub read_good_slots-requires-clause-table : goal.read_good_slots-requires-clause-table
read_good_slots-requires-clause-table g c = c.requires.inodes.table

pub returns-in_err-slots-clause-test : goal.returns-in_err-slots-clause-test
returns-in_err-slots-clause-test g c = if_ended _ _ c.from_residual.result c.from_residual.ensures.1

pub returns-in_err-slots-clause-names : goal.returns-in_err-slots-clause-names
returns-in_err-slots-clause-names g c = if_ended _ _ c.from_residual.result c.from_residual.ensures.1

-- a slot of a directory names an inode that the tables have
named_there : (p : Geometry) (m : SectorMap) (v : Inode) (slots here : List NamedInode) (table whole : List ℕ)
    → HasGoodSlots p m v × AreSlots p.version m v slots → here ≡ slots → table ≡ whole
    → length whole ≡ p.inodes
    → (k : ℕ) (d : NamedInode) → k < length here → (get_or here k d).ino < length table
named_there p m v slots here table whole found is same len k d lt =
    let all = found.1.len in
    let seen = ap length is in
    let below : k < slot_count p.version v = omega (arith, lt, all, seen) in
    let low = (found.0 k below).below in
    let named = ap (λ (l : List NamedInode). (get_or l k d).ino) is
    ∙ ap (λ (x : NamedInode). x.ino) (found.1.each k d below) in
    let size = ap length same in
    omega (arith, named, low, size, len)

pub add_slots-requires-clause-counts : goal.add_slots-requires-clause-counts
add_slots-requires-clause-counts g c =
    named_there c.args.opened.now.geometry (meaning (g.D.Disk.state c.args.disk.now))
    (get_or c.args.inodes.now c.args.dir_ino blank) c.in-Some.slots.items c.deref.result.now
    c.deref_mut.result.now c.args.names.now.counts.items
    (MatchOption-at_some _ _ c.in-Some.slots c.in-Some.is c.in_ok-slots.ensures.slots)
    c.deref.ensures.value c.deref_mut.ensures.value c.requires.names.tally.counts_len

pub add_slots-requires-clause-directories : goal.add_slots-requires-clause-directories
add_slots-requires-clause-directories g c =
    named_there c.args.opened.now.geometry (meaning (g.D.Disk.state c.args.disk.now))
    (get_or c.args.inodes.now c.args.dir_ino blank) c.in-Some.slots.items c.deref.result.now
    c.deref_mut-2.result.now c.args.names.now.directories.items
    (MatchOption-at_some _ _ c.in-Some.slots c.in-Some.is c.in_ok-slots.ensures.slots)
    c.deref.ensures.value c.deref_mut-2.ensures.value c.requires.names.tally.directories_len

pub returns-then-ne-clause-test : goal.returns-then-ne-clause-test
returns-then-ne-clause-test g c =
    let m = meaning (g.D.Disk.state c.args.disk.now) in
    let here = inode_here c.args.opened.now.geometry m c.args.inodes.now c.args.dir_ino blank
    c.requires.inodes.table c.requires.below in
    let kind = (get_or c.args.inodes.now c.args.dir_ino blank).kind in
    let other = no_directory kind (where_not _ c.if-ne.ensures) in
    ((λ t lt is. absurd (other (ap (λ (v : Inode). v.kind) here ∙ is))), (λ o. refl))

pub returns-in_default-clause-test : goal.returns-in_default-clause-test
returns-in_default-clause-test g c =
    let bad = MatchOption-at_none _ _ c.in_default.is c.in_ok-slots.ensures.slots in
    let is = is_directory (get_or c.args.inodes.now c.args.dir_ino blank).kind (where_so _ c.if-ne.ensures) in
    let table = c.requires.inodes.table in
    let p = c.args.opened.now.geometry in
    let m = meaning (g.D.Disk.state c.args.disk.now) in
    let here = inode_here p m c.args.inodes.now c.args.dir_ino blank table c.requires.below in
    let below = within p m c.args.inodes.now c.args.dir_ino table c.requires.below in (
      (λ f. absurd (false≢true f)),
      (λ o. absurd (bad (subst (HasGoodSlots p m) (sym here)
          (o below (sym (ap (λ (v : Inode). v.kind) here) ∙ is))))),
    )

pub returns-in_default-clause-names : goal.returns-in_default-clause-names
returns-in_default-clause-names g c = λ f. absurd (false≢true f)

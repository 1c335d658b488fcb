-- What a mount comes to.
use Rattle.call_parts.specs.BothTables.{Tables, both}
use Rattle.std.proofs.Common.{◌≡◌, ◌≤◌, ℕ, [], length, refl, sym, ap, subst, ◌∙◌, arith, false}
use Rattle.sector_disk.specs.Disk.{DiskState, Image, sector, IsImage, IsSame, Elapses, LeavesOnly, HasFailed}
use Rattle.sector_disk.proofs.Moments.{failed_later, holds_now, joined, one_call, unchanged, weaker}
use Rattle.fs_layout.specs.declared.geometry.Geometry.{Geometry}
use Rattle.fs_layout.specs.Bytes.{SectorMap}
use Rattle.fs_layout.specs.Images.{free_sectors}
use Rattle.fs_layout.specs.Recovered.{recovered}
use Rattle.redo_journal.specs.Meaning.{SameMap, EachReadsAs, MeansAsBefore, data_of}
use Rattle.fs_model.specs.declared.event.RestartFault.{RestartFault}
use Rattle.fs_model.specs.declared.event.RestartFault.TheVariants.{DiskFault}
use Rattle.fs_model.specs.Trees.{Tree, Room}
use Rattle.fs_model.specs.TreeChanges.{pruned}
use Rattle.fs_model.specs.States.{State, IsState, MayBeFree}
use Rattle.fs_model.specs.Stands.{room_of}
use Rattle.fs_model.proofs.OneTree.{one_tree}
use Rattle.fs_model.proofs.StepsSwept.{left_is_state, tree_may_be_left}
use Rattle.fs_model.proofs.Swept.{pruned_is_tree}
use Rattle.fs_model.proofs.Taken.{count_may_be_free}
use Rattle.fs_system.specs.Layouts.{IsDiskOf}
use Rattle.redo_journal.proofs.Meaning.{data_stays, same_chain}
use Rattle.sector_txn.specs.Stores.{StoreView, present}
use Rattle.fs_system.specs.Mounts.{IsMounted, Mounts, FailsToMount}
use Rattle.fs_system.specs.Mounting.{StandsAsBefore, IsSystem}
use Rattle.fs_system.specs.declared.base.Base.TheVariants.{Running}
use Rattle.fs_system.specs.Running.{IsRunning}
use Rattle.fs_images.specs.Standing.{StandsFor, StandsForSome, HasPartsAt, EachStandsFor}
use Rattle.fs_system.specs.Sweeping.{IsStored, StandsPruned, HasTree, KeepsTree}
use Rattle.redo_journal.proofs.Used.{means_used}
use Rattle.fs_system.proofs.Joining.{HoldsCounted, disk_of_standing, holds_of_standing, disk_same, holds_same, stands_as, each_stands}
use Rattle.fs_images.proofs.Places.{is_room}

-- ---- what a stop leaves

-- what means as before stands as before
pub means_stands : (old : DiskState) (image : Image) → MeansAsBefore old image → StandsAsBefore old image
means_stands old image (from, is, means) = (from, is, λ room t free stands. (t, free, stands_as old.size from image is.size (means_used means) room t free stands, refl))

-- where nothing has changed
pub same_stands : (old new : DiskState) → ((image : Image) → old.left_since old.moment image → IsImage old image) → IsSame old new → Elapses old new
    → LeavesOnly old new (StandsAsBefore old)
same_stands old new only_now same time =
    one_call {P = StandsAsBefore old} only_now (λ image is. (image, is, λ room t free stands. (t, free, stands, refl))) time
    (λ image is. (image, unchanged same is, λ room t free stands. (t, free, stands, refl)))

-- and then a journal is opened
pub opened_stands : (old mid new : DiskState) → ((image : Image) → old.left_since old.moment image → IsImage old image) → IsSame old mid → Elapses old mid
    → LeavesOnly mid new (MeansAsBefore mid) → LeavesOnly old new (StandsAsBefore old)
opened_stands old mid new only_now same time run =
    joined (same_stands old mid only_now same time)
    (weaker (λ image means. let was = means_stands mid image means in (was.0, unchanged same was.1, was.2)) run)

-- and then what a stop leaves stands for the tree for which the disk stood, but for files without names
pub swept_stands : (old mid new : DiskState) (room : Room) (t : Tree) (free : ℕ) (geometry : Geometry) → IsImage old old.seen
    → (stands : StandsFor room old.seen t free) → stands.geometry ≡ geometry → LeavesOnly old mid (StandsAsBefore old)
    → LeavesOnly mid new (StandsPruned (room_of geometry) t) → LeavesOnly old new (StandsAsBefore old)
swept_stands old mid new room t free geometry seen stands found first then =
    joined first (weaker (λ image left. (
      old.seen,
      seen,
      λ room' t' free' stands'.
          let one = one_tree (length old.seen) (sector old.seen) room room' t t' free free' stands stands' in
          let same : room_of geometry ≡ room' = sym (stands.room_is ∙ ap room_of found) ∙ one.rooms in
          (left.0, left.1, subst (λ (r : Room). StandsFor r image left.0 left.1) same left.2, left.3 ∙ ap pruned one.trees),
    )) then)

pub fails_to_mount : (old new : DiskState) (fault : RestartFault) → ((t : ℕ) (image : Image) → t ≤ new.moment → IsImage new image → new.left_since t image)
    → LeavesOnly old new (StandsAsBefore old) → old.failures ≤ new.failures → (fault ≡ DiskFault → HasFailed old new) → FailsToMount old new fault
fails_to_mount old new fault counts_now run later cause = record {
  images = λ image is. holds_now run counts_now is;
  later = later;
  cause = cause;
}

-- ---- a store whose map is that of a disk which stands for a tree

module _ (old : DiskState) (size : length old.seen ≡ old.size) (room : Room) (t : Tree) (free : ℕ) (stands : StandsFor room old.seen t free) where
  module _ (new : DiskState) (sized : new.size ≡ old.size) (map : SectorMap) (same : SameMap map (data_of old)) (lasting : EachReadsAs map new) where
    old_disk : IsDiskOf old.size stands.geometry (data_of old)
    old_disk = subst (λ n. IsDiskOf n stands.geometry (recovered n (sector old.seen))) size (disk_of_standing (length old.seen) (sector old.seen) room t free stands)

    old_holds : HoldsCounted stands.geometry (data_of old) t free
    old_holds = subst (λ n. HoldsCounted stands.geometry (recovered n (sector old.seen)) t free) size (holds_of_standing (length old.seen) (sector old.seen) room t free stands)

    map_disk : IsDiskOf new.size stands.geometry map
    map_disk = subst (λ n. IsDiskOf n stands.geometry map) (sym sized) (disk_same old.size stands.geometry (data_of old) map same old_disk)

    map_holds : HoldsCounted stands.geometry map t free
    map_holds = holds_same old.size stands.geometry (data_of old) map t free same old_disk old_holds

    pub has_tree : (geometry : Geometry) → stands.geometry ≡ geometry → HasTree geometry map new t
    has_tree geometry found = subst (λ (q : Geometry). HasTree q map new t) found (record {
      stored = record { disk_is = map_disk; holds = record { holds = map_holds.holds; tree = map_holds.tree_is } };
      images = λ image is. let here = each_stands stands.geometry map t free new map_disk map_holds lasting image is in (t, here.0, here.1, refl);
    })

  -- and that holds the tree then, without files that have no name
  module _ (new : DiskState) (map : SectorMap) (geometry : Geometry) (found : stands.geometry ≡ geometry) (stored : IsStored new.size geometry map (pruned t))
      (images : EachStandsFor (room_of geometry) new (pruned t)) (later : old.failures ≤ new.failures) (quiet : new.failed_writes ≡ old.failed_writes) where
    abbrev pub state_found : State
    state_found = record { room = room; tree = pruned t; processes = []; openings = []; free = free_sectors geometry map; now = 0; halted = false }

    room_is : room ≡ room_of geometry
    room_is = stands.room_is ∙ ap room_of found

    may_be_free : MayBeFree room (pruned t) (free_sectors geometry map)
    may_be_free =
        count_may_be_free geometry map room (pruned t) (ap (λ (r : Room). r.sectors) room_is) (ap (λ (r : Room). r.slot_size) room_is)
        (pruned_is_tree room t stands.tree_is) stored.holds.holds

    found_state : IsState state_found
    found_state =
        left_is_state (record { room = room; tree = t; processes = []; openings = []; free = free; now = 0; halted = false }) t [] [] (free_sectors geometry map) (is_room old.seen room t free stands) (omega arith)
        (tree_may_be_left room t [] [] stands.tree_is refl (omega arith) (λ pid p e. absurd cc) refl (λ handle d e. absurd cc)) may_be_free

    mounted_here : IsMounted new room t state_found
    mounted_here = record { is_mounted = refl; free = may_be_free; images = subst (λ (q : Room). EachStandsFor q new (pruned t)) (sym room_is) images }

    pub ends_mounted : (tables : Tables) → tables ≡ both [] [] → (s : State) × (IsRunning new.size geometry map tables s × (s.now ≡ 0)) × Mounts old new s
    ends_mounted tables none = (
      state_found,
      (
        record {
          disk_is = stored.disk_is;
          state_of = record {
            is_state = found_state;
            up = refl;
            same_tables = sym none;
            same_room = room_is;
            holds = stored.holds.holds;
            free_is = refl;
          };
        },
        refl,
      ),
      record {
        some = (room, t, free, stands);
        each = λ room' t' free' stands'.
            let one = one_tree (length old.seen) (sector old.seen) room room' t t' free free' stands stands' in
            subst (λ (q : Room). IsMounted new q t' state_found) one.rooms (subst (λ (u : Tree). IsMounted new room u state_found) one.trees mounted_here);
        later = later;
        unhalted = quiet;
      },
    )

-- ---- as a mount does it: where the parts of the disk lie is read, then a store is opened, and then swept

pub device_failed : (old mid new : DiskState) (fault : RestartFault) → old.failures ≤ mid.failures → (fault ≡ DiskFault → HasFailed mid new)
    → fault ≡ DiskFault → HasFailed old new
device_failed old mid new fault later cause is = failed_later old mid new later (cause is)

module _ {D : Type 0} (state : D → DiskState) (disk read : D) (store : StoreView D) (seen : IsImage (state disk) (state disk).seen) (was : StandsForSome (state disk).seen)
    (same : IsSame (state disk) (state read)) (size : (state store.disk).size ≡ (state read).size)
    (map : SameMap (present state store) (data_of (state read))) (lasting : EachReadsAs (present state store) (state store.disk))
    (geometry : Geometry) (found : HasPartsAt (state disk).seen geometry) where
  abbrev at : was.3.geometry ≡ geometry
  at = found was.0 was.1 was.2 was.3

  pub opened_tree : HasTree geometry (present state store) (state store.disk) was.1
  opened_tree =
      has_tree (state disk) seen.size was.0 was.1 was.2 was.3 (state store.disk) (size ∙ same.narrowed.size) (present state store)
      (same_chain (present state store) (data_of (state read)) (data_of (state disk)) map (λ n part. data_stays (state disk) (state read) same.narrowed n))
      lasting geometry at

  -- at any moment
  pub swept_moments : (new : DiskState) → LeavesOnly (state disk) (state store.disk) (StandsAsBefore (state disk))
      → KeepsTree geometry (present state store) (state store.disk) new → LeavesOnly (state disk) new (StandsAsBefore (state disk))
  swept_moments new first keeps = swept_stands (state disk) (state store.disk) new was.0 was.1 was.2 geometry seen was.3 at first (keeps was.1 opened_tree)

  module _ (then : StoreView D)
      (swept : (t : Tree) → HasTree geometry (present state store) (state store.disk) t → IsStored (state then.disk).size geometry (present state then) (pruned t))
      (stable : (t : Tree) → HasTree geometry (present state store) (state store.disk) t → EachStandsFor (room_of geometry) (state then.disk) (pruned t))
      (later : (state disk).failures ≤ (state then.disk).failures) (quiet : (state then.disk).failed_writes ≡ (state disk).failed_writes)
      (tables : Tables) (none : tables ≡ both [] []) where
    pub mounts_found : (s : State) × (IsRunning (state then.disk).size geometry (present state then) tables s × (s.now ≡ 0)) × Mounts (state disk) (state then.disk) s
    mounts_found =
        ends_mounted (state disk) seen.size was.0 was.1 was.2 was.3 (state then.disk) (present state then) geometry at (swept was.1 opened_tree)
        (stable was.1 opened_tree) later quiet tables none

    pub mounted_system : IsSystem state (record { base = Running then; geometry = geometry; processes = tables.processes; openings = tables.openings; time = 0 })
    mounted_system =
        let is = mounts_found in
        let each = stable was.1 opened_tree in
        record { in_some = (is.0, is.1); mountable = λ image left. let one = each image left in (room_of geometry, pruned was.1, one.0, one.1) }

-- What a sweep comes to, commit after commit.
--     counted, stored_same        maps with the same data
--     begins_sound, begins_spare        a transaction that has put nothing
--     opened_tree        a store on a disk that stands for a tree
--     kept_images, commit_images, commit_frees, dropped_images        one number
--     flushed_images, flushed_stable, flushed_tree        what is kept is made stable
--     IsSweeping, sweeping_begun, sweeping_on, sweeping_stable, sweeping_ends, keeps_both        all numbers
--     err_disk, err_cause        the disk of an error, and its cause
use Rattle.std.specs.Prelude.{◌≡◌, ℕ, ◌+◌, ◌<◌, ◌≤◌, false, length, Result, Ok, Err, IsErr, IsErrAnd, OnErr}
use Rattle.std.proofs.Common.{refl, sym, ap, subst, arith, ◌∙◌, inl, inr}
use Rattle.sector_disk.specs.Disk.{DiskState, Image, IsImage, sector, LeavesOnly, OnlyReads, HasCause}
use Rattle.sector_disk.proofs.Moments.{failed_later, joined, weaker, holds_now, started}
use Rattle.fs_layout.specs.declared.geometry.Geometry.{Geometry}
use Rattle.fs_layout.specs.Bytes.{SectorMap}
use Rattle.fs_layout.specs.Images.{free_sectors}
use Rattle.fs_layout.specs.Recovered.{recovered}
use Rattle.fs_layout.proofs.Places.{geometry_is_laid_out}
use Rattle.redo_journal.specs.Meaning.{SameMap, EachReadsAs, data_of}
use Rattle.fs_layout.specs.Header.{header_of, log_end, max_delta}
use Rattle.fs_layout.proofs.RecoveryLaw.{header_there, log_there}
use Rattle.sector_txn.specs.Images.{IsOneOf, LeavesOneOf, LeavesOldOr}
use Rattle.sector_txn.specs.Sectors.{TxnState}
use Rattle.sector_txn.specs.Stores.{StoreView, disk_after}
use Rattle.sector_txn.proofs.Images.{after_reads}
use Rattle.bit_alloc.specs.Inodes.{IsSound}
use Rattle.bit_alloc.specs.Room.{HasSpare}
use Rattle.bit_alloc.proofs.Soundness.{spare_first, sound_from}
use Rattle.fs_model.specs.TreeChanges.{pruned}
use Rattle.fs_model.specs.Stands.{placed, room_of}
use Rattle.fs_model.specs.Trees.{Tree, Room}
use Rattle.fs_model.proofs.Swept.{pruned_twice}
use Rattle.path_walk.specs.HeldTrees.{HoldsTree}
use Rattle.call_parts.specs.Dropping.{LeavesInode}
use Rattle.call_parts.proofs.Leavings.{left_super}
use Rattle.fs_system.specs.Layouts.{IsDiskOf}
use Rattle.fs_images.specs.Standing.{StandsFor, EachStandsFor}
use Rattle.fs_system.specs.Sweeping.{IsStored, StandsPruned, HasTree, IsNamedBelow, FreesNameless, KeepsTree}
use Rattle.fs_system.proofs.EventEnds.{disk_kept}
use Rattle.fs_system.proofs.FreedFiles.{IsFreed, freed, named_first, named_all}
use Rattle.fs_system.proofs.Joining.{HoldsCounted, disk_of_standing, holds_of_standing, disk_same, holds_same, stands_for, stands_as, each_stands}
use Rattle.fs_system.proofs.Soundness.{outside_set}

-- ---- maps with the same data

pub counted : {p : Geometry} {map : SectorMap} {t : Tree} → HoldsTree p map t → HoldsCounted p map t (free_sectors p map)
counted h = record { holds = h.holds; tree_is = h.tree; free_is = refl }

pub stored_same : {size size' : ℕ} {p : Geometry} {old new : SectorMap} {t : Tree} → size' ≡ size → SameMap new old → IsStored size p old t → IsStored size' p new t
stored_same {size} {size'} {p} {old} {new} {t} sized same is =
    let held = holds_same size p old new t (free_sectors p old) same is.disk_is (counted is.holds) in
    record {
      disk_is = subst (λ n. IsDiskOf n p new) (sym sized) (disk_same size p old new same is.disk_is);
      holds = record { holds = held.holds; tree = held.tree_is };
    }

-- a transaction that begins

pub begins_sound : (p : Geometry) (txn : TxnState) (t : Tree) → txn.header ≡ header_of (txn.sectors 0) → IsStored txn.disk.size p txn.sectors t → IsSound p txn
begins_sound p txn t header is =
    let sectors : p.sectors ≡ txn.disk.size = ap (λ (q : Geometry). q.sectors) (geometry_is_laid_out txn.disk.size is.disk_is.super.inodes is.disk_is.has_geometry) in
    let ends = ap log_end header ∙ log_there is.disk_is.super (txn.sectors 0) txn.disk.size is.disk_is.super_fits is.disk_is.super_is is.disk_is.has_geometry in
    sound_from p txn is.holds.holds.consistent (omega (arith, sectors)) (omega (arith, ends)) (outside_set p txn.sectors (placed t) is.holds.holds)

pub begins_spare : (p : Geometry) (txn : TxnState) (t : Tree) → txn.header ≡ header_of (txn.sectors 0) → txn.room ≡ max_delta txn.header
    → IsStored txn.disk.size p txn.sectors t → HasSpare p 1 txn
begins_spare p txn t header room is =
    let there = header ∙ header_there is.disk_is.super (txn.sectors 0) txn.disk.size is.disk_is.super_fits is.disk_is.super_is is.disk_is.has_geometry in
    let spare = spare_first p txn is.holds.holds.consistent.geometry (room ∙ ap max_delta there) in omega (arith, spare)

-- a store that was opened on a disk which stands for a tree
pub opened_tree : (old new : DiskState) (map : SectorMap) (room : Room) (t : Tree) (free : ℕ) → length old.seen ≡ old.size → new.size ≡ old.size
    → SameMap map (data_of old) → EachReadsAs map new → (stands : StandsFor room old.seen t free) → HasTree stands.geometry map new t
opened_tree old new map room t free whole sized same lasting stands =
    let disk : IsDiskOf old.size stands.geometry (data_of old) =
    subst (λ n. IsDiskOf n stands.geometry (recovered n (sector old.seen))) whole (disk_of_standing (length old.seen) (sector old.seen) room t free stands) in
    let held : HoldsCounted stands.geometry (data_of old) t free =
    subst (λ n. HoldsCounted stands.geometry (recovered n (sector old.seen)) t free) whole (holds_of_standing (length old.seen) (sector old.seen) room t free stands) in
    let stored : IsStored new.size stands.geometry map t =
    stored_same sized same (record { disk_is = disk; holds = record { holds = held.holds; tree = held.tree_is } }) in
    record {
      stored = stored;
      images = λ image is.
          (t, free_sectors stands.geometry map, stands_for new.size stands.geometry map t (free_sectors stands.geometry map) image stored.disk_is (counted stored.holds) (lasting image is), refl);
    }

-- ---- one number

-- what the map holds once the number is done with
pub freed_stored : {size : ℕ} {p : Geometry} {n : ℕ} {old new : TxnState} {t : Tree} → n < p.inodes → (is : IsStored size p old.sectors t)
    → LeavesInode p n false old new → (f : IsFreed p n new.sectors t) × IsStored size p new.sectors f.tree
freed_stored {size} {p} {n} {old} {new} {t} below is leaves =
    let f = freed p n old new t is.holds below leaves in
    (f, record { disk_is = disk_kept size p old.sectors new.sectors (left_super leaves) is.disk_is; holds = f.holds })

-- what a commit leaves, where one tree is stored before it and another after it
left_pruned : {old : DiskState} {p : Geometry} {map now : SectorMap} {t u : Tree} → HasTree p map old t → IsStored old.size p now u → pruned u ≡ pruned t → (image : Image) → IsOneOf old map now image
    → StandsPruned (room_of p) t image
left_pruned {old} {p} h stored same image (inl (from, is, means)) =
    let was = h.images from is in
    (was.0, was.1, stands_as old.size from image is.size means (room_of p) was.0 was.1 was.2, was.3)
left_pruned {old} {p} {map} {t = t} h stored same image (inr (inl reads)) =
    (t, free_sectors p map, stands_for old.size p map t (free_sectors p map) image h.stored.disk_is (counted h.stored.holds) reads, refl)
left_pruned {old} {p} {now = now} {u = u} h stored same image (inr (inr reads)) =
    (u, free_sectors p now, stands_for old.size p now u (free_sectors p now) image stored.disk_is (counted stored.holds) reads, same)

-- a delta is kept
module _ (old mid new : DiskState) (only_now : (image : Image) → old.left_since old.moment image → IsImage old image) (p : Geometry) (map now : SectorMap)
    (reads : OnlyReads old mid) (run : LeavesOneOf map now mid new) (t u : Tree) (h : HasTree p map old t) (stored : IsStored old.size p now u) (same : pruned u ≡ pruned t) where
  pub kept_images : LeavesOnly old new (StandsPruned (room_of p) t)
  kept_images = weaker (left_pruned h stored same) (after_reads only_now reads run).any_moment

  pub kept_tree : (map' : SectorMap) → SameMap map' now → ((t : ℕ) (image : Image) → t ≤ new.moment → IsImage new image → new.left_since t image)
      → HasTree p map' new u
  kept_tree map' alike counts_now = record {
    stored = stored_same (run.size ∙ reads.narrowed.size) alike stored;
    images = λ image is. let found = holds_now kept_images counts_now is in (found.0, found.1, found.2, found.3 ∙ sym same);
  }

-- a transaction frees the inode where it is a file without a name, and is kept
module _ (old mid new : DiskState) (only_now : (image : Image) → old.left_since old.moment image → IsImage old image) (p : Geometry) (n : ℕ) (below : n < p.inodes) (map : SectorMap)
    (first last : TxnState) (began : SameMap first.sectors map) (leaves : LeavesInode p n false first last) (reads : OnlyReads old mid)
    (run : LeavesOneOf map last.sectors mid new) (t : Tree) (h : HasTree p map old t) where
  after : (f : IsFreed p n last.sectors t) × IsStored old.size p last.sectors f.tree
  after = freed_stored below (stored_same refl began h.stored) leaves

  pub commit_images : LeavesOnly old new (StandsPruned (room_of p) t)
  commit_images = kept_images old mid new only_now p map last.sectors reads run t after.0.tree h after.1 after.0.same

  pub commit_frees : (map' : SectorMap) → SameMap map' last.sectors → ((t : ℕ) (image : Image) → t ≤ new.moment → IsImage new image → new.left_since t image)
      → (u : Tree) × HasTree p map' new u × (pruned u ≡ pruned t) × (IsNamedBelow n t → IsNamedBelow (n + 1) u)
  commit_frees map' alike counts_now = (
    after.0.tree,
    kept_tree old mid new only_now p map last.sectors reads run t after.0.tree h after.1 after.0.same map' alike counts_now,
    after.0.same,
    after.0.named,
  )

-- or it is dropped
pub dropped_images : (old new : DiskState) → ((image : Image) → old.left_since old.moment image → IsImage old image) → OnlyReads old new
    → (p : Geometry) (map : SectorMap) → KeepsTree p map old new
dropped_images old new only_now reads p map t h = record {
  later = reads.later;
  each = λ image left. h.images image (only_now image (reads.since old.moment image (omega arith) left));
  before = λ k image le left. inl (reads.since k image le left);
}

-- ---- what is kept is made stable

pub flushed_images : (old new : DiskState) (p : Geometry) (map : SectorMap) → LeavesOldOr map old new → KeepsTree p map old new
flushed_images old new p map run t h = weaker (left_pruned h h.stored refl) run.any_moment

pub flushed_stable : (old new : DiskState) (p : Geometry) (map : SectorMap) (t : Tree) → new.size ≡ old.size → EachReadsAs map new → HasTree p map old t
    → EachStandsFor (room_of p) new t
flushed_stable old new p map t sized lasting h =
    each_stands p map t (free_sectors p map) new (subst (λ n. IsDiskOf n p map) (sym sized) h.stored.disk_is) (counted h.stored.holds) lasting

pub flushed_tree : (old new : DiskState) (p : Geometry) (map map' : SectorMap) (t : Tree) → new.size ≡ old.size → SameMap map' map → EachReadsAs map new → HasTree p map old t
    → HasTree p map' new t
flushed_tree old new p map map' t sized same lasting h = record {
  stored = stored_same sized same h.stored;
  images = λ image is. let stands = flushed_stable old new p map t sized lasting h image is in (t, stands.0, stands.1, refl);
}

-- ---- all numbers

-- The numbers below k are done with.
pub record IsSweeping (p : Geometry) (map : SectorMap) (old : DiskState) (now : SectorMap) (new : DiskState) (k : ℕ) : Type 0 where
  pub each : (t : Tree) → HasTree p map old t → (u : Tree) × HasTree p now new u × (pruned u ≡ pruned t) × IsNamedBelow k u
  pub keeps : KeepsTree p map old new
  pub size : new.size ≡ old.size
  pub later : old.failures ≤ new.failures
  pub quiet : new.failed_writes ≡ old.failed_writes

pub sweeping_begun : (p : Geometry) (map : SectorMap) (old : DiskState) → ((image : Image) → old.left_since old.moment image → IsImage old image)
    → IsSweeping p map old map old 2
sweeping_begun p map old only_now = record {
  each = λ t h. (t, h, refl, named_first (room_of p) t h.stored.holds.tree);
  keeps = λ t h. started only_now h.images;
  size = refl;
  later = omega arith;
  quiet = refl;
}

-- what stands for a tree with the same names
pub pruned_same : (room : Room) (t u : Tree) → pruned u ≡ pruned t → (image : Image) → StandsPruned room u image → StandsPruned room t image
pruned_same room t u same image (v, free, stands, is) = (v, free, stands, is ∙ same)

pub keeps_on : {p : Geometry} {map now : SectorMap} {old mid new : DiskState} {k : ℕ} → IsSweeping p map old now mid k → KeepsTree p now mid new → KeepsTree p map old new
keeps_on {p} {map} {now} {old} {mid} {new} {k} so_far keeps t h =
    let left = so_far.each t h in
    joined (so_far.keeps t h) (weaker (pruned_same (room_of p) t left.0 left.2) (keeps left.0 left.1))

pub sweeping_on : {p : Geometry} {map now next : SectorMap} {old mid new : DiskState} {k : ℕ} → IsSweeping p map old now mid k
    → FreesNameless p k now mid next new → KeepsTree p now mid new → new.size ≡ mid.size → mid.failures ≤ new.failures
    → new.failed_writes ≡ mid.failed_writes → IsSweeping p map old next new (k + 1)
sweeping_on {p} {map} {now} {next} {old} {mid} {new} {k} so_far frees keeps size later quiet = record {
  each = λ t h.
      let left = so_far.each t h in
      let then = frees left.0 left.1 in
      (then.0, then.1, then.2 ∙ left.2, then.3 left.3);
  keeps = keeps_on so_far keeps;
  size = size ∙ so_far.size;
  later = omega (arith, so_far.later, later);
  quiet = quiet ∙ so_far.quiet;
}

-- what was done is made stable
pub sweeping_stable : {p : Geometry} {map now next : SectorMap} {old mid new : DiskState} {k : ℕ} → IsSweeping p map old now mid k
    → ((t : Tree) → HasTree p now mid t → HasTree p next new t) → KeepsTree p now mid new → new.size ≡ mid.size → mid.failures ≤ new.failures
    → new.failed_writes ≡ mid.failed_writes → IsSweeping p map old next new k
sweeping_stable so_far kept keeps size later quiet = record {
  each = λ t h. let left = so_far.each t h in (left.0, kept left.0 left.1, left.2, left.3);
  keeps = keeps_on so_far keeps;
  size = size ∙ so_far.size;
  later = omega (arith, so_far.later, later);
  quiet = quiet ∙ so_far.quiet;
}

-- all of them
pub sweeping_ends : {p : Geometry} {map now : SectorMap} {old new : DiskState} {k : ℕ} → p.inodes ≤ k → IsSweeping p map old now new k
    → (t : Tree) → HasTree p map old t → HasTree p now new (pruned t)
sweeping_ends {p} {map} {now} {old} {new} {k} all done t h =
    let left = done.each t h in
    let named = named_all (room_of p) left.0 k left.1.stored.holds.tree all left.3 in
    subst (HasTree p now new) (sym named ∙ left.2) left.1

-- after the sweep of all numbers
pub keeps_both : {p : Geometry} {map now : SectorMap} {old mid new : DiskState} → ((t : Tree) → HasTree p map old t → HasTree p now mid (pruned t))
    → KeepsTree p map old mid → KeepsTree p now mid new → KeepsTree p map old new
keeps_both {p} {map} {now} {old} {mid} {new} swept first second t h =
    joined (first t h) (weaker (pruned_same (room_of p) t (pruned t) (pruned_twice (room_of p) t h.stored.holds.tree)) (second (pruned t) (swept t h)))

-- ---- the disk of an error that is passed on

pub err_disk : {D : Type 0} (r : Result (StoreView D) D) (disk : D) → IsErr r → IsErrAnd r (λ d. d ≡ disk) → disk_after r ≡ disk
err_disk (Ok store) disk err and = absurd cc
err_disk (Err d) disk err and = and

on_any_error : {T E P : Type 0} (r : Result T E) → P → OnErr r P
on_any_error (Ok x) p = tt
on_any_error (Err e) p = p

-- an error of a later step is one of the whole
pub err_cause : {D : Type 0} (state : D → DiskState) (old mid : DiskState) (r : Result (StoreView D) D) (disk : D) → disk_after r ≡ disk → old.failures ≤ mid.failures
    → HasCause {T = StoreView D} {E = D} mid (state disk) (Err disk) → HasCause old (state (disk_after r)) r
err_cause state old mid r disk is grows cause =
    subst (λ k. HasCause old (state k) r) (sym is)
    (record { later = omega (arith, grows, cause.later); fault = on_any_error r (failed_later old mid (state disk) grows cause.fault) })

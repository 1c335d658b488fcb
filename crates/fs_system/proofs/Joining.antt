-- What a journal's image reads as, and the tree that it stands for.
use Rattle.std.proofs.Common.{◌≡◌, ℕ, Some, length, refl, sym, subst, ◌∙◌, arith, inl, inr}
use Rattle.std.specs.Prelude.{IsFalse}
use Rattle.sector_disk.specs.Disk.{DiskState, Image, sector, LeavesOnly}
use Rattle.sector_disk.proofs.Moments.{weaker}
use Rattle.fs_layout.specs.declared.geometry.Geometry.{Geometry}
use Rattle.fs_layout.specs.Bytes.{SectorMap}
use Rattle.fs_layout.specs.Geometry.{geometry_in}
use Rattle.fs_layout.specs.Images.{free_sectors}
use Rattle.fs_layout.specs.InodeChanges.{IsFree}
use Rattle.fs_layout.specs.Recovered.{recovered}
use Rattle.fs_layout.specs.Ownership.{Agrees}
use Rattle.fs_layout.proofs.Agree.{same_agrees, agree_free_sectors}
use Rattle.fs_layout.proofs.Places.{after_map, before_data}
use Rattle.fs_layout.proofs.RecoveryLaw.{log_there, recovered-super}
use Rattle.redo_journal.specs.Meaning.{SameMap, ReadsAs, HasLayout, MeansUsed, EachReadsAs}
use Rattle.redo_journal.proofs.Used.{one_layout, used_agrees}
use Rattle.sector_txn.specs.Images.{IsOneOf, LeavesOneOf}
use Rattle.fs_model.specs.Trees.{Tree, Room, IsTree}
use Rattle.fs_model.specs.States.{State}
use Rattle.fs_model.specs.Stands.{HoldsAll, placed, room_of, Stands}
use Rattle.fs_model.proofs.Frame.{agreed}
use Rattle.fs_images.specs.Standing.{StandsFor, StandsAs, EachStandsFor}
use Rattle.fs_system.specs.Doing.{IsFound}
use Rattle.fs_system.specs.Layouts.{IsDiskOf}

-- a map holds the tree, and so many data sectors are free
pub record HoldsCounted (p : Geometry) (map : SectorMap) (t : Tree) (free : ℕ) : Type 0 where
  pub holds : HoldsAll p map (placed t)
  pub tree_is : IsTree (room_of p) t
  pub free_is : free ≡ free_sectors p map

-- a map with the same data holds the same tree
pub holds_same : (size : ℕ) (p : Geometry) (old new : SectorMap) (t : Tree) (free : ℕ) → SameMap new old → IsDiskOf size p old → HoldsCounted p old t free
    → HoldsCounted p new t free
holds_same size p old new t free same disk h =
    let log = log_there disk.super (old 0) size disk.super_fits disk.super_is disk.has_geometry in
    let agrees : Agrees p old new = same_agrees h.holds.consistent.geometry (λ s past low. same s (inr (omega (arith, log, past)))) in
    record {
      holds = agreed p old new (placed t) h.holds agrees;
      tree_is = h.tree_is;
      free_is = h.free_is ∙ sym (agree_free_sectors h.holds.consistent agrees);
    }

pub disk_same : (size : ℕ) (p : Geometry) (old new : SectorMap) → SameMap new old → IsDiskOf size p old → IsDiskOf size p new
disk_same size p old new same d = record {
  super = d.super;
  super_is = same 0 (inl refl) ∙ d.super_is;
  super_fits = d.super_fits;
  same_size = d.same_size;
  has_geometry = d.has_geometry;
}

-- The image reads as a map that holds the tree, so it stands for the tree.
pub stands_for : (size : ℕ) (p : Geometry) (map : SectorMap) (t : Tree) (free : ℕ) (image : Image) → IsDiskOf size p map → HoldsCounted p map t free
    → ReadsAs size map image → StandsFor (room_of p) image t free
stands_for size p map t free image disk h reads =
    let held = holds_same size p map (recovered size (sector image)) t free reads.reads disk h in
    subst (λ n. Stands n (sector image) (room_of p) t free) (sym reads.whole) (record {
      super = disk.super;
      geometry = p;
      super_is = sym (recovered-super size (sector image)) ∙ reads.reads 0 (inl refl) ∙ disk.super_is;
      super_fits = disk.super_fits;
      same_size = disk.same_size;
      has_geometry = disk.has_geometry;
      commit_is = reads.commit;
      room_is = refl;
      holds = held.holds;
      tree_is = held.tree_is;
      free_is = held.free_is;
    })

-- And the other way round: the map that a disk reads as holds the tree for which it stands.
module _ (size : ℕ) (image : SectorMap) (room : Room) (t : Tree) (free : ℕ) (st : Stands size image room t free) where
  pub disk_of_standing : IsDiskOf size st.geometry (recovered size image)
  disk_of_standing = record {
    super = st.super;
    super_is = recovered-super size image ∙ st.super_is;
    super_fits = st.super_fits;
    same_size = st.same_size;
    has_geometry = st.has_geometry;
  }

  pub holds_of_standing : HoldsCounted st.geometry (recovered size image) t free
  holds_of_standing = record { holds = st.holds; tree_is = subst (λ (r : Room). IsTree r t) st.room_is st.tree_is; free_is = st.free_is }

-- What means the same in sectors that are in use stands for the same.
stands_used : (size : ℕ) (from image : Image) → MeansUsed size from image → (room : Room) (t : Tree) (free : ℕ) → Stands size (sector from) room t free
    → Stands size (sector image) room t free
stands_used size from image means room t free st =
    let p = st.geometry in
    let old = recovered size (sector from) in
    let new = recovered size (sector image) in
    let was : old 0 ≡ sector from 0 = recovered-super size (sector from) in
    let layout : HasLayout old p = record {
      super = st.super;
      is = was ∙ st.super_is;
      fits = st.super_fits;
      has = subst (λ (n : ℕ). geometry_in st.super.version st.super.header n st.super.inodes ≡ Some p) (sym st.same_size) st.has_geometry;
    } in
    let geometry = st.holds.consistent.geometry in
    let log = log_there st.super (old 0) size st.super_fits (was ∙ st.super_is) st.has_geometry in
    let agrees : Agrees p old new = used_agrees geometry (omega (arith, log)) layout means.reads in
    let super : new 0 ≡ old 0 = means.reads 0 (inl refl) (λ spare.
    let free_there = subst (λ (q : Geometry). IsFree q old 0) (one_layout spare.1 layout) spare.2 in
    let m = after_map geometry in let d = before_data geometry in omega (arith, free_there.0, m, d)) in
    record {
      super = st.super;
      geometry = p;
      super_is = sym (recovered-super size (sector image)) ∙ super ∙ was ∙ st.super_is;
      super_fits = st.super_fits;
      same_size = st.same_size;
      has_geometry = st.has_geometry;
      commit_is = means.commit.0 st.commit_is;
      room_is = st.room_is;
      holds = agreed p old new (placed t) st.holds agrees;
      tree_is = st.tree_is;
      free_is = st.free_is ∙ sym (agree_free_sectors st.holds.consistent agrees);
    }

pub stands_as : (size : ℕ) (from image : Image) → length from ≡ size → MeansUsed size from image → StandsAs from image
stands_as size from image whole means = λ room t free stands.
    subst (λ n. Stands n (sector image) room t free) (sym means.whole)
    (stands_used size from image means room t free (subst (λ n. Stands n (sector from) room t free) whole stands))

-- ---- from the store's clauses to those of the file system

-- Each image that a stop may leave reads as the map, so it stands for the tree.
pub each_stands : (p : Geometry) (map : SectorMap) (t : Tree) (free : ℕ) (disk : DiskState) → IsDiskOf disk.size p map → HoldsCounted p map t free
    → EachReadsAs map disk → EachStandsFor (room_of p) disk t
each_stands p map t free disk is h each = λ image left. (free, stands_for disk.size p map t free image is h (each image left))

-- A stop leaves what means as before, or reads as the map before or after.
pub found_of_one : (p : Geometry) (before after : SectorMap) (s : State) (added : Tree) (free : ℕ) (old : DiskState)
    → s.room ≡ room_of p → IsFalse s.halted
    → IsDiskOf old.size p before → HoldsCounted p before s.tree s.free → IsDiskOf old.size p after → HoldsCounted p after added free
    → (image : Image) → IsOneOf old before after image → IsFound old s added image
found_of_one p before after s added free old room up disk h disk' h' image (inl (from, is, means)) =
    inl (from, is, stands_as old.size from image is.size means)
found_of_one p before after s added free old room up disk h disk' h' image (inr (inl reads)) =
    inr (inl (up, (s.free, subst (λ (r : Room). StandsFor r image s.tree s.free) (sym room) (stands_for old.size p before s.tree s.free image disk h reads))))
found_of_one p before after s added free old room up disk h disk' h' image (inr (inr reads)) =
    inr (inr (free, subst (λ (r : Room). StandsFor r image added free) (sym room) (stands_for old.size p after added free image disk' h' reads)))

pub leaves_found : (p : Geometry) (before after : SectorMap) (s : State) (added : Tree) (free : ℕ) (old new : DiskState)
    → s.room ≡ room_of p → IsFalse s.halted
    → IsDiskOf old.size p before → HoldsCounted p before s.tree s.free → IsDiskOf old.size p after → HoldsCounted p after added free
    → LeavesOneOf before after old new → LeavesOnly old new (IsFound old s added)
leaves_found p before after s added free old new room up disk h disk' h' run =
    weaker (found_of_one p before after s added free old room up disk h disk' h') run.any_moment

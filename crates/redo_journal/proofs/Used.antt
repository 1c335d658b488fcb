-- Maps that agree where sectors are in use.
use Rattle.std.proofs.Common.{◌≡◌, inl, inr, ⊎_elim, ℕ, suc, ◌+◌, ◌/◌, ◌%◌, ◌≤◌, ◌<◌, ◌^◌, List, [], ◌∷◌, eqb, get_or, arith, refl, sym, ◌∙◌, ap, subst}
use Rattle.std.proofs.lemmas.Bool.{cond-false, ne_eqb, true≢false}
use Rattle.std.proofs.lemmas.Option.{same_Some}
use Rattle.std.specs.Int.{bit_at}
use Rattle.std.specs.Prelude.{Contains, nat_eq}
use Rattle.fs_layout.specs.declared.geometry.Geometry.{Geometry}
use Rattle.fs_layout.specs.declared.superblock.Super.{Super}
use Rattle.fs_layout.specs.Bytes.{SectorMap}
use Rattle.fs_layout.specs.Header.{header_of, log_end}
use Rattle.fs_layout.specs.Geometry.{IsGeometry, geometry_in}
use Rattle.fs_layout.specs.declared.geometry.TheConstants.{SECTOR_BITS}
use Rattle.fs_layout.specs.Images.{bit}
use Rattle.fs_layout.specs.InodeChanges.{IsFree}
use Rattle.fs_layout.specs.Ownership.{Agrees}
use Rattle.fs_layout.specs.Commit.{IsCommit}
use Rattle.fs_layout.specs.Superblock.{super_of}
use Rattle.fs_layout.proofs.Codecs.{same_ok}
use Rattle.fs_layout.proofs.Places.{after_map, before_data, is_a_geometry}
use Rattle.fs_layout.proofs.RecoveryLaw.{contains_at, log_there, low_no_target}
use Rattle.fs_layout.proofs.SuperLaw.{super_codec}
use Rattle.fs_layout.proofs.Targets.{same_targets}
use Rattle.sector_disk.specs.Disk.{DiskState, Image, LeavesOnly, sector}
use Rattle.sector_disk.proofs.Moments.{joined, weaker}
use Rattle.redo_journal.specs.Batch.{Entry, IsOnDisk, targets, with_batch}
use Rattle.redo_journal.specs.Meaning.{HasLayout, HasValidCommit, IsMapped, IsSpare, SameMap, SameUsed, ReadsAs, ReadsBut, MeansAs, MeansUsed, LeavesAllOrNone, LeavesSameMap, LeavesUsedOr, data_of}
use Rattle.redo_journal.specs.States.{IsAtRest, IsIdle, StandsIn}
use Rattle.redo_journal.proofs.Meaning.{batch_same, commit_stays_low, either_on, header_on, mapped_by, reads_same, same_chain, super_on_disk}

-- a map has one layout
one_super : {map : SectorMap} {p q : Geometry} (a : HasLayout map p) (b : HasLayout map q) → a.super ≡ b.super
one_super {map} {p} {q} a b = same_ok a.super b.super (super_of (map 0)) (ap super_of a.is ∙ super_codec.again a.super a.fits) (ap super_of b.is ∙ super_codec.again b.super b.fits)

pub one_layout : {map : SectorMap} {p q : Geometry} → HasLayout map p → HasLayout map q → p ≡ q
one_layout {map} {p} {q} a b =
    same_Some p q (sym a.has ∙ ap (λ (v : Super). geometry_in v.version v.header v.sectors v.inodes) (one_super a b) ∙ b.has)

-- where a layout lies on a disk: its bitmap is of the map, and whole before its data
pub bitmap_there : (map : SectorMap) (p : Geometry) (size n : ℕ) → HasLayout map p → p.sectors ≤ size → n < p.sectors
    → IsMapped (header_of (map 0)) (p.block_bitmap + n / SECTOR_BITS) × (p.block_bitmap + n / SECTOR_BITS < size)
bitmap_there map p size n layout fits below =
    let geometry = is_a_geometry layout.super.version layout.super.header layout.super.sectors layout.super.inodes layout.has in
    let log = log_there layout.super (map 0) layout.super.sectors layout.fits layout.is layout.has in
    let m = after_map geometry in
    let d = before_data geometry in
    let bits = geometry.bits in
    let least = geometry.data_sectors in
    (inr (omega (arith, log, m)), omega (arith, fits, below, m, d, bits, least))

-- a bit of a bitmap, by the sector that has it
pub bit_by : (map : SectorMap) (start n : ℕ) (content : List ℕ) → content ≡ map (start + n / SECTOR_BITS) → nat_eq (bit_at (get_or content (n % SECTOR_BITS / 8) 0) (n % 8)) 1 ≡ bit map start n
unfolding bit
bit_by map start n content is = ap (λ (s : List ℕ). nat_eq (bit_at (get_or s (n % SECTOR_BITS / 8) 0) (n % 8)) 1) is

-- what differs in free sectors alone agrees where the image says something
pub used_agrees : {p : Geometry} {old new : SectorMap} → IsGeometry p → log_end (header_of (old 0)) ≤ p.inode_bitmap → HasLayout old p → SameUsed new old → Agrees p old new
used_agrees {p} {old} {new} geometry log layout same = record {
  tables = λ s past low. same s (inr (omega (arith, log, past))) (λ spare. let free = free_here s spare in omega (arith, free.0, low));
  used = λ s at set. same s (inr (let m = after_map geometry in let t = before_data geometry in omega (arith, log, at.0, m, t)))
      (λ spare. let free = free_here s spare in true≢false (sym set ∙ free.2));
}
  where
    free_here : (s : ℕ) → IsSpare old s → IsFree p old s
    free_here s spare = subst (λ (q : Geometry). IsFree q old s) (one_layout spare.1 layout) spare.2

-- maps that are the same agree there
pub same_used : {left right : SectorMap} → SameMap left right → SameUsed left right
same_used same n part used = same n part

pub means_used : {size : ℕ} {from image : Image} → MeansAs size from image → MeansUsed size from image
means_used means = record { whole = means.whole; commit = means.commit; reads = same_used means.reads }

-- an image that reads as a disk does, but for sectors that are free there, means what the disk shows in those that are in use
pub but_means : {F : ℕ → Type 0} (disk : DiskState) {image : Image} → HasValidCommit disk.size disk.seen → ((n : ℕ) → F n → IsSpare (data_of disk) n)
    → ReadsBut F disk.size (data_of disk) image → MeansUsed disk.size disk.seen image
but_means disk valid spare reads = record {
  whole = reads.whole;
  commit = (λ _. reads.commit, λ _. valid);
  reads = λ n part used. reads.reads n part (λ f. used (spare n f));
}

-- ---- the commit that stands
pub stands_in : (disk : DiskState) (ts : List ℕ) → disk.size < 2 ^ 32 → IsCommit disk.size (sector disk.seen) ts → StandsIn ts disk
stands_in disk ts small commit us n other among = subst (λ (l : List ℕ). Contains l n) (same_targets disk.size (sector disk.seen) us ts small other commit) among

pub idle_stands : (sectors : List ℕ) (disk : DiskState) → IsIdle disk → StandsIn sectors disk
idle_stands sectors disk idle us n other among = let c = stands_in disk [] idle.small idle.commit us n other among in absurd (omega (arith, c.1))

-- with its targets written, the commit still stands
pub targets_stand : (ts : List ℕ) (old new : DiskState) → IsAtRest ts old → new.size ≡ old.size → ((n : ℕ) → (Contains ts n → ⊥) → sector new.seen n ≡ sector old.seen n) → StandsIn ts new
targets_stand ts old new rest size others =
    stands_in new ts (omega (arith, rest.small, size))
    (subst (λ (k : ℕ). IsCommit k (sector new.seen) ts) (sym size)
    (commit_stays_low old.size (sector old.seen) (sector new.seen) ts (λ n low. others n (λ among. low_no_target (header_on old) old.size ts n rest.commit.valid low among)) rest.commit))

-- ---- a commit of two batches, of which the first is in free sectors
-- a map where a batch has no sector
with_batch_other : (entries : List Entry) (f : SectorMap) (n : ℕ) → (Contains (targets entries) n → ⊥) → with_batch entries f n ≡ f n
with_batch_other [] f n none = refl
with_batch_other (e ∷ entries) f n none =
    cond-false (eqb n e.0) e.1 (with_batch entries f n) (ne_eqb n e.0 (λ is. none (contains_at (targets (e ∷ entries)) 0 n (omega arith) (sym is))))
    ∙ with_batch_other entries f n (λ among. none (suc among.0, omega (arith, among.1), among.2))

module _ (placed entries : List Entry) (header : ℕ) (old : DiskState) (valid : HasValidCommit old.size old.seen) (places : IsOnDisk header old.size placed)
    (on_disk : IsOnDisk header old.size entries) (spare : (n : ℕ) → Contains (targets placed) n → IsSpare (data_of old) n) where
  -- once the first is in place, all is as before where sectors were in use
  placed_means : (image : Image) → ReadsAs old.size (with_batch placed (data_of old)) image → MeansUsed old.size old.seen image
  placed_means image reads = record {
    whole = reads.whole;
    commit = (λ _. reads.commit, λ _. valid);
    reads = λ n part used.
        reads.reads n (mapped_by (data_of old) (with_batch placed (data_of old)) n (sym (super_on_disk placed header old.size (data_of old) places)) part)
        ∙ with_batch_other placed (data_of old) n (λ among. used (spare n among));
  }

  -- the batch over what is logged
  pub both_same : (logged : DiskState) → SameMap (data_of logged) (with_batch placed (data_of old))
      → SameMap (with_batch entries (data_of logged)) (with_batch entries (with_batch placed (data_of old)))
  both_same logged same = batch_same entries (data_of logged) (with_batch placed (data_of old)) (super_on_disk entries header old.size (with_batch placed (data_of old)) on_disk) same

  pub both_left : (logged new : DiskState) → logged.size ≡ old.size → SameMap (data_of logged) (with_batch placed (data_of old))
      → LeavesOnly old logged (MeansUsed old.size old.seen) → LeavesAllOrNone entries logged new → LeavesUsedOr (with_batch entries (with_batch placed (data_of old))) old new
  both_left logged new size same first second =
      joined (weaker (λ image means. inl means) first)
      (weaker (λ image. ⊎_elim
      (λ before. inl (placed_means image (reads_same old.size logged.size (data_of logged) (with_batch placed (data_of old)) size same image before)))
      (λ after. inr (reads_same old.size logged.size (with_batch entries (data_of logged)) (with_batch entries (with_batch placed (data_of old))) size (both_same logged same) image after)))
      second)

  pub both_installed : (sealed new : DiskState) → sealed.size ≡ old.size → SameMap (data_of sealed) (with_batch entries (with_batch placed (data_of old)))
      → LeavesUsedOr (with_batch entries (with_batch placed (data_of old))) old sealed → LeavesSameMap sealed new
      → LeavesUsedOr (with_batch entries (with_batch placed (data_of old))) old new
  both_installed sealed new size same first second =
      joined first (weaker (λ image reads. inr (reads_same old.size sealed.size (data_of sealed) (with_batch entries (with_batch placed (data_of old))) size same image reads)) second)

-- with an empty first batch each image reads as before, or with the whole second one
module _ (entries : List Entry) (header : ℕ) (old logged sealed : DiskState) (on_disk : IsOnDisk header old.size entries) (size : logged.size ≡ old.size)
    (same : SameMap (data_of logged) (data_of old)) (first : LeavesSameMap old logged) (second : LeavesAllOrNone entries logged sealed) where
  pub logged_left : LeavesAllOrNone entries old sealed
  logged_left = joined (weaker (λ image reads. inl reads) first) (weaker (either_on entries header old logged on_disk size same) second)

  pub logged_installed : (new : DiskState) → sealed.size ≡ logged.size → SameMap (data_of sealed) (with_batch entries (data_of logged)) → LeavesSameMap sealed new → LeavesAllOrNone entries old new
  logged_installed new size' changed third =
      let after = with_batch entries (data_of old) in
      let both = same_chain (data_of sealed) (with_batch entries (data_of logged)) after changed (batch_same entries (data_of logged) (data_of old) (super_on_disk entries header old.size (data_of old) on_disk) same) in
      joined logged_left (weaker (λ image reads. inr (reads_same old.size sealed.size (data_of sealed) after (size' ∙ size) both image reads)) third)

-- What stands on a disk while it is upgraded, and then.
use Rattle.std.proofs.Common.{◌≡◌, ◌≢◌, ℕ, ◌<◌, ◌≤◌, List, [], length, refl, sym, ap, subst, ◌∙◌, arith, inl, inr, Result, Ok, Err, set, get_or-set_same, get_or-set_other}
use Rattle.std.proofs.lemmas.Bool.{cases_eq}
use Rattle.std.proofs.lemmas.List.{ext_get_or, length-set}
use Rattle.std.specs.Prelude.{OnOk, IfErr, IsErrAnd}
use Rattle.sector_disk.specs.Disk.{DiskState, Image, sector, IsImage, IsImageOr, IsNarrowed, IsSame, IsStable, IsWrite, Elapses, LeavesOnly, OnlyReads, HasFailed}
use Rattle.sector_disk.proofs.Moments.{goes_on, joined, narrowed, one_call, reads_then, stable_image, stays, stays_or, weaker}
use Rattle.fs_layout.specs.declared.superblock.Super.{Super}
use Rattle.fs_layout.specs.declared.version.Version.{Version}
use Rattle.fs_layout.specs.declared.version.Version.TheVariants.{One, Two, Three}
use Rattle.fs_layout.specs.Superblock.{numbers_end, super_bytes, super_of, with_version, FitsSuper}
use Rattle.fs_layout.proofs.Codecs.{same_spelling}
use Rattle.fs_layout.proofs.SuperLaw.{super_codec}
use Rattle.fs_layout.specs.Version.{max_file_size, slot_size}
use Rattle.fs_model.specs.Stands.{Stands, room_in}
use Rattle.fs_model.proofs.Upgraded.{stands_in_version}
use Rattle.fs_images.specs.Standing.{StandsFor, StandsForSome, StandsAs}
use Rattle.fs_images.specs.Upgrading.{raised, IsSuperOf, SaysVersion, StandsRaised, IsHalfUpgraded, IsUpgraded, SyncsAlone, IsUpgradeFault, IsNotUpgraded}
use Rattle.fs_images.proofs.Causes.{on_err}
use Rattle.fs_model.specs.Rules.{IsFinding}
use Rattle.fs_check.specs.declared.faults.CheckFault.{CheckFault}
use Rattle.fs_check.specs.declared.faults.CheckFault.TheVariants as checks
use Rattle.fs_check.specs.Checks.{IsFirst, Passed}
use Rattle.fs_images.specs.declared.faults.UpgradeFault.{UpgradeFault}
use Rattle.fs_images.specs.declared.faults.UpgradeFault.TheVariants.{DiskFault}

-- an upgrade leaves any version but the first
pub kept_version : (version : Version) → version ≢ One → version ≡ raised version
kept_version One other = absurd (other refl)
kept_version Two other = refl
kept_version Three other = refl

-- ---- a superblock says one version

one_super : (image : Image) (v w : Super) → IsSuperOf image v → IsSuperOf image w → v ≡ w
one_super image v w one other = same_spelling 512 FitsSuper super_bytes super_of super_codec v w one.fits other.fits (sym one.is ∙ other.is)

-- ---- one image

-- after an upgrade a file may be as large as before, or larger
larger : (version : Version) → max_file_size version ≤ max_file_size (raised version)
larger One = omega arith
larger Two = omega arith
larger Three = omega arith

-- the superblock has as many numbers
same_end : (version : Version) → numbers_end version ≡ numbers_end (raised version)
same_end One = refl
same_end Two = refl
same_end Three = refl

-- and slots are of the same size
same_slots : (version : Version) → slot_size version ≡ slot_size (raised version)
same_slots One = refl
same_slots Two = refl
same_slots Three = refl

-- with the superblock of the new version
raised_stands : (from image : Image) (super : Super) → IsSuperOf from super → length image ≡ length from
    → sector image 0 ≡ super_bytes (with_version (raised super.version) super) → ((n : ℕ) → 1 ≤ n → sector image n ≡ sector from n)
    → StandsRaised from image
raised_stands from image super is size says others = λ room t free stands.
    let same : super ≡ stands.super = one_super from super stands.super is (record { is = stands.super_is; fits = stands.super_fits }) in
    subst (λ (v : Super). StandsFor (room_in (raised v.version) room) image t free) same
    (subst (λ (k : ℕ). Stands k (sector image) (room_in (raised super.version) room) t free) (sym size)
    (stands_in_version (raised super.version) (length from) (sector from) (sector image) super room t free stands (record {
      was = is.is;
      fits = is.fits;
      says = says;
      larger = larger super.version;
      slots = same_slots super.version;
      others = λ n some below. others n some;
    })))

-- the disk has that version already
same_super : (super : Super) → super.version ≡ raised super.version → super ≡ with_version (raised super.version) super
same_super super is = ap (λ (v : Version). with_version v super) is

stands_already : (image : Image) (super : Super) → IsSuperOf image super → super.version ≡ raised super.version → StandsRaised image image
stands_already image super is same = raised_stands image image super is refl (is.is ∙ ap super_bytes (same_super super same)) (λ n some. refl)

same_stands_as : (from image : Image) → image ≡ from → StandsAs from image
same_stands_as from image same = λ room t free stands. subst (λ (i : Image). StandsFor room i t free) (sym same) stands

-- the numbers fit their fields in the new version too
raised_fits : (super : Super) → FitsSuper super → FitsSuper (with_version (raised super.version) super)
raised_fits super fits = record {
  sectors = fits.sectors;
  inodes = fits.inodes;
  header = fits.header;
  no_header = λ e. fits.no_header (same_end super.version ∙ e);
}

-- ---- while the superblock is written

pub half_written : (old : DiskState) (super : Super) (content : List ℕ) → IsStable old → IsImage old old.seen → 0 < old.size → IsSuperOf old.seen super
    → content ≡ super_bytes (with_version (raised super.version) super) → (image : Image) → IsImageOr (IsWrite 0 content) old image
    → IsHalfUpgraded old image
half_written old super content stable seen room is_super says image is = elim (stays_or stable is 0 room) [
  | inl was ↦ (old.seen, seen, inl (same_stands_as old.seen image (same was)))
  | inr new ↦ (old.seen, seen, inr (raised_stands old.seen image super is_super (is.size ∙ sym seen.size) (new.1 ∙ says) others))
]
  where
    others : (n : ℕ) → 1 ≤ n → sector image n ≡ sector old.seen n
    others n some = stays stable seen.size is n (λ c write. omega (arith, some, write.0))

    same : sector image 0 ≡ sector old.seen 0 → image ≡ old.seen
    same was =
        ext_get_or [] image old.seen (is.size ∙ sym seen.size) (λ n below. elim (cases_eq n 0) [
          | inl first ↦ ap (sector image) first ∙ was ∙ ap (sector old.seen) (sym first)
          | inr later ↦ others n (omega (arith, later))
        ])

-- once it is
written_upgraded : (old new : DiskState) (super : Super) (content : List ℕ) → StandsForSome old.seen → IsSuperOf old.seen super
    → content ≡ super_bytes (with_version (raised super.version) super) → 0 < length old.seen → IsImage new new.seen
    → new.seen ≡ set old.seen 0 content → IsStable new → IsUpgraded (raised super.version) old new
written_upgraded old new super content some is says room seen put stable = record {
  some = some;
  says = (
    with_version (raised super.version) super,
    record { is = first ∙ says; fits = raised_fits super is.fits },
    refl,
  );
  each = λ image left.
      let same : image ≡ new.seen = stable_image stable seen.size left in
      raised_stands old.seen image super is (ap length same ∙ ap length put ∙ length-set old.seen 0 content)
      (ap (λ (i : Image). sector i 0) same ∙ first ∙ says)
      (λ n later. ap (λ (i : Image). sector i n) same ∙ others n later);
  stable = stable;
  others = others;
}
  where
    first : sector new.seen 0 ≡ content
    first = ap (λ (i : Image). sector i 0) put ∙ get_or-set_same old.seen 0 content [] room

    others : (n : ℕ) → 1 ≤ n → sector new.seen n ≡ sector old.seen n
    others n later = ap (λ (i : Image). sector i n) put ∙ get_or-set_other old.seen 0 n content [] (λ (e : n ≡ 0). omega (arith, later, e))

pub written_upgraded_if : {T E : Type 0} (r : Result T E) (old new : DiskState) (super : Super) (content : List ℕ) → StandsForSome old.seen
    → IsSuperOf old.seen super → content ≡ super_bytes (with_version (raised super.version) super) → 0 < length old.seen → IsImage new new.seen
    → OnOk r (new.seen ≡ set old.seen 0 content) → OnOk r (IsStable new) → OnOk r (IsUpgraded (raised super.version) old new)
written_upgraded_if (Ok done) old new super content some is says room seen put stable = written_upgraded old new super content some is says room seen put stable
written_upgraded_if (Err fault) old new super content some is says room seen put stable = tt

-- where it has the version already
pub synced_upgraded : (old new : DiskState) (super : Super) → StandsForSome old.seen → IsSuperOf old.seen super → super.version ≡ raised super.version
    → new.seen ≡ old.seen → IsImage new new.seen → IsStable new → IsUpgraded super.version old new
synced_upgraded old new super some is same stays seen stable = record {
  some = some;
  says = (super, subst (λ (i : Image). IsSuperOf i super) (sym stays) is, refl);
  each = λ image left.
      let now : image ≡ old.seen = stable_image stable seen.size left ∙ stays in
      subst (λ (i : Image). StandsRaised old.seen i) (sym now) (stands_already old.seen super is same);
  stable = stable;
  others = λ n later. ap (λ (i : Image). sector i n) stays;
}

-- ---- at any moment

-- an image of before
pub as_it_was : (old : DiskState) (image : Image) → IsImage old image → IsHalfUpgraded old image
as_it_was old image is = (image, is, inl (λ room t free stands. stands))

-- what a run leaves that begins with fewer images
pub from_narrowed : (old mid : DiskState) → IsNarrowed old mid → (image : Image) → IsHalfUpgraded mid image → IsHalfUpgraded old image
from_narrowed old mid changes image half = (half.0, narrowed changes half.1, half.2)

pub narrowed_joined : {old mid new : DiskState} → IsNarrowed old mid → IsNarrowed mid new → IsNarrowed old new
narrowed_joined first second = record {
  size = second.size ∙ first.size;
  seen = second.seen ∙ first.seen;
  nothing_else = λ n content holds. first.nothing_else n content (second.nothing_else n content holds);
}

-- the run so far leaves an image of before: the superblock is read, and then the disk is synced
pub before_written : (old new : DiskState) → ((image : Image) → old.left_since old.moment image → IsImage old image) → IsNarrowed old new → Elapses old new
    → LeavesOnly old new (IsHalfUpgraded old)
before_written old new only_now changes time = one_call only_now (as_it_was old) time (λ image is. as_it_was old image (narrowed changes is))

-- one more
pub read_and_synced : (old mid new : DiskState) → ((image : Image) → old.left_since old.moment image → IsImage old image) → IsNarrowed old mid → Elapses old mid
    → IsNarrowed mid new → Elapses mid new → LeavesOnly old new (IsHalfUpgraded old)
read_and_synced old mid new only_now first time second later =
    goes_on (before_written old mid only_now first time) later (λ image is. as_it_was old image (narrowed (narrowed_joined first second) is))

-- the superblock is written
pub written_moments : (old new : DiskState) (super : Super) (content : List ℕ) → IsStable old → IsImage old old.seen → 0 < old.size → IsSuperOf old.seen super
    → content ≡ super_bytes (with_version (raised super.version) super) → LeavesOnly old new (IsImageOr (IsWrite 0 content) old) → LeavesOnly old new (IsHalfUpgraded old)
written_moments old new super content stable seen room is says run =
    weaker (λ image may. half_written old super content stable seen room is says image may) run

-- and another run after these
pub raised_after : (old mid synced new : DiskState) → ((image : Image) → old.left_since old.moment image → IsImage old image) → IsNarrowed old mid → Elapses old mid
    → IsNarrowed mid synced → Elapses mid synced → LeavesOnly synced new (IsHalfUpgraded synced) → LeavesOnly old new (IsHalfUpgraded old)
raised_after old mid synced new only_now first time second later run =
    joined (read_and_synced old mid synced only_now first time second later) (weaker (from_narrowed old synced (narrowed_joined first second)) run)

-- nothing is changed where the superblock is read and the sync fails
same_joined : {old mid new : DiskState} → IsSame old mid → IsSame mid new → IsSame old new
same_joined first second = record {
  narrowed = narrowed_joined first.narrowed second.narrowed;
  kept = λ n content holds. second.kept n content (first.kept n content holds);
}

pub not_synced : {T E : Type 0} (old mid new : DiskState) (result : Result T E) → IsSame old mid → IsSame mid new → SyncsAlone old new result
not_synced old mid new result first second = record { narrowed = (same_joined first second).narrowed; failed = on_err result (same_joined first second) }

-- ---- after what changes nothing

pub upgraded_from : (version : Version) (old mid new : DiskState) → mid.seen ≡ old.seen → IsUpgraded version mid new → IsUpgraded version old new
upgraded_from version old mid new same is = record {
  some = subst StandsForSome same is.some;
  says = is.says;
  each = λ image left. subst (λ (i : Image). StandsRaised i image) same (is.each image left);
  stable = is.stable;
  others = λ n later. is.others n later ∙ ap (λ (i : Image). sector i n) same;
}

-- ---- after a check, which only reads

module _ (old mid : DiskState) (reads : OnlyReads old mid) where
  pub check_then : (new : DiskState) → ((image : Image) → old.left_since old.moment image → IsImage old image) → LeavesOnly mid new (IsHalfUpgraded mid)
      → LeavesOnly old new (IsHalfUpgraded old)
  check_then new only_now run =
      reads_then reads (weaker (from_narrowed old mid reads.narrowed) run) (λ image left. as_it_was old image (only_now image left))

  pub then_upgraded : (version : Version) (new : DiskState) → IsUpgraded version mid new → IsUpgraded version old new
  then_upgraded version new = upgraded_from version old mid new reads.narrowed.seen

  pub then_narrowed : {T E : Type 0} (new : DiskState) (result : Result T E) → ((SaysVersion One mid.seen → ⊥) → SyncsAlone mid new result)
      → (SaysVersion One old.seen → ⊥) → IsNarrowed old new
  then_narrowed new result alone other =
      narrowed_joined reads.narrowed (alone (λ says. other (subst (SaysVersion One) reads.narrowed.seen says))).narrowed

-- ---- faults

if_err : {T E : Type 0} {P Q : E → Type 0} (r : Result T E) → IsErrAnd r P → ((e : E) → P e → Q e) → IfErr r Q
if_err (Ok x) told f = tt
if_err (Err e) told f = f e told

-- the device failed
pub device_failed : {T : Type 0} (old new : DiskState) (r : Result T UpgradeFault) → IsErrAnd r (λ fault. fault ≡ DiskFault) → HasFailed old new
    → IfErr r (IsNotUpgraded old new)
device_failed old new r told failed = if_err r told (λ fault is. subst (IsNotUpgraded old new) (sym is) failed)

-- a check ended with a fault
pub check_failed : {T U : Type 0} (old new : DiskState) (found : CheckFault) (r : Result U UpgradeFault) → IsErrAnd r (IsUpgradeFault found)
    → Passed {T = T} IsFirst old new (Err found) → IfErr r (IsNotUpgraded old new)
check_failed {T} old new found r told passed = if_err r told (go found passed)
  where
    go : (found : CheckFault) → Passed {T = T} IsFirst old new (Err found) → (fault : UpgradeFault) → IsUpgradeFault found fault → IsNotUpgraded old new fault
    go (checks.Found f) passed fault (inl no_system) =
        subst (IsNotUpgraded old new) (sym no_system.1)
        (f.at, record { finding = subst (λ k. IsFinding old.size (sector old.seen) k f.at) no_system.0 passed.reason; reads = passed.reads })
    go (checks.Found f) passed fault (inr damage) =
        subst (IsNotUpgraded old new) (sym damage.1) (record { finding = passed.reason; reads = passed.reads }, damage.0)
    go checks.DiskFault passed fault is = subst (IsNotUpgraded old new) (sym is) passed.reason
    go checks.OutOfMemory passed fault is = subst (IsNotUpgraded old new) (sym is) passed.reads

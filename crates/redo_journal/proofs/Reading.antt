-- What was read of a commit that is not valid.
use Rattle.std.proofs.Common.{◌≡◌, ℕ, ◌+◌, ◌*◌, ◌/◌, ◌%◌, ◌^◌, ◌<◌, ◌≤◌, List, length, get_or, refl, sym, ap, subst, ◌∙◌, arith}
use Rattle.std.specs.Prelude.{Option, Some, MatchOption}
use Rattle.fs_layout.specs.Bytes.{SectorMap, u32_of}
use Rattle.fs_layout.specs.Commit.{AreTargets, IsCommit, IsSpelled, IsValidCommit, named_start, named_count, named_targets}
use Rattle.fs_layout.specs.Header.{log_end, header_of, max_targets, area_start}
use Rattle.sector_disk.specs.Disk.{Image, sector}
use Rattle.fs_layout.proofs.Targets.{length-named, named_by_numbers, not_valid, word_of}

-- a commit counts more targets than the header has room for
pub too_many : (header size : ℕ) (zero one : List ℕ) (image : SectorMap) → size < 2 ^ 32 → header ≡ header_of zero → zero ≡ image 0 → one ≡ image 1 → max_targets header < u32_of one 4 % 0x8000_0000 → IsValidCommit size image → ⊥
too_many header size zero one image small is at_zero at_one many =
    let same : header ≡ header_of (image 0) = is ∙ ap header_of at_zero in
    let count : u32_of one 4 % 0x8000_0000 ≡ named_count image = ap (λ s. u32_of s 4 % 0x8000_0000) at_one in
    not_valid size image (named_targets image (named_count image)) small refl
    (λ valid bytes. let few : length (named_targets image (named_count image)) ≤ max_targets (header_of (image 0)) = valid.few in omega (arith, few, length-named image (named_count image), same, count, many))

-- the log of a commit lies on the disk, where that is valid
pub log_there : (header size count : ℕ) (zero one : List ℕ) (image : SectorMap) → header ≡ header_of zero → zero ≡ image 0 → one ≡ image 1 → count ≡ u32_of one 4 % 0x8000_0000 → IsValidCommit size image
    → 0 < count → log_end header ≤ size
log_there header size count zero one image is at_zero at_one counts valid some =
    let same : header ≡ header_of (image 0) = is ∙ ap header_of at_zero in
    let counted : named_count image ≡ length valid.targets = (word_of size image valid.targets valid.is).1 in
    let fits : 0 < length valid.targets = omega (arith, some, counts, counted, ap (λ s. u32_of s 4 % 0x8000_0000) at_one) in
    let range = valid.is.valid.in_range 0 0 fits in
    subst (λ (h : ℕ). log_end h ≤ size) (sym same) (omega (arith, range.0, range.1))

-- the targets of a commit are not valid, or its sector is no spelling of them
pub other_targets : (header size from : ℕ) (zero one : List ℕ) (was now : Image) (counted ts : List ℕ) → now ≡ was → size < 2 ^ 32 → header ≡ header_of zero → zero ≡ sector was 0 → one ≡ sector was 1
    → from ≡ area_start header (u32_of one 4 / 0x8000_0000)
    → length counted ≡ u32_of one 4 % 0x8000_0000 → ((i : ℕ) → i < 126 → i < length counted → get_or counted i 0 ≡ u32_of one (8 + 4 * i))
    → length ts ≡ length counted → ((i : ℕ) → i < 126 → get_or ts i 0 ≡ get_or counted i 0)
    → ((k : ℕ) → 126 + k < length counted → u32_of (sector now (from + k / 128)) (4 * (k % 128)) ≡ get_or ts (126 + k) 0)
    → (AreTargets header size ts → IsSpelled header one ts → ⊥) → IsValidCommit size (sector was) → ⊥
other_targets header size from zero one was now counted ts seen small is at_zero at_one starts count first length_is same more_now none =
    let image = sector was in
    let more = subst (λ (l : Image). (k : ℕ) → 126 + k < length counted → u32_of (sector l (from + k / 128)) (4 * (k % 128)) ≡ get_or ts (126 + k) 0) seen more_now in
    let header_is : header ≡ header_of (image 0) = is ∙ ap header_of at_zero in
    not_valid size image ts small
    (named_by_numbers image ts (ap (λ s. u32_of s 4 % 0x8000_0000) (sym at_one) ∙ sym count ∙ sym length_is)
    (λ i low lt. same i low ∙ first i low (omega (arith, lt, length_is)) ∙ ap (λ s. u32_of s (8 + 4 * i)) at_one)
    (λ k lt. sym (ap (λ (at : ℕ). u32_of (image (at + k / 128)) (4 * (k % 128))) (area_start_is header from zero one image is at_zero at_one starts)) ∙ more k (omega (arith, lt, length_is))))
    (λ valid said. none (subst (λ h. AreTargets h size ts) (sym header_is) valid) (subst (λ h. IsSpelled h one ts) (sym header_is) (subst (λ s. IsSpelled (header_of (image 0)) s ts) (sym at_one) said)))
  where
    area_start_is : (header from : ℕ) (zero one : List ℕ) (image : SectorMap) → header ≡ header_of zero → zero ≡ image 0 → one ≡ image 1 → from ≡ area_start header (u32_of one 4 / 0x8000_0000) → from ≡ named_start image
    area_start_is header from zero one image is at_zero at_one starts = starts ∙ (λ j. area_start ((is ∙ ap header_of at_zero) j) (u32_of (at_one j) 4 / 0x8000_0000))

-- the commit is valid
pub found_commit : (header size from : ℕ) (zero one : List ℕ) (was now : Image) (counted ts : List ℕ) → now ≡ was → header ≡ header_of zero → zero ≡ sector was 0 → one ≡ sector was 1
    → from ≡ area_start header (u32_of one 4 / 0x8000_0000) → length ts ≡ length counted
    → ((k : ℕ) → 126 + k < length counted → u32_of (sector now (from + k / 128)) (4 * (k % 128)) ≡ get_or ts (126 + k) 0)
    → AreTargets header size ts → IsSpelled header one ts → IsCommit size (sector was) ts
found_commit header size from zero one was now counted ts seen is at_zero at_one starts length_is more_now valid said =
    let image = sector was in
    let more = subst (λ (l : Image). (k : ℕ) → 126 + k < length counted → u32_of (sector l (from + k / 128)) (4 * (k % 128)) ≡ get_or ts (126 + k) 0) seen more_now in
    let header_is : header ≡ header_of (image 0) = is ∙ ap header_of at_zero in
    let start : from ≡ named_start image = starts ∙ (λ j. area_start (header_is j) (u32_of (at_one j) 4 / 0x8000_0000)) in
    let here : IsSpelled (header_of (image 0)) (image 1) ts = subst (λ s. IsSpelled (header_of (image 0)) s ts) at_one (subst (λ h. IsSpelled h one ts) header_is said) in
    record {
      bytes = here.1;
      area = here.0;
      more = λ k lt. sym (ap (λ (at : ℕ). u32_of (image (at + k / 128)) (4 * (k % 128))) start) ∙ more k (omega (arith, lt, length_is));
      valid = subst (λ h. AreTargets h size ts) header_is valid;
    }

-- a commit that was found is valid
pub found_valid : (found : Option (List ℕ)) (ts : List ℕ) (size : ℕ) (image : SectorMap) → found ≡ Some ts → MatchOption found (IsValidCommit size image → ⊥) (λ ts. IsCommit size image ts) → IsValidCommit size image
found_valid found ts size image is commit = record { targets = ts; is = subst (λ o. MatchOption o (IsValidCommit size image → ⊥) (λ ts. IsCommit size image ts)) is commit }

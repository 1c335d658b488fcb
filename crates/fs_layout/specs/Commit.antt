-- The commit: its bytes in sector 1 and in the header, what they are read as, and which commit is valid on a disk.
use Rattle.std.specs.Prelude.{ℕ, ◌+◌, ◌-◌, ◌*◌, ◌/◌, ◌%◌, ◌<◌, ◌≤◌, ◌^◌, ◌≡◌, ◌≢◌, ◌++◌, List, [], ◌∷◌, length, take, drop, map, get_or, Result, Ok, Err, Bool, true, nat_eq, nat_lt, nat_le, not, if◌then◌else◌, ◌&&◌, All, AllPairs}
use Rattle.std.specs.List.{list_all, list_any, range_with_len}
use Rattle.std.specs.Str.{bytes_eq}
use Rattle.fs_layout.specs.declared.fault.LayoutFault.{LayoutFault}
use Rattle.fs_layout.specs.declared.fault.LayoutFault.TheVariants.{BadMagic, BadNumber, NotZero}
use Rattle.fs_layout.specs.declared.commit.TheConstants.{MAX_TARGETS, HEADER_TARGETS}
use Rattle.fs_layout.specs.declared.geometry.TheConstants.{COMMIT_SECTOR}
use Rattle.fs_layout.specs.Bytes.{SectorMap, le32, le32s, zeros, u32_of, u32s_of, are_zero}
use Rattle.fs_layout.specs.Header.{area_start, header_of, log_end, max_targets}

-- the bytes 49 4e 4f 4a
abbrev pub commit_magic : ℕ
commit_magic = 0x4a4f_4e49

-- magic, how many targets, the first of them, zeros; the others stand in the header, and without targets the commit is idle
abbrev pub commit_bytes : List ℕ → List ℕ
commit_bytes targets = le32 commit_magic ++ (le32 (length targets) ++ (le32s (take MAX_TARGETS targets) ++ zeros (504 - 4 * length targets)))

-- the bytes of a commit whose contents stand in this log area: the highest bit of the number says in which
abbrev pub commit_bytes_in : ℕ → List ℕ → List ℕ
commit_bytes_in area targets =
    le32 commit_magic ++ (le32 (length targets + 0x8000_0000 * area) ++ (le32s (take MAX_TARGETS targets) ++ zeros (504 - 4 * length targets)))

-- the log area that the content of a commit sector names, and how many targets it counts
abbrev pub area_in : List ℕ → ℕ
area_in content = u32_of content 4 / 0x8000_0000

abbrev pub count_in : List ℕ → ℕ
count_in content = u32_of content 4 % 0x8000_0000

-- and those of an image
abbrev pub named_area : SectorMap → ℕ
named_area image = area_in (image COMMIT_SECTOR)

abbrev pub named_count : SectorMap → ℕ
named_count image = count_in (image COMMIT_SECTOR)

-- the first sector of that area
abbrev pub named_start : SectorMap → ℕ
named_start image = area_start (header_of (image 0)) (named_area image)

-- a commit with these targets may name this area: the second one only where there is one, and only with targets
pub record IsArea (header area : ℕ) (targets : List ℕ) : Type 0 where
  pub one : area ≤ 1
  pub there : area ≤ header
  pub some : area ≤ length targets

-- `IsArea` as a test
abbrev pub is_area : ℕ → ℕ → List ℕ → Bool
is_area header area targets = nat_le area 1 && (nat_le area header && nat_le area (length targets))

-- the targets have room in the commit sector, and each fits its field
pub record FitsCommit (targets : List ℕ) : Type 0 where
  pub few : length targets ≤ MAX_TARGETS
  pub numbers : (i : ℕ) → get_or targets i 0 < 2 ^ 32

-- the targets that 512 bytes name without a header, or the first fault
unfoldable pub commit_of : List ℕ → Result (List ℕ) LayoutFault
commit_of s =
    if nat_eq (u32_of s 0) commit_magic then
    (if nat_lt MAX_TARGETS (u32_of s 4) then Err BadNumber else
    (if are_zero (drop (8 + 4 * u32_of s 4) s) then Ok (u32s_of s 8 (u32_of s 4)) else Err NotZero))
    else Err BadMagic

-- no number stands twice
abbrev pub AreDistinct : List ℕ → Type 0
AreDistinct targets = AllPairs (λ a b. a ≢ b) targets

-- on a disk of so many sectors, so many of them header sectors, a commit may have these targets
pub record AreTargets (header size : ℕ) (targets : List ℕ) : Type 0 where
  pub few : length targets ≤ max_targets header
  pub in_range : All (λ t. (log_end header ≤ t) × (t < size)) targets
  pub apart : AreDistinct targets

-- the k-th number of the header
abbrev pub header_number : SectorMap → ℕ → ℕ
header_number image k = u32_of (image (named_start image + k / HEADER_TARGETS)) (4 * (k % HEADER_TARGETS))

-- the image of a disk of so many sectors has a commit with these targets: idle without any, and otherwise sealed
pub record IsCommit (size : ℕ) (image : SectorMap) (targets : List ℕ) : Type 0 where
  pub bytes : image COMMIT_SECTOR ≡ commit_bytes_in (named_area image) targets
  pub area : IsArea (header_of (image 0)) (named_area image) targets
  pub more : (k : ℕ) → MAX_TARGETS + k < length targets → header_number image k ≡ get_or targets (MAX_TARGETS + k) 0
  pub valid : AreTargets (header_of (image 0)) size targets

-- the image of a disk of so many sectors has a valid commit
pub record IsValidCommit (size : ℕ) (image : SectorMap) : Type 0 where
  pub targets : List ℕ
  pub is : IsCommit size image targets

-- `AreDistinct` as a test
abbrev pub are_apart : List ℕ → Bool
are_apart [] = true
are_apart (t ∷ ts) = not (list_any (nat_eq t) ts) && are_apart ts

-- `AreTargets` as a test
unfoldable pub are_targets : ℕ → ℕ → List ℕ → Bool
are_targets header size targets =
    (nat_le (length targets) (max_targets header) && list_all (λ t. nat_le (log_end header) t && nat_lt t size) targets) && are_apart targets

-- a commit sector with this content has these targets, and names an area in which they may be, with so many header sectors
abbrev pub IsSpelled : ℕ → List ℕ → List ℕ → Type 0
IsSpelled header content targets = IsArea header (area_in content) targets × (content ≡ commit_bytes_in (area_in content) targets)

-- `IsSpelled` as a test
abbrev pub is_spelled : ℕ → List ℕ → List ℕ → Bool
is_spelled header content targets = is_area header (area_in content) targets && bytes_eq content (commit_bytes_in (area_in content) targets)

-- the i-th target that an image names, and the first n of them, valid or not
abbrev pub target_number : SectorMap → ℕ → ℕ
target_number image i = if nat_lt i MAX_TARGETS then u32_of (image COMMIT_SECTOR) (8 + 4 * i) else header_number image (i - MAX_TARGETS)

abbrev pub named_targets : SectorMap → ℕ → List ℕ
named_targets image n = map (target_number image) (range_with_len 0 n)

abbrev pub targets_if : ℕ → SectorMap → List ℕ → List ℕ
targets_if size image targets =
    if are_targets (header_of (image 0)) size targets && is_spelled (header_of (image 0)) (image COMMIT_SECTOR) targets then targets else []

-- the targets of an image's commit: none where it is idle, and none where it is not valid
unfoldable pub targets_in : ℕ → SectorMap → List ℕ
targets_in size image = targets_if size image (named_targets image (named_count image))

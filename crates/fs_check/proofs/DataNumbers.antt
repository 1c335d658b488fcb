-- The numbers of a level: by which content they are known, and whether they are in the data area.
use Rattle.std.specs.Prelude.{◌≡◌, ◌≢◌, ◌⊎◌, ℕ, suc, ◌+◌, ◌-◌, ◌*◌, ◌<◌, ◌≤◌, List, get_or, replicate}
use Rattle.std.proofs.Common.{sym, ap, arith, ◌∙◌, subst, inl, inr}
use Rattle.std.proofs.lemmas.Bool.{cases_eq, cases_lt}
use Rattle.std.proofs.lemmas.List.{get_or-replicate, get_or_past, length-replicate}
use Rattle.fs_layout.specs.declared.inode.Inode.{Inode}
use Rattle.fs_layout.specs.declared.inode.TheConstants.{POINTER_LEVELS, SECTOR_POINTERS}
use Rattle.fs_layout.specs.declared.geometry.Geometry.{Geometry}
use Rattle.fs_layout.specs.Bytes.{SectorMap}
use Rattle.fs_layout.specs.Images.{pointer_in, own_count, holder, place_in_holder, number_on, HasPointers, HasPointersAbove, IsData}
use Rattle.fs_layout.proofs.Parts.{owns_on_level}
use Rattle.fs_layout.proofs.Pointers.{number_on_held, no_pointers}
use Rattle.fs_model.specs.Rules.{IsGeometryOf}
use Rattle.fs_check.specs.Owning.{AreListed, HasLevelInData, HasAboveInData, OwnsData}
use Rattle.fs_check.proofs.Openings.{many_sectors, geometry_size}

-- ---- the content in which they stand

pub next_level : (level : ℕ) → level + 1 ≡ suc level
next_level level = omega arith

module _ (m : SectorMap) (v : Inode) where
  -- that of a sector of pointers that is there
  pub has_content : (level i s : ℕ) (content : List ℕ) → s ≡ number_on m v level i → s ≢ 0 → content ≡ m s → HasPointers m v level i content
  has_content level i s content is some read = record { is = λ there. read ∙ ap m is; none = λ gone. absurd (some (is ∙ gone)) }

  -- number i of a level stands in one of the next
  pub has_above : (level i s : ℕ) (content : List ℕ) → s ≡ number_on m v (level + 1) (holder (own_count level) i) → s ≢ 0 → content ≡ m s
      → HasPointersAbove m v level i content
  has_above level i s content is some read own =
      subst (λ n. HasPointers m v n (holder (own_count level) i) content) (next_level level)
      (has_content (level + 1) (holder (own_count level) i) s content is some read)

  -- the numbers that one sector of pointers lists
  pub are_listed : (level j s : ℕ) (content : List ℕ) → s ≡ number_on m v (level + 1) j → s ≢ 0 → content ≡ m s
      → AreListed m v content level (own_count level + SECTOR_POINTERS * j) (own_count level + SECTOR_POINTERS * (j + 1))
  are_listed level j s content is some read k ge lt own =
      let at : j ≡ holder (own_count level) k = omega (arith, ge, lt) in
      has_above level k s content (is ∙ ap (number_on m v (level + 1)) at) some read own

  -- the numbers that stand in the inode stand in no sector
  pub listed_own : (level first end : ℕ) (content : List ℕ) → end ≤ own_count level → AreListed m v content level first end
  listed_own level first end content few i ge lt own = absurd (omega (arith, few, lt, own))

  -- ---- numbers that are none

  -- number i of a level is none where its sector of pointers isn't there
  pub none_held : (level i : ℕ) → own_count level ≤ i → number_on m v (level + 1) (holder (own_count level) i) ≡ 0 → number_on m v level i ≡ 0
  none_held level i ge none =
      number_on_held m v level i ge
      ∙ ap (λ (s : ℕ). pointer_in m s (place_in_holder (own_count level) i))
      (ap (λ n. number_on m v n (holder (own_count level) i)) (sym (next_level level)) ∙ none)

  -- the numbers that are found by one sector of pointers
  pub none_found : (level j k : ℕ) → number_on m v (level + 1) j ≡ 0 → own_count level + SECTOR_POINTERS * j ≤ k
      → k < own_count level + SECTOR_POINTERS * (j + 1) → number_on m v level k ≡ 0
  none_found level j k none ge lt =
      let at : j ≡ holder (own_count level) k = omega (arith, ge, lt) in
      none_held level k (omega (arith, ge)) (sym (ap (number_on m v (level + 1)) at) ∙ none)

-- ---- in the data area

-- a sector of the data area, or none, is one of the disk
pub number_below : (size : ℕ) (image : SectorMap) (p : Geometry) → IsGeometryOf size image p → (s : ℕ) → (s ≢ 0 → IsData p s) → s < size
number_below size image p at s in_data = elim (cases_eq s 0) [
  | inl none ↦ (let many = many_sectors size image (record { geometry = p; is = at }) in omega (arith, none, many))
  | inr some ↦ (let below = (in_data some).1 in let same = geometry_size size image p at in omega (arith, below, same))
]

-- each number of a level whose sectors are data sectors is one
pub level_below : (size : ℕ) (image : SectorMap) (p : Geometry) (m : SectorMap) (v : Inode) (level i s : ℕ) → IsGeometryOf size image p → HasLevelInData p m v level
    → s ≡ number_on m v level i → s < size
level_below size image p m v level i s at in_data is =
    let below = number_below size image p at (number_on m v level i) (in_data i) in omega (arith, is, below)

-- ---- all that is owned

module _ (p : Geometry) (m : SectorMap) (v : Inode) where
  pub level_owned : OwnsData p m v → (level : ℕ) → HasLevelInData p m v level
  level_owned all level i some = all (number_on m v level i) (owns_on_level m v level i some)

  pub above_owned : OwnsData p m v → (level : ℕ) → HasAboveInData p m v level
  above_owned all level above gt = level_owned all above

-- the highest level that an inode has numbers on is one
pub top_few : (top : ℕ) → (top ≡ 0) ⊎ (top ≡ POINTER_LEVELS) → top ≤ POINTER_LEVELS
top_few top (inl low) = omega (arith, low)
top_few top (inr high) = omega (arith, high)

-- an inode that names no sector of pointers has numbers of blocks alone
pub none_on : (m : SectorMap) (v : Inode) → v.indirect ≡ replicate POINTER_LEVELS 0 → (level i : ℕ) → 0 < level → number_on m v level i ≡ 0
none_on m v is level i some =
    let at : suc (level - 1) ≡ level = omega (arith, some) in
    subst (λ k. number_on m v k i ≡ 0) at (no_pointers m v none (level - 1) i)
  where
    none : (k : ℕ) → get_or v.indirect k 0 ≡ 0
    none k = ap (λ (l : List ℕ). get_or l k 0) is ∙ elim (cases_lt k POINTER_LEVELS) [
      | inl below ↦ get_or-replicate POINTER_LEVELS k 0 0 below
      | inr past ↦ get_or_past (replicate {A = ℕ} POINTER_LEVELS 0) k 0 (omega (arith, past, length-replicate {A = ℕ} POINTER_LEVELS 0))
    ]

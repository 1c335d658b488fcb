-- The numbers of an inode go with its size: which of them have to be looked at.
use Rattle.std.specs.Prelude.{◌≡◌, ◌≢◌, ℕ, zero, suc, ◌+◌, ◌-◌, ◌*◌, ◌/◌, ◌<◌, ◌≤◌, Bool, true, false, List, IsTrue, ◌↔◌}
use Rattle.std.proofs.Common.{sym, ap, arith, ◌∙◌, inl, inr}
use Rattle.std.proofs.lemmas.Bool.{cases_eq, cases_lt}
use Rattle.fs_layout.specs.declared.inode.TheConstants.{POINTER_LEVELS, SECTOR_POINTERS, MAX_FILE_SIZE}
use Rattle.fs_layout.specs.declared.inode.Inode.{Inode}
use Rattle.fs_layout.specs.Bytes.{SectorMap}
use Rattle.fs_layout.specs.Images.{own_count, number_on, first_block, IsTrimmed}
use Rattle.fs_layout.proofs.Pointers.{number_past_above, no_level}
use Rattle.fs_model.specs.Nodes.{numbers_for}
use Rattle.fs_check.specs.LastBlocks.{AreNone, IsCut, FitsSize}
use Rattle.fs_check.specs.Owning.{AreListed}
use Rattle.fs_check.proofs.DataNumbers.{next_level, none_found, are_listed, listed_own}
use Rattle.fs_check.proofs.Tests.{refuses}

-- ---- how many numbers a size needs

-- the numbers from so many on are found by blocks past the size, and no others are
pub needed_if : (level size i : ℕ) → size ≤ 512 * first_block level i → numbers_for level size ≤ i
needed_if zero size i le = omega (arith, le)
needed_if (suc level) size i le = let below = needed_if level size (own_count level + SECTOR_POINTERS * i) le in omega (arith, below)

pub past_needed : (level size i : ℕ) → numbers_for level size ≤ i → size ≤ 512 * first_block level i
past_needed zero size i le = omega (arith, le)
past_needed (suc level) size i le = past_needed level size (own_count level + SECTOR_POINTERS * i) (omega (arith, le))

-- no size needs a level above the highest
pub none_needed : (size : ℕ) → size ≤ MAX_FILE_SIZE → numbers_for (suc POINTER_LEVELS) size ≡ 0
none_needed size most =
    let blocks : numbers_for 0 size ≤ 2113676 = omega (arith, most) in
    let first : numbers_for 1 size ≤ 16513 = few (numbers_for 0 size) 12 16513 blocks in
    let second : numbers_for 2 size ≤ 129 = few (numbers_for 1 size) 1 129 first in
    let third : numbers_for 3 size ≤ 1 = few (numbers_for 2 size) 1 1 second in
    last (numbers_for 3 size) third
  where
    few : (count own end : ℕ) → count ≤ own + 128 * end → (count - own + 127) / 128 ≤ end
    few count own end le = omega (arith, le)

    last : (count : ℕ) → count ≤ 1 → (count - 1 + 127) / 128 ≡ 0
    last count le = omega (arith, le)

-- a level that the size needs is there
pub needed_level : (level size : ℕ) → level ≤ POINTER_LEVELS → size ≤ MAX_FILE_SIZE → numbers_for (level + 1) size ≢ 0 → level + 1 ≤ POINTER_LEVELS
needed_level level size few most some = elim (cases_eq level POINTER_LEVELS) [
  | inl e ↦ absurd (some (ap (λ n. numbers_for n size) (let last : level + 1 ≡ suc POINTER_LEVELS = omega (arith, e) in last) ∙ none_needed size most))
  | inr ne ↦ omega (arith, few, ne)
]

-- the numbers that the size doesn't need begin in the last sector of pointers that it needs
pub needs_last : (level size : ℕ) → numbers_for (suc level) size ≢ 0
    → (own_count level + SECTOR_POINTERS * (numbers_for (suc level) size - 1) ≤ numbers_for level size) × (own_count level ≤ numbers_for level size)
needs_last level size some = (omega (arith, some), omega (arith, some))

-- ---- what there is past the size

module _ (m : SectorMap) (v : Inode) where
  -- where each level is cut, it ends there
  pub cut_ends : ((n : ℕ) → n ≤ POINTER_LEVELS → IsCut m v n) → IsTrimmed m v
  cut_ends cut level i le = on level i (needed_if level v.size i le)
    where
      -- a level ends where it is cut, if the level above does
      below : (n : ℕ) → n ≤ POINTER_LEVELS → ((i : ℕ) → numbers_for (suc n) v.size ≤ i → number_on m v (suc n) i ≡ 0)
          → (i : ℕ) → numbers_for n v.size ≤ i → number_on m v n i ≡ 0
      below n few above i ge = elim (cases_lt i (own_count n + SECTOR_POINTERS * numbers_for (suc n) v.size)) [
        | inl lt ↦ cut n few i ge lt
        | inr past ↦ number_past_above m v n (numbers_for (suc n) v.size) above i past
      ]

      third : (i : ℕ) → numbers_for 3 v.size ≤ i → number_on m v 3 i ≡ 0
      third = below 3 (omega arith) (λ i ge. no_level m v 4 i (omega arith))

      second : (i : ℕ) → numbers_for 2 v.size ≤ i → number_on m v 2 i ≡ 0
      second = below 2 (omega arith) third

      first : (i : ℕ) → numbers_for 1 v.size ≤ i → number_on m v 1 i ≡ 0
      first = below 1 (omega arith) second

      on : (n i : ℕ) → numbers_for n v.size ≤ i → number_on m v n i ≡ 0
      on zero i ge = below 0 (omega arith) first i ge
      on (suc zero) i ge = first i ge
      on (suc (suc zero)) i ge = second i ge
      on (suc (suc (suc zero))) i ge = third i ge
      on (suc (suc (suc (suc n)))) i ge = no_level m v (suc (suc (suc (suc n)))) i (omega arith)

  pub ends_cut : IsTrimmed m v → (level : ℕ) → IsCut m v level
  ends_cut trim level i ge lt = trim level i (past_needed level v.size i ge)

  -- what a test says of the numbers that stand in the inode: no sector of pointers has them
  pub own_none : (level first own : ℕ) (content : List ℕ) (b : Bool) → own ≡ own_count level
      → ((q : SectorMap) → AreListed q v content level first own → IsTrue b ↔ AreNone q v level first own) → IsTrue b ↔ AreNone m v level first own
  own_none level first own content b is test = test m (listed_own m v level first own content (omega (arith, is)))

  -- a level is cut where the inode has no number too many, and the last sector of pointers that the size needs has none
  module _ (level first own above : ℕ) (at : first ≡ numbers_for level v.size) (few : own ≡ own_count level) (next : above ≡ numbers_for (level + 1) v.size) where
    above_is : above ≡ numbers_for (suc level) v.size
    above_is = next ∙ ap (λ n. numbers_for n v.size) (next_level level)

    pub to_cut : AreNone m v level first (own + SECTOR_POINTERS * above) → IsCut m v level
    to_cut none i ge lt = let e = above_is in none i (omega (arith, ge, at)) (omega (arith, lt, few, e))

    pub of_cut : IsCut m v level → AreNone m v level first (own + SECTOR_POINTERS * above)
    of_cut cut i ge lt = let e = above_is in cut i (omega (arith, ge, at)) (omega (arith, lt, few, e))

    pub own_not_cut : (r : Bool) → (IsTrue r ↔ AreNone m v level first own) → r ≡ false → IsTrue false ↔ IsCut m v level
    own_not_cut r test bad = (
      (λ f. absurd (let c : false ≡ true = f in cc)),
      (λ cut. absurd (refuses (AreNone m v level first own) r bad test (λ i ge lt. of_cut cut i ge (omega (arith, lt))))),
    )

    -- no sector of pointers is needed
    pub cut_without : AreNone m v level first own → above ≡ 0 → IsCut m v level
    cut_without none e = to_cut (λ i ge lt. none i ge (omega (arith, lt, e)))

    last_begins : above ≢ 0 → own + SECTOR_POINTERS * (above - 1) ≤ first
    last_begins some =
        let e = above_is in
        let from = (needs_last level v.size (λ none. some (e ∙ none))).0 in
        omega (arith, at, few, e, from)

    -- the last sector of pointers isn't there
    pub cut_at_hole : above ≢ 0 → number_on m v (level + 1) (above - 1) ≡ 0 → IsCut m v level
    cut_at_hole some none = to_cut (λ i ge lt.
        let from = last_begins some in
        none_found m v level (above - 1) i none (omega (arith, few, from, ge)) (omega (arith, few, lt, some)))

    -- the last sector of pointers is there, and the numbers stand in it
    pub last_lists : (s : ℕ) (content : List ℕ) → above ≢ 0 → s ≡ number_on m v (level + 1) (above - 1) → s ≢ 0 → content ≡ m s
        → AreListed m v content level first (own + SECTOR_POINTERS * above)
    last_lists s content more is some read i ge lt held =
        let from = last_begins more in
        are_listed m v level (above - 1) s content is some read i (omega (arith, few, from, ge)) (omega (arith, few, lt, more)) held

  pub not_cut : (level : ℕ) (r : Bool) → (IsTrue r ↔ IsCut m v level) → r ≡ false → IsTrue false ↔ IsTrimmed m v
  not_cut level r test bad = (
    (λ f. absurd (let c : false ≡ true = f in cc)),
    (λ trim. absurd (refuses (IsCut m v level) r bad test (ends_cut trim level))),
  )

  -- ---- numbers that are none, one after the other

  pub one_more_none : (level first i s : ℕ) → s ≡ number_on m v level i → s ≡ 0 → AreNone m v level first i → AreNone m v level first (i + 1)
  one_more_none level first i s is none all j ge lt = elim (cases_lt j i) [
    | inl low ↦ all j ge low
    | inr past ↦ let here : j ≡ i = omega (arith, lt, past) in ap (number_on m v level) here ∙ sym is ∙ none
  ]

  pub some_there : (level first end i s : ℕ) → first ≤ i → i < end → s ≡ number_on m v level i → s ≢ 0 → IsTrue false ↔ AreNone m v level first end
  some_there level first end i s ge lt is some = ((λ f. absurd (let c : false ≡ true = f in cc)), (λ all. absurd (some (is ∙ all i ge lt))))

  -- ---- the whole

  pub not_fit : (P : Type 0) (r : Bool) → (FitsSize m v → P) → (IsTrue r ↔ P) → r ≡ false → IsTrue false ↔ FitsSize m v
  not_fit P r from test bad = (
    (λ f. absurd (let c : false ≡ true = f in cc)),
    (λ fit. absurd (refuses P r bad test (from fit))),
  )

-- How large a new disk is, by the words.
--     units            what may stand behind the digits of a size, and the bytes that one of it is
--     SaysBytes        a text says a number of bytes
--     IsSize           it says a size in range, which is so many sectors
--     usual_inodes     how many inodes a disk has where the words don't say
use Rattle.std.specs.Prelude.{◌≡◌, ◌⊎◌, ◌≤◌, ◌*◌, ◌/◌, ◌++◌, ℕ, List, [], ◌∷◌, codes}
use Rattle.std.specs.Str.Parse.{IsNumeral, digits_value, without_leading_plus}

abbrev pub units : List (List ℕ × ℕ)
units = (codes "K", 1024) ∷ (codes "M", 1024 * 1024) ∷ (codes "G", 1024 * 1024 * 1024) ∷ ([], 1) ∷ []

-- one of the units has this suffix and so many bytes
abbrev pub IsUnitOf : List (List ℕ × ℕ) → List ℕ → ℕ → Type 0
IsUnitOf [] suffix bytes = ⊥
IsUnitOf (unit ∷ others) suffix bytes = ((suffix ≡ unit.0) × (bytes ≡ unit.1)) ⊎ IsUnitOf others suffix bytes

-- the text is digits and a suffix, of a unit of so many bytes
pub record SplitsInto (text digits : List ℕ) (unit : ℕ) : Type 0 where
  pub suffix : List ℕ
  pub splits : text ≡ digits ++ suffix
  pub is_unit : IsUnitOf units suffix unit

-- a text that is split otherwise is no number
abbrev pub IsOnlySplit : List ℕ → List ℕ → ℕ → Type 0
IsOnlySplit text front own = (digits : List ℕ) → (unit : ℕ) → SplitsInto text digits unit → IsNumeral 10 (without_leading_plus digits)
    → (digits ≡ front) × (unit ≡ own)

-- the text is decimal digits, perhaps behind a plus, and a unit's suffix: together they say the number of bytes
pub record SaysBytes (text : List ℕ) (bytes : ℕ) : Type 0 where
  pub digits : List ℕ
  pub unit : ℕ
  pub splits : SplitsInto text digits unit
  pub numeral : IsNumeral 10 (without_leading_plus digits)
  pub counts : bytes ≡ digits_value 10 (without_leading_plus digits) * unit

-- the text says 512K to 8G, and whole sectors of 512 bytes, as many as there are in it
pub record IsSize (text : List ℕ) (sectors : ℕ) : Type 0 where
  pub bytes : ℕ
  pub says : SaysBytes text bytes
  pub least : 512 * 1024 ≤ bytes
  pub most : bytes ≤ 8 * 1024 * 1024 * 1024
  pub whole : sectors ≡ bytes / 512

-- the text says no size in range
abbrev pub IsNoSize : List ℕ → Type 0
IsNoSize text = (sectors : ℕ) → IsSize text sectors → ⊥

-- one for 32 sectors, and a multiple of 4: as many as fill whole sectors
abbrev pub usual_inodes : ℕ → ℕ
usual_inodes sectors = sectors / 32 / 4 * 4

-- How a decimal number starts.
use Rattle.std.specs.Prelude.{◌≡◌, ℕ, ◌<◌, ◌≤◌, List, length, slice_index}

-- with a digit, and not with a zero before other digits
pub record StartsPlainly (name : List ℕ) : Type 0 where
  pub some : 0 < length name
  pub low : 48 ≤ slice_index name 0
  pub high : slice_index name 0 ≤ 57
  pub alone : slice_index name 0 ≡ 48 → length name ≡ 1

-- The next component of a path.
--     component_len        how many bytes come before the first slash
--     IsNext        where it begins and ends
use Rattle.std.specs.Prelude.{◌≡◌, ℕ, ◌-◌, ◌<◌, ◌≤◌, ◌==◌, List, ◌∷◌, length, drop, take}
use Rattle.std.specs.List.{position_or_len}
use Rattle.fs_model.specs.Parts.{slash, components_of}

abbrev pub component_len : List ℕ → ℕ
component_len path = position_or_len (λ b. b == slash) path

-- from `at` on the next component is that from start to end, and then come those behind it
pub record IsNext (path : List ℕ) (at start end : ℕ) : Type 0 where
  pub after : at ≤ start
  pub some : start < end
  pub inside : end ≤ length path
  pub is : components_of (drop at path) ≡ take (end - start) (drop start path) ∷ components_of (drop end path)

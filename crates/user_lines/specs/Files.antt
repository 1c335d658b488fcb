-- The file to which lines are added.
--     line_start        what stands before them where the last line was cut short
--     AddsLines        lines are added
use Rattle.std.specs.Prelude.{◌≡◌, ℕ, Bool, true, false, List, [], ◌∷◌, ◌++◌, codes, Option}
use Rattle.std.specs.Io.KnownBytes.{Appends}
use Rattle.user_lines.specs.declared.file.LineFile.{LineFile}

-- where a part of a line may be all that was written of it, that is ended first
abbrev pub line_start : Bool → List ℕ
line_start true = codes "\n"
line_start false = []

-- what is written so that whole lines are added
abbrev pub whole_lines : Bool → List ℕ → List ℕ
whole_lines is_cut [] = []
whole_lines is_cut (b ∷ bs) = line_start is_cut ++ b ∷ bs

-- whether the last line is cut short then
abbrev pub stays_cut : Bool → List ℕ → Bool
stays_cut is_cut [] = is_cut
stays_cut is_cut (b ∷ bs) = false

pub record AddsLines {W : Type 0} (contents : W → Option (List ℕ)) (old new : LineFile W) (lines : List ℕ) : Type 0 where
  pub written : Appends (contents old.out) (contents new.out) (whole_lines old.is_cut lines)
  pub whole : new.is_cut ≡ stays_cut old.is_cut lines

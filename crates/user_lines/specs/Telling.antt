-- How a line is told.
--     second_at, ending_at        the second that it is of, and what is told of the one before
--     line_at, telling_after        whether it is written, and what that leaves of the second
--     TellsLine        it is written, or counted
use Rattle.std.specs.Prelude.{◌≡◌, ◌==◌, ℕ, if◌then◌else◌, List, [], ◌++◌, Option}
use Rattle.user_lines.specs.Files.{AddsLines}
use Rattle.user_lines.specs.Seconds.{Telling, new_second, has_room_for, with_line, leaving_out, left_out_text}
use Rattle.user_lines.specs.declared.file.LineFile.{LineFile}

-- a line of another second ends this one
abbrev pub second_at : Telling → ℕ → Telling
second_at told number = if told.number == number then told else new_second number

abbrev pub ending_at : Telling → ℕ → List ℕ
ending_at told number = if told.number == number then [] else left_out_text told

abbrev pub line_at : Telling → ℕ → List ℕ → List ℕ
line_at told user line = if has_room_for told user then line else []

abbrev pub telling_after : Telling → ℕ → Telling
telling_after told user = if has_room_for told user then with_line told user else leaving_out told user

-- What the second before has left out is told first. Then the line is written where its second has room for one more of its user, and
-- else it is counted.
pub record TellsLine {W : Type 0} (contents : W → Option (List ℕ)) (old new : LineFile W) (before after : Telling) (number user : ℕ)
    (line : List ℕ) : Type 0 where
  pub written : AddsLines contents old new (ending_at before number ++ line_at (second_at before number) user line)
  pub counted : after ≡ telling_after (second_at before number) user

-- The lines of one second.
--     Telling        which lines there are, and how many were left out
--     has_room_for        whether one more is written
--     with_line, leaving_out        what becomes of it by a line, and by one that is left out
--     left_out_text        how it is told how many were left out
use Rattle.std.specs.Prelude.{ℕ, ◌+◌, ◌-◌, ◌^◌, ◌==◌, min, nat_lt, Bool, ◌&&◌, if◌then◌else◌, List, [], ◌∷◌, ◌++◌, length, count_by, slice_index_or, slice_set, Option, None, Some, codes}
use Rattle.std.specs.List.{flat_map, position}
use Rattle.std.specs.Fmt.{decimal}
use Rattle.user_lines.specs.declared.second.ToldLine.{ToldLine}

-- the second's number; its lines, each by its user, and at a user's first one how many more of that user were left out; and how many were
-- left out of users who have no line
pub record Telling : Type 0 where
  pub number : ℕ
  pub lines : List ToldLine
  pub others : ℕ

abbrev pub new_second : ℕ → Telling
new_second number = record { number = number; lines = []; others = 0 }

-- how many lines a user has
abbrev pub line_count : List ToldLine → ℕ → ℕ
line_count lines user = count_by (λ line. line.user == user) lines

-- A second has at most 500 lines, and at most 20 of one user.
abbrev pub has_room_for : Telling → ℕ → Bool
has_room_for told user = nat_lt (length told.lines) 500 && nat_lt (line_count told.lines user) 20

abbrev pub line_of : ℕ → ToldLine
line_of user = record { user = user; left_out = 0 }

abbrev pub with_line : Telling → ℕ → Telling
with_line told user = record told { lines = told.lines ++ line_of user ∷ [] }

-- as far as 64 bits count
abbrev pub one_more : ℕ → ℕ
one_more count = min (count + 1) (2 ^ 64 - 1)

abbrev pub with_one_more : ToldLine → ToldLine
with_one_more line = record line { left_out = one_more line.left_out }

-- counted at the user's first line, or with those of users who have none
abbrev pub counted_at : Telling → ℕ → Option ℕ → Telling
counted_at told user (Some at) = record told { lines = slice_set told.lines at (with_one_more (slice_index_or told.lines at (line_of user))) }
counted_at told user None = record told { others = one_more told.others }

abbrev pub leaving_out : Telling → ℕ → Telling
leaving_out told user = counted_at told user (position (λ line. line.user == user) told.lines)

-- in the columns of the lines: the second, the user, the process, three of what was asked, and the rest
abbrev pub more_text : ℕ → List ℕ → ℕ → List ℕ
more_text number user count = decimal number ++ codes " " ++ user ++ codes " - - - - " ++ decimal count ++ codes " more\n"

abbrev pub left_out_of : ℕ → ToldLine → List ℕ
left_out_of number line = if line.left_out == 0 then [] else more_text number (decimal line.user) line.left_out

abbrev pub left_out_of_others : ℕ → ℕ → List ℕ
left_out_of_others number count = if count == 0 then [] else more_text number (codes "-") count

-- each user of whom some were left out, and then those who have no line
abbrev pub left_out_text : Telling → List ℕ
left_out_text told = flat_map (left_out_of told.number) told.lines ++ left_out_of_others told.number told.others

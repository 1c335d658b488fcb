-- How a script is read, a line at a time.
--     script_limit        the most bytes of a script
--     Pending, bytes_left        what has been read ahead and how much was given; what is still to come
--     FindsEnd        the end of a script
--     IsLineTaken, LineRead, ReadsLine        a line is taken from what is to come, and read
--     IsOver        what is to come goes past the limit
use Rattle.std.specs.Prelude.{◌≡◌, ◌+◌, ◌<◌, ℕ, List, ◌∷◌, length, take, Option, None, Some}
use Rattle.std.specs.Io.KnownBytes.{prepend_known, Consumes, IsAtEnd, Keeps}
use Rattle.fs_lines.specs.Lines.{lines_of}

abbrev pub script_limit : ℕ
script_limit = 16777216

-- what has been read and not yet given, and how many bytes have been given
pub record Pending : Type 0 where
  pub ahead : List ℕ
  pub given : ℕ

-- The bytes that are still to come, where they are known: those read ahead, and those that the reader has left.
abbrev pub bytes_left : Pending → Option (List ℕ) → Option (List ℕ)
bytes_left p remaining = prepend_known p.ahead remaining

-- The script is at its end, and nothing is given.
abbrev pub FindsEnd : Pending → Option (List ℕ) → Pending → Option (List ℕ) → Type 0
FindsEnd old before new after =
    IsAtEnd (bytes_left old before) × IsAtEnd after × Keeps (bytes_left old before) (bytes_left new after) × (new.given ≡ old.given)

abbrev pub IsFirstLine : List ℕ → List ℕ → Option (List ℕ) → Type 0
IsFirstLine line xs None = ⊥
IsFirstLine line xs (Some ys) = lines_of xs ≡ line ∷ lines_of ys

-- Of the bytes that were to come the first line is gone, where they are known.
abbrev pub IsLineTaken : List ℕ → Option (List ℕ) → Option (List ℕ) → Type 0
IsLineTaken line None new = Unit {0}
IsLineTaken line (Some xs) new = IsFirstLine line xs new

-- A line that is too long is kept up to the byte that makes it so.
abbrev pub kept_front : List ℕ → List ℕ
kept_front whole = take 4097 whole

-- A line has been read, of so many bytes with its newline.
pub record LineRead (old new : Option (List ℕ)) (before after : ℕ) (line : List ℕ) : Type 0 where
  pub whole : List ℕ
  pub text : List ℕ
  pub kept : line ≡ kept_front whole
  pub taken : IsLineTaken whole old new
  pub consumed : Consumes old new text
  pub counted : after ≡ before + length text
  pub some : before < after

-- A line has been read of what was to come, and is given.
abbrev pub ReadsLine : Pending → Option (List ℕ) → Pending → Option (List ℕ) → List ℕ → Type 0
ReadsLine old before new after line = LineRead (bytes_left old before) (bytes_left new after) old.given new.given line

-- After so many bytes, what is to come goes past the limit, where it is known.
abbrev pub IsOver : Option (List ℕ) → ℕ → Type 0
IsOver None given = Unit {0}
IsOver (Some xs) given = script_limit < given + length xs

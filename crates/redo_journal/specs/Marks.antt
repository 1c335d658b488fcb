-- The marks of a batch's sectors.
--     has_mark, AreMarked        a sector's mark is set; so are those of all these sectors
use Rattle.std.specs.Prelude.{◌≡◌, ℕ, ◌%◌, Bool, true, false, List, get_or, All}
use Rattle.redo_journal.specs.declared.batch.TheConstants.{MARKS}

-- a sector's mark is set
abbrev pub has_mark : List Bool → ℕ → Bool
has_mark marks n = get_or marks (n % MARKS) false

-- each of the sectors has its mark
abbrev pub AreMarked : List ℕ → List Bool → Type 0
AreMarked sectors marks = All (λ n. has_mark marks n ≡ true) sectors

-- What is promised of a name that is copied out of a listing.
--     IsCopy        a copy of a name
use Rattle.std.specs.Prelude.{◌≡◌, ℕ, ◌<◌, ◌≤◌, List, length, Option, None, Some}
use Rattle.fuse_plans.specs.ListingPlans.{longest_name}

-- there is a copy of a name that isn't too long
abbrev pub IsCopy : List ℕ → Option (List ℕ) → Type 0
IsCopy name (Some copy) = (copy ≡ name) × (length name ≤ longest_name)
IsCopy name None = longest_name < length name

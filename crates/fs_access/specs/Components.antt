-- The front of a path.
--     behind_slashes        names as a path has them that begins at the root
--     prefix_of        the path of the first components of a path
--     components_in, added_by        the component that a piece between slashes is, if it is one, and what that adds
use Rattle.std.specs.Prelude.{ℕ, not, List, [], ◌∷◌, take}
use Rattle.std.specs.List.{filter, flat_map}
use Rattle.fs_model.specs.Parts.{components_of, is_empty, slash}

abbrev pub behind_slashes : List (List ℕ) → List ℕ
behind_slashes names = flat_map (λ name. slash ∷ name) names

-- without names the root
abbrev pub rooted : List ℕ → List ℕ
rooted [] = slash ∷ []
rooted (b ∷ bs) = b ∷ bs

-- It begins at the root, as the first path of a process does that hasn't gone elsewhere.
abbrev pub prefix_of : List ℕ → ℕ → List ℕ
prefix_of path count = rooted (behind_slashes (take count (components_of path)))

abbrev pub components_in : List (List ℕ) → List (List ℕ)
components_in pieces = filter (λ piece. not (is_empty piece)) pieces

-- what a piece adds to a front, where so many components are still wanted
abbrev pub added_by : List ℕ → ℕ → List ℕ
added_by piece left = behind_slashes (take left (components_in (piece ∷ [])))

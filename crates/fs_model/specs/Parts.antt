-- A pathname as it is written: POSIX.1-2017, Base Definitions (Pathname, Pathname Component).
--     Parts, parts_of        its components, whether it begins with a slash, whether it ends in one
--     start_of        where it is resolved from
--     path_checks        what is asked of it before that
use Rattle.std.specs.Prelude.{ℕ, ◌==◌, nat_lt, Bool, true, false, not, List, [], ◌∷◌, length, if◌then◌else◌}
use Rattle.std.specs.List.{filter, list_any, slice_split}
use Rattle.fs_cred.specs.declared.errno.Errno.TheVariants.{ENOENT, EINVAL, ENAMETOOLONG}
use Rattle.fs_model.specs.Limits.{path_limit, root}
use Rattle.fs_model.specs.Demands.{Demand, refuse}

abbrev pub slash : ℕ
slash = 47

abbrev pub is_empty : {A : Type 0} → List A → Bool
is_empty [] = true
is_empty (_ ∷ _) = false

-- the nonempty pieces between slashes
abbrev pub components_of : List ℕ → List (List ℕ)
components_of path = filter (λ piece. not (is_empty piece)) (slice_split (λ b. b == slash) path)

abbrev pub begins_with_slash : List ℕ → Bool
begins_with_slash [] = false
begins_with_slash (b ∷ _) = b == slash

abbrev pub ends_with_slash : List ℕ → Bool
ends_with_slash [] = false
ends_with_slash (b ∷ []) = b == slash
ends_with_slash (_ ∷ c ∷ path) = ends_with_slash (c ∷ path)

pub record Parts : Type 0 where
  pub names : List (List ℕ)
  pub absolute : Bool
  pub slash_at_end : Bool

abbrev pub parts_of : List ℕ → Parts
parts_of path = record { names = components_of path; absolute = begins_with_slash path; slash_at_end = ends_with_slash path }

-- an absolute pathname starts at the root, any other at the directory given: 4.13 (Pathname Resolution)
abbrev pub start_of : Parts → ℕ → ℕ
start_of parts dir_ino = if parts.absolute then root else dir_ino

-- Before any lookup: an empty pathname is ENOENT, a zero byte EINVAL, one that is too long ENAMETOOLONG.
abbrev pub path_checks : List ℕ → List Demand
path_checks path =
    refuse ENOENT (is_empty path)
    ∷ refuse EINVAL (list_any (λ b. b == 0) path)
    ∷ refuse ENAMETOOLONG (nat_lt path_limit (length path))
    ∷ []

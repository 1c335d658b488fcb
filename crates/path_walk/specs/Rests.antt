-- The rest of a walk, from somewhere on its way.
--     last_from, last_of_walk, found_at        the last lookup, its component, and what a walk finds
--     rest_of        what a walk answers whose next lookup has number k
use Rattle.std.specs.Prelude.{ℕ, ◌+◌, nat_eq, Bool, List, [], ◌∷◌, length, if◌then◌else◌, Option, Result, Ok}
use Rattle.fs_cred.specs.declared.refusal.Refusal.{Refusal}
use Rattle.fs_cred.specs.Credentials.{Credential}
use Rattle.fs_model.specs.declared.walk.Form.{Form}
use Rattle.fs_model.specs.declared.walk.Found.{Found}
use Rattle.fs_model.specs.declared.walk.Last.{Last}
use Rattle.fs_model.specs.declared.walk.Last.TheVariants.{Top}
use Rattle.fs_model.specs.Demands.{or_else}
use Rattle.fs_model.specs.Trails.{Lookup, Trail}
use Rattle.fs_model.specs.Trees.{Tree}
use Rattle.fs_model.specs.Walks.{least_refusal, slash_refusal, last_of_name}
use Rattle.path_walk.specs.Answers.{refused_or}

-- the last lookup of all, where l was the last until now
abbrev pub last_from : Lookup → List Lookup → Lookup
last_from l [] = l
last_from l (m ∷ lookups) = last_from m lookups

-- what the last component is, after so many lookups
abbrev pub last_of_walk : ℕ → List ℕ → Last
last_of_walk step name = if nat_eq step 0 then Top else last_of_name name

-- what was found after so many lookups, the last of them l
abbrev pub found_at : ℕ → Lookup → Option ℕ → Bool → Found
found_at step l found slash = record {
  dir_ino = l.dir_ino;
  name = l.name;
  last = last_of_walk step l.name;
  ino = found;
  slash = slash;
  step = step;
}

-- where k lookups were not refused, the last of them l, and this trail remains
unfoldable pub rest_of : Tree → Credential → ℕ → Form → ℕ → Lookup → Trail → Result Found Refusal
rest_of t cred walk form k l trail =
    refused_or (or_else (least_refusal cred t walk k trail.lookups) (slash_refusal t form trail))
    (Ok (found_at (k + length trail.lookups) (last_from l trail.lookups) trail.found trail.slash))

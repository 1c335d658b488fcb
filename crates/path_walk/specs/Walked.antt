-- What a walk answers: the first refusal of its trail, or what the trail finds.
use Rattle.std.specs.Prelude.{ℕ, List, Result, Ok}
use Rattle.fs_cred.specs.declared.refusal.Refusal.{Refusal}
use Rattle.fs_cred.specs.Credentials.{Credential}
use Rattle.fs_model.specs.declared.walk.Form.{Form}
use Rattle.fs_model.specs.declared.walk.Found.{Found}
use Rattle.fs_model.specs.Steps.{trail_in, found_by}
use Rattle.fs_model.specs.Trees.{Tree, Room}
use Rattle.fs_model.specs.Walks.{first_refusal}
use Rattle.path_walk.specs.Answers.{refused_or}

-- the walk with this number, of a path from a current directory
abbrev pub walk_of : Room → Tree → Credential → ℕ → Form → ℕ → List ℕ → Result Found Refusal
walk_of room t cred walk form cwd path =
    refused_or (first_refusal t cred walk form (trail_in room t cwd (form, path))) (Ok (found_by room t cwd (form, path)))

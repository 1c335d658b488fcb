-- One lookup of a walk.
--     looked_up_alone        what a name leads to in a directory, whatever comes after it
--     found_as        this as an answer
--     lookup_of        the answer of one lookup: search is refused, or that
use Rattle.std.specs.Prelude.{ℕ, true, false, List, Option, None, Some, Result, Ok, Err}
use Rattle.fs_cred.specs.declared.refusal.Refusal.{Refusal}
use Rattle.fs_cred.specs.declared.refusal.Refusal.TheVariants.{Failed}
use Rattle.fs_cred.specs.Credentials.{Credential}
use Rattle.fs_model.specs.Demands.{search_on}
use Rattle.fs_model.specs.Trails.{Outcome, Faulty, Absent, Reaches, Through, looked_up}
use Rattle.fs_model.specs.Trees.{Tree, Room, node_at}
use Rattle.path_walk.specs.Answers.{refused_or}

-- As the last name, where a link isn't followed: that a name is absent, or a link, is no fault yet.
abbrev pub looked_up_alone : Room → Tree → ℕ → List ℕ → Outcome
looked_up_alone room t dir_ino name = looked_up room t true false dir_ino name (node_at t dir_ino)

-- the inode that it leads to, if any
abbrev pub found_as : Outcome → Result (Option ℕ) Refusal
found_as (Faulty e) = Err (Failed e)
found_as Absent = Ok None
found_as (Reaches n) = Ok (Some n)
found_as (Through target) = Ok None

-- lookup number k of a walk
abbrev pub lookup_of : Room → Tree → Credential → ℕ → ℕ → ℕ → List ℕ → Result (Option ℕ) Refusal
lookup_of room t cred walk k dir_ino name = refused_or (search_on cred t dir_ino walk k) (found_as (looked_up_alone room t dir_ino name))

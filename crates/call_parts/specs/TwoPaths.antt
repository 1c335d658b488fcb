-- A call by two paths, after its walks.
--     both_asked, walks_by        what is asked of both paths, and what both walks answer
--     scene_with        what such a call finds
--     HasFoundBoth        nothing has refused it yet, and its walks have found these
--     FindsBoth        in a state of this map and these tables
use Rattle.std.specs.Prelude.{◌≡◌, ℕ, Bool, List, ◌++◌, None, Result, Ok}
use Rattle.fs_cred.specs.Credentials.{Credential}
use Rattle.fs_cred.specs.declared.refusal.Refusal.{Refusal}
use Rattle.fs_layout.specs.declared.geometry.Geometry.{Geometry}
use Rattle.fs_layout.specs.Bytes.{SectorMap, IsBytes}
use Rattle.fs_model.specs.declared.walk.Form.TheVariants.{Parent}
use Rattle.fs_model.specs.declared.walk.Found.{Found}
use Rattle.fs_model.specs.Demands.{Demand, or_else, first_of}
use Rattle.fs_model.specs.Processes.{Process}
use Rattle.fs_model.specs.Scenes.{Scene}
use Rattle.fs_model.specs.States.{State}
use Rattle.fs_model.specs.Steps.{found_by, trail_in}
use Rattle.fs_model.specs.Trees.{Tree, Room}
use Rattle.fs_model.specs.Walks.{first_refusal}
use Rattle.path_walk.specs.Answers.{refused_or}
use Rattle.call_parts.specs.BothTables.{Tables}
use Rattle.call_parts.specs.Callers.{Who, IsJudgedAs, first_start, second_start, path_asked, starts_asked}
use Rattle.call_parts.specs.Performing.{IsStateOf}

-- both paths are checked before the first is walked
abbrev pub both_asked : Who → List ℕ → List ℕ → List Demand
both_asked who old new = path_asked who old ++ path_asked who new

-- the refusal of the walk with this number, of a path that ends in a name
abbrev pub walk_refusal : Room → Tree → Credential → ℕ → ℕ → List ℕ → Demand
walk_refusal room t cred walk cwd path = first_refusal t cred walk Parent (trail_in room t cwd (Parent, path))

-- both walks, each from its start: the first refusal of the starts, of the first, then of the second, or what both find
abbrev pub walks_by : State → Who → Process → Bool → List ℕ → List ℕ → Result (Found × Found) Refusal
walks_by s who p links old new =
    refused_or (or_else (first_of (starts_asked s.tree who links old))
    (or_else (walk_refusal s.room s.tree p.cred 1 (first_start who p) old) (walk_refusal s.room s.tree p.cred 2 (second_start who p) new)))
    (Ok (found_by s.room s.tree (first_start who p) (Parent, old), found_by s.room s.tree (second_start who p) (Parent, new)))

abbrev pub scene_with : State → Process → Found → Found → Scene
scene_with s p first second = record { state = s; process = p; first = first; second = second }

-- The caller is judged as p, its paths may be walked, nothing refuses the walks, and they find these.
pub record HasFoundBoth (s : State) (who : Who) (p : Process) (links : Bool) (old new : List ℕ) (f g : Found) : Type 0 where
  pub there : IsJudgedAs s.processes who p
  pub checked : first_of (both_asked who old new) ≡ None
  pub started : first_of (starts_asked s.tree who links old) ≡ None
  pub first_unrefused : walk_refusal s.room s.tree p.cred 1 (first_start who p) old ≡ None
  pub second_unrefused : walk_refusal s.room s.tree p.cred 2 (second_start who p) new ≡ None
  pub first_is : f ≡ found_by s.room s.tree (first_start who p) (Parent, old)
  pub second_is : g ≡ found_by s.room s.tree (second_start who p) (Parent, new)

-- in a state of this map and these tables the process has found these
pub record FindsBoth (p : Geometry) (map : SectorMap) (tables : Tables) (q : Process) (f g : Found) (s : State) : Type 0 where
  pub who : Who
  pub links : Bool
  pub old : List ℕ
  pub new : List ℕ
  pub old_bytes : IsBytes old
  pub new_bytes : IsBytes new
  pub is_state : IsStateOf p map tables s
  pub found : HasFoundBoth s who q links old new f g

-- A call by one path, after its walk.
--     scene_at        what such a call finds
--     walk_by        what its walk answers
--     HasFound        nothing has refused it yet, and its walk has found this
--     IsTold        what a call answers that changes nothing
use Rattle.std.specs.Prelude.{◌≡◌, ℕ, Bool, List, None, Result, Ok, Err}
use Rattle.sector_disk.specs.Disk.{DiskState}
use Rattle.fs_cred.specs.declared.refusal.Refusal.{Refusal}
use Rattle.fs_model.specs.declared.reply.Reply.{Reply}
use Rattle.fs_model.specs.declared.walk.Form.{Form}
use Rattle.fs_model.specs.declared.walk.Found.{Found}
use Rattle.fs_model.specs.Demands.{or_else, first_of}
use Rattle.fs_model.specs.Processes.{Process}
use Rattle.fs_model.specs.Scenes.{Scene}
use Rattle.fs_model.specs.States.{State}
use Rattle.fs_model.specs.Steps.{HasNewHandle, after, firm_refusal, other_refusal, found_by, nothing_found, trail_in, unchanged}
use Rattle.fs_model.specs.Walks.{first_refusal}
use Rattle.path_walk.specs.Answers.{refused_or}
use Rattle.call_parts.specs.Callers.{Who, AnyCall, event_of, IsJudgedAs, first_start, path_asked, starts_asked}
use Rattle.call_parts.specs.Performing.{IsRefused, chosen}

-- the second path of such a call finds nothing, since there is none
abbrev pub scene_at : State → Process → Found → Scene
scene_at s p found = record { state = s; process = p; first = found; second = nothing_found }

-- what the walk of a call by one path answers
abbrev pub walk_by : State → Who → Process → Bool → Form → List ℕ → Result Found Refusal
walk_by s who p links form path =
    refused_or (or_else (first_of (starts_asked s.tree who links path))
    (first_refusal s.tree p.cred 1 form (trail_in s.room s.tree (first_start who p) (form, path))))
    (Ok (found_by s.room s.tree (first_start who p) (form, path)))

-- The caller is judged as p, its path may be walked, nothing refuses the walk, and it finds this.
pub record HasFound (s : State) (who : Who) (p : Process) (links : Bool) (form : Form) (path : List ℕ) (found : Found) : Type 0 where
  pub there : IsJudgedAs s.processes who p
  pub checked : first_of (path_asked who path) ≡ None
  pub started : first_of (starts_asked s.tree who links path) ≡ None
  pub unrefused : first_refusal s.tree p.cred 1 form (trail_in s.room s.tree (first_start who p) (form, path)) ≡ None
  pub is : found ≡ found_by s.room s.tree (first_start who p) (form, path)

-- a reply with which nothing changes, or why the request is refused
abbrev pub IsTold : DiskState → DiskState → State → AnyCall → Result Reply Refusal → Type 0
IsTold old new s r (Ok reply) =
    (firm_refusal s (event_of r) ≡ None) × (other_refusal s (event_of r) ≡ None) × HasNewHandle s (event_of r) 0
    × (after s (event_of r) (chosen 0 0 0) ≡ unchanged s reply)
IsTold old new s r (Err e) = IsRefused old new s r e

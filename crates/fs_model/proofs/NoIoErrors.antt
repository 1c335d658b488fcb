-- No demand refuses with EIO: of a call, or of another event.
use Rattle.std.specs.Prelude.{◌≢◌, ℕ, not, List, [], ◌∷◌, ◌++◌, Option, None, Some}
use Rattle.std.proofs.Common.{refl}
use Rattle.std.specs.List.{flat_map}
use Rattle.std.specs.Ordering.{nat_cmp}
use Rattle.fs_cred.specs.declared.errno.Errno.TheVariants.{ENOENT, EIO, EBADF, EAGAIN, EINVAL, ENAMETOOLONG, ELOOP}
use Rattle.fs_cred.specs.declared.refusal.Refusal.TheVariants.{Failed}
use Rattle.fs_cred.specs.Credentials.{Credential}
use Rattle.fs_model.specs.declared.walk.Form.{Form}
use Rattle.fs_model.specs.declared.call.Call.{Call}
use Rattle.fs_model.specs.declared.event.Event.{Event}
use Rattle.fs_model.specs.declared.event.Actor.{Actor}
use Rattle.fs_model.specs.declared.event.Event.TheVariants.{Spawn, Exit, Call as Calls, CallAt, CallBy, Stamp, Clock, Fsync, Sync, Statfs, Arm, Restart}
use Rattle.fs_layout.specs.Maps.{get}
use Rattle.fs_model.specs.Trees.{Tree, Room}
use Rattle.fs_model.specs.Processes.{Process}
use Rattle.fs_model.specs.States.{State}
use Rattle.fs_model.specs.Demands.{Demand, refuse, first_of}
use Rattle.fs_model.specs.Parts.{is_empty, path_checks}
use Rattle.fs_model.specs.Trails.{trail_of}
use Rattle.fs_model.specs.Walks.{first_refusal}
use Rattle.fs_model.specs.Scenes.{Row, is_bad}
use Rattle.fs_model.specs.Rows.{row_of}
use Rattle.fs_model.specs.Actors.{judged_as, start_of_walk, is_actor_call, checks_from, start_demands}
use Rattle.fs_model.specs.Steps.{scene_of, actor_scene, walk_refusals, early_refusal, late_refusal, early_call_at, late_call_at, demand_of, firm_refusal, other_refusal}
use Rattle.fs_model.proofs.NoIoDemands.{Spares, AllSpare, RowSpares, not_eio, either, first_spares, both, refused, only, walk_spares, walks_spare, paths_spare}
use Rattle.fs_model.proofs.EachCall.{each_call}
use Rattle.fs_model.proofs.EachHandleCall.{each_handle_call}
use Rattle.fs_model.specs.HandleCalls.{doer, handle_call_row}

-- ---- calls

early_spares : (p : Process) (row : Row) → RowSpares row → Spares (early_refusal p row)
early_spares p row spares =
    let paths = flat_map (λ walk. path_checks walk.1) row.walks in
    first_spares (row.arguments ++ paths ++ row.early p)
    (both (row.arguments ++ paths) (row.early p) (both row.arguments paths spares.arguments (paths_spare row.walks)) (spares.early p))

late_spares : (s : State) (p : Process) (row : Row) → RowSpares row → Spares (late_refusal s p row)
late_spares s p row spares =
    let walks = walk_refusals s.room s.tree p.cred (λ _. p.cwd) 1 row.walks in
    first_spares (walks ++ row.demands (scene_of s p row))
    (both walks (row.demands (scene_of s p row)) (walks_spare s.room s.tree p.cred (λ _. p.cwd) 1 row.walks) (spares.demands (scene_of s p row)))

-- ---- actors

from_spares : (walks : List (Form × List ℕ)) → AllSpare (flat_map (λ walk. checks_from walk.1) walks)
from_spares [] = tt
from_spares (walk ∷ walks) =
    both (checks_from walk.1) (flat_map (λ walk. checks_from walk.1) walks)
    (only (not (is_empty walk.1)) (path_checks walk.1) (refused ENOENT _ refl, (refused EINVAL _ refl, (refused ENAMETOOLONG _ refl, tt)))) (from_spares walks)

actor_spares : (v : Actor) (call : Call) (row : Row) → RowSpares row → Spares (early_call_at v call row)
actor_spares v call row spares =
    let paths = flat_map (λ walk. checks_from walk.1) row.walks in
    either (refuse EBADF (not (is_actor_call call))) (first_of (row.arguments ++ paths ++ row.early (judged_as v))) (refused EBADF _ refl)
    (first_spares (row.arguments ++ paths ++ row.early (judged_as v))
    (both (row.arguments ++ paths) (row.early (judged_as v)) (both row.arguments paths spares.arguments (from_spares row.walks)) (spares.early (judged_as v))))

late_call_at_spares : (s : State) (v : Actor) (call : Call) (row : Row) → RowSpares row → Spares (late_call_at s v call row)
late_call_at_spares s v call row spares =
    let starts = start_demands s.tree v call row.walks in
    let walks = walk_refusals s.room s.tree v.cred (start_of_walk v) 1 row.walks in
    let demands = row.demands (actor_scene s v row) in
    first_spares (starts ++ walks ++ demands)
    (both (starts ++ walks) demands
    (both starts walks (refused ENOENT _ refl, (refused ENOENT _ refl, (refused ELOOP _ refl, tt))) (walks_spare s.room s.tree v.cred (start_of_walk v) 1 row.walks))
    (spares.demands (actor_scene s v row)))

-- ---- events

process_spares : (f : Process → Demand) (o : Option Process) → ((p : Process) → Spares (f p)) → Spares (demand_of f o)
process_spares f None each = refl
process_spares f (Some p) each = each p

pub firm_spares : (s : State) (e : Event) → Spares (firm_refusal s e)
unfolding firm_refusal
firm_spares s (Calls pid call) =
    process_spares (λ p. early_refusal p (row_of call)) (get nat_cmp s.processes pid) (λ p. early_spares p (row_of call) (each_call call).spares)
firm_spares s (CallAt v call) = actor_spares v call (row_of call) (each_call call).spares
firm_spares s (CallBy handle handle_call) = early_spares (doer s.openings handle handle_call) (handle_call_row handle_call) (each_handle_call handle_call).spares
firm_spares s (Fsync pid fd) = process_spares (λ p. is_bad fd p) (get nat_cmp s.processes pid) (λ p. refused EBADF _ refl)
firm_spares s (Exit pid) = process_spares (λ p. None) (get nat_cmp s.processes pid) (λ p. refl)
firm_spares s (Stamp n atime mtime ctime) = refl
firm_spares s (Clock time) = refl
firm_spares s (Spawn cred) = refused EAGAIN _ refl
firm_spares s Sync = refl
firm_spares s Statfs = refl
firm_spares s (Arm k) = refl
firm_spares s (Restart choice arm) = refl

pub other_spares : (s : State) (e : Event) → Spares (other_refusal s e)
unfolding other_refusal
other_spares s (Calls pid call) =
    process_spares (λ p. late_refusal s p (row_of call)) (get nat_cmp s.processes pid) (λ p. late_spares s p (row_of call) (each_call call).spares)
other_spares s (CallAt v call) = late_call_at_spares s v call (row_of call) (each_call call).spares
other_spares s (CallBy handle handle_call) = late_spares s (doer s.openings handle handle_call) (handle_call_row handle_call) (each_handle_call handle_call).spares
other_spares s (Clock time) = refl
other_spares s (Stamp n atime mtime ctime) = refused ENOENT _ refl
other_spares s (Fsync pid fd) = refl
other_spares s (Exit pid) = refl
other_spares s (Spawn cred) = refl
other_spares s Sync = refl
other_spares s Statfs = refl
other_spares s (Arm k) = refl
other_spares s (Restart choice arm) = refl

-- ---- the laws

pub walks_are_no_eio : (room : Room) (t : Tree) (cred : Credential) (walk cwd : ℕ) (form : Form) (path : List ℕ)
    → first_refusal t cred walk form (trail_of room t cwd form path) ≢ Some (Failed EIO)
walks_are_no_eio room t cred walk cwd form path =
    not_eio (first_refusal t cred walk form (trail_of room t cwd form path)) (walk_spares room t cred walk cwd form path)

pub firm_is_no_eio : (s : State) (e : Event) → firm_refusal s e ≢ Some (Failed EIO)
firm_is_no_eio s e = not_eio (firm_refusal s e) (firm_spares s e)

pub other_is_no_eio : (s : State) (e : Event) → other_refusal s e ≢ Some (Failed EIO)
other_is_no_eio s e = not_eio (other_refusal s e) (other_spares s e)

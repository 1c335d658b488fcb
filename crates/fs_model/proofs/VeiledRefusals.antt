-- What refuses an event depends on no byte of a file.
use Rattle.std.specs.Prelude.{◌≡◌, ℕ, ◌++◌, List, Option, None, Some, is_some, not}
use Rattle.std.proofs.Common.{refl, sym, ap, ◌∙◌}
use Rattle.std.specs.Option.{option_map}
use Rattle.fs_model.specs.declared.call.Call.{Call}
use Rattle.fs_model.specs.Nodes.{Node}
use Rattle.fs_model.specs.Trees.{Tree, node_at}
use Rattle.fs_model.specs.Rows.{row_of}
use Rattle.std.specs.Ordering.{nat_cmp}
use Rattle.fs_model.specs.declared.event.Event.{Event}
use Rattle.fs_model.specs.declared.event.Actor.{Actor}
use Rattle.fs_model.specs.declared.walk.Form.{Form}
use Rattle.fs_model.specs.declared.event.Event.TheVariants.{Spawn, Exit, Call as Calls, CallAt, CallBy, Stamp, Clock, Fsync, Sync, Statfs, Arm, Restart}
use Rattle.fs_layout.specs.Maps.{get}
use Rattle.fs_model.specs.Processes.{Process}
use Rattle.fs_model.specs.States.{State}
use Rattle.fs_model.specs.Demands.{refuse, first_of}
use Rattle.fs_cred.specs.declared.errno.Errno.TheVariants.{ENOENT}
use Rattle.fs_model.specs.Alike.{AreAlike}
use Rattle.fs_model.specs.Actors.{start_of_walk, is_link_node, start_demands}
use Rattle.fs_model.specs.Steps.{late_refusal, late_call_at, demand_of, firm_refusal, other_refusal, walk_refusals, scene_of, actor_scene}
use Rattle.fs_model.proofs.VeiledScenes.{veiled_state, veiled_scene, scene_of-veil, actor_scene-veil, walk_refusals-veil, same_veil}
use Rattle.fs_model.proofs.Veils.{veil, veiled, node_at-veil, is_link-blotted}
use Rattle.fs_model.proofs.EachCall.{each_call}
use Rattle.fs_model.proofs.EachHandleCall.{each_handle_call}
use Rattle.fs_model.specs.Scenes.{Scene, Row}
use Rattle.fs_model.specs.HandleCalls.{doer, handle_call_row}

-- ---- a state's refusals

late-veil : (s : State) (p : Process) (row : Row) → ((c : Scene) → row.demands (veiled_scene c) ≡ row.demands c)
    → late_refusal (veiled_state s) p row ≡ late_refusal s p row
late-veil s p row asks =
    let cred = p.cred in
    let starts : ℕ → ℕ = λ _. p.cwd in
    ap (λ c. first_of (walk_refusals s.room (veil s.tree) cred starts 1 row.walks ++ row.demands c)) (scene_of-veil s p row)
    ∙ ap (λ ds. first_of (walk_refusals s.room (veil s.tree) cred starts 1 row.walks ++ ds)) (asks (scene_of s p row))
    ∙ ap (λ ds. first_of (ds ++ row.demands (scene_of s p row))) (walk_refusals-veil s.room s.tree cred starts 1 row.walks)

is_there-veil : (t : Tree) (n : ℕ) → is_some (node_at (veil t) n) ≡ is_some (node_at t n)
is_there-veil t n = ap is_some (node_at-veil t n) ∙ go (node_at t n)
  where
    go : (o : Option Node) → is_some (option_map veiled o) ≡ is_some o
    go None = refl
    go (Some node) = refl

is_link_node-veil : (t : Tree) (n : ℕ) → is_link_node (node_at (veil t) n) ≡ is_link_node (node_at t n)
is_link_node-veil t n = ap is_link_node (node_at-veil t n) ∙ go (node_at t n)
  where
    go : (o : Option Node) → is_link_node (option_map veiled o) ≡ is_link_node o
    go None = refl
    go (Some node) = is_link-blotted node.body

starts-veil : (t : Tree) (v : Actor) (call : Call) (walks : List (Form × List ℕ)) → start_demands (veil t) v call walks ≡ start_demands t v call walks
starts-veil t v call walks =
    let first_there : is_some (node_at (veil t) v.start) ≡ is_some (node_at t v.start) = is_there-veil t v.start in
    let second_there : is_some (node_at (veil t) v.second_start) ≡ is_some (node_at t v.second_start) = is_there-veil t v.second_start in
    let link : is_link_node (node_at (veil t) v.start) ≡ is_link_node (node_at t v.start) = is_link_node-veil t v.start in
    cc

actor-veil : (s : State) (v : Actor) (call : Call) → late_call_at (veiled_state s) v call (row_of call) ≡ late_call_at s v call (row_of call)
actor-veil s v call =
    let row = row_of call in
    let cred = v.cred in
    let starts = start_of_walk v in
    let c = actor_scene s v row in
    ap (λ c. first_of (start_demands (veil s.tree) v call row.walks ++ walk_refusals s.room (veil s.tree) cred starts 1 row.walks ++ row.demands c)) (actor_scene-veil s v row)
    ∙ ap (λ ds. first_of (start_demands (veil s.tree) v call row.walks ++ walk_refusals s.room (veil s.tree) cred starts 1 row.walks ++ ds)) ((each_call call).asks c)
    ∙ ap (λ ds. first_of (start_demands (veil s.tree) v call row.walks ++ ds ++ row.demands c)) (walk_refusals-veil s.room s.tree cred starts 1 row.walks)
    ∙ ap (λ ds. first_of (ds ++ walk_refusals s.room s.tree cred starts 1 row.walks ++ row.demands c)) (starts-veil s.tree v call row.walks)

pub firm_refusal-veil : (s : State) (e : Event) → firm_refusal (veiled_state s) e ≡ firm_refusal s e
unfolding firm_refusal
firm_refusal-veil s (Spawn cred) = refl
firm_refusal-veil s (Exit pid) = refl
firm_refusal-veil s (Calls pid call) = refl
firm_refusal-veil s (CallAt v call) = refl
firm_refusal-veil s (CallBy handle handle_call) = refl
firm_refusal-veil s (Fsync pid fd) = refl
firm_refusal-veil s (Stamp n atime mtime ctime) = refl
firm_refusal-veil s (Clock time) = refl
firm_refusal-veil s Sync = refl
firm_refusal-veil s Statfs = refl
firm_refusal-veil s (Arm k) = refl
firm_refusal-veil s (Restart choice arm) = refl

pub other_refusal-veil : (s : State) (e : Event) → other_refusal (veiled_state s) e ≡ other_refusal s e
unfolding other_refusal
other_refusal-veil s (Calls pid call) = go (get nat_cmp s.processes pid)
  where
    go : (o : Option Process) → demand_of (λ p. late_refusal (veiled_state s) p (row_of call)) o ≡ demand_of (λ p. late_refusal s p (row_of call)) o
    go None = refl
    go (Some p) = late-veil s p (row_of call) (each_call call).asks
other_refusal-veil s (CallAt v call) = actor-veil s v call
other_refusal-veil s (CallBy handle handle_call) = late-veil s (doer s.openings handle handle_call) (handle_call_row handle_call) (each_handle_call handle_call).asks
other_refusal-veil s (Clock time) = refl
other_refusal-veil s (Stamp n atime mtime ctime) = ap (λ b. refuse ENOENT (not b)) (is_there-veil s.tree n)
other_refusal-veil s (Spawn cred) = refl
other_refusal-veil s (Exit pid) = refl
other_refusal-veil s (Fsync pid fd) = refl
other_refusal-veil s Sync = refl
other_refusal-veil s Statfs = refl
other_refusal-veil s (Arm k) = refl
other_refusal-veil s (Restart choice arm) = refl

-- States that are alike to a process refuse each event alike.
pub same_firm : (pid : ℕ) (s t : State) (e : Event) → AreAlike pid s t → firm_refusal s e ≡ firm_refusal t e
same_firm pid s t e is =
    sym (firm_refusal-veil s e) ∙ ap (λ u. firm_refusal u e) (same_veil pid s t is) ∙ firm_refusal-veil t e

pub same_other : (pid : ℕ) (s t : State) (e : Event) → AreAlike pid s t → other_refusal s e ≡ other_refusal t e
same_other pid s t e is =
    sym (other_refusal-veil s e) ∙ ap (λ u. other_refusal u e) (same_veil pid s t is) ∙ other_refusal-veil t e

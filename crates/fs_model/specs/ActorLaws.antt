-- What an actor's call is: what the call of a process that stands where its paths start would be.
--     MatchesActor        a process with the actor's credential and mask and nothing open, which stands where the actor's paths start
--     HaveNames        no path is empty
--     ActorsCallAsProcesses        it is refused as the call is, and its effect is the call's
--     ActorsFollow        what is found by a path that is followed is no link
--     link_demands_of_paths, LinksAskAsBefore        what link(2) asks of paths is what it asks, and how processes are refused
use Rattle.std.specs.Prelude.{◌≡◌, ℕ, ◌%◌, nat_le, ◌&&◌, List, [], ◌∷◌, None, Some, IsTrue, IsFalse}
use Rattle.std.specs.List.{AllByRecursion}
use Rattle.std.specs.Ordering.{nat_cmp}
use Rattle.fs_layout.specs.Maps.{get}
use Rattle.fs_model.specs.declared.call.Call.{Call}
use Rattle.fs_model.specs.declared.event.Event.TheVariants.{Call as Calls, CallAt}
use Rattle.fs_model.specs.declared.event.Actor.{Actor}
use Rattle.fs_model.specs.declared.walk.Form.{Form}
use Rattle.fs_model.specs.declared.walk.Form.TheVariants.{Follow}
use Rattle.fs_model.specs.Nodes.{Node, is_link}
use Rattle.fs_model.specs.Trees.{node_at, names_of}
use Rattle.fs_model.specs.Processes.{Process}
use Rattle.fs_model.specs.States.{State, IsState}
use Rattle.fs_model.specs.Parts.{is_empty}
use Rattle.fs_model.specs.Rows.{row_of}
use Rattle.fs_model.specs.Actors.{is_actor_call, acts_on_links}
use Rattle.fs_model.specs.Demands.{Demand, refuse}
use Rattle.fs_model.specs.Scenes.{Scene, is_special, found_ino, is_nondirectory_found, is_directory_found, must_be_there, must_be_new, permission_at_dir, no_blocks, no_names}
use Rattle.fs_model.specs.NameCalls.{link_row}
use Rattle.fs_model.specs.Ranges.{IsCall}
use Rattle.fs_model.specs.declared.call.Call.TheVariants.{Link as LinkCall}
use Rattle.fs_cred.specs.declared.errno.Errno.TheVariants.{EPERM, ENOENT, ENOTDIR, EMLINK}
use Rattle.fs_model.specs.Steps.{Choice, scene_of, actor_scene, after_call_at, early_refusal, late_refusal, firm_refusal, other_refusal, after}

pub record MatchesActor (actor : Actor) (p : Process) : Type 0 where
  pub cred : p.cred ≡ actor.cred
  pub umask : p.umask ≡ actor.umask % 512
  pub start : p.cwd ≡ actor.start
  pub second_start : p.cwd ≡ actor.second_start
  pub descriptors : p.descriptors ≡ []

abbrev pub HaveNames : List (Form × List ℕ) → Type 0
HaveNames walks = AllByRecursion (λ walk. IsFalse (is_empty walk.1)) walks

-- what the call does is done, and what it opens is open by a handle in place of the process's descriptor 0
pub record IsAsCalled (s : State) (actor : Actor) (pid : ℕ) (p : Process) (call : Call) (choice : Choice) : Type 0 where
  pub firm : firm_refusal s (CallAt actor call) ≡ firm_refusal s (Calls pid call)
  pub other : other_refusal s (CallAt actor call) ≡ other_refusal s (Calls pid call)
  pub after : after s (CallAt actor call) choice ≡ after_call_at s call choice ((row_of call).effect (scene_of s p (row_of call)) choice.ino)

abbrev pub ActorsCallAsProcesses : Type 0
ActorsCallAsProcesses =
    (s : State) (actor : Actor) (pid : ℕ) (p : Process) (call : Call) (choice : Choice) → IsState s → IsFalse s.halted
    → get nat_cmp s.processes pid ≡ Some p → MatchesActor actor p → IsTrue (is_actor_call call) → HaveNames (row_of call).walks
    → IsAsCalled s actor pid p call choice

-- What an actor's call finds by a path that is followed is no link, but where the call acts on the link at which it starts.
abbrev pub ActorsFollow : Type 0
ActorsFollow =
    (s : State) (actor : Actor) (call : Call) (path : List ℕ) (walks : List (Form × List ℕ)) (n : ℕ) (node : Node) → IsState s
    → (row_of call).walks ≡ (Follow, path) ∷ walks → IsFalse (acts_on_links call) → other_refusal s (CallAt actor call) ≡ None
    → (actor_scene s actor (row_of call)).first.ino ≡ Some n → node_at s.tree n ≡ Some node → IsFalse (is_link node.body)

-- What link(2) asks of paths: whether the old one ends in a name, and not whether what has the name has one.
abbrev pub link_demands_of_paths : Scene → List Demand
link_demands_of_paths s =
    refuse EPERM (is_special s.first)
    ∷ must_be_there s.first
    ∷ refuse ENOTDIR (s.first.slash && is_nondirectory_found s s.first)
    ∷ refuse EPERM (is_directory_found s s.first)
    ∷ must_be_new s.second
    ∷ refuse ENOENT s.second.slash
    ∷ permission_at_dir s s.second 2
    ∷ refuse EMLINK (nat_le s.state.room.names_limit (names_of s.state.tree (found_ino s.first)))
    ∷ no_blocks s
    ∷ no_names s s.second
    ∷ []

-- A path that ends in no name, in `.` or in `..` leads to a directory, which is refused with the same. And what has a name has one.
abbrev pub LinksAskAsBefore : Type 0
LinksAskAsBefore =
    (s : State) (pid : ℕ) (p : Process) (old new : List ℕ) → IsState s → IsFalse s.halted → get nat_cmp s.processes pid ≡ Some p
    → IsCall (LinkCall old new) → early_refusal p (link_row old new) ≡ None
    → late_refusal s p (record (link_row old new) { demands = link_demands_of_paths }) ≡ late_refusal s p (link_row old new)

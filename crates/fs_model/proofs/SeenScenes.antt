-- What a call finds in what somebody sees of a state is what it finds in the state.
use Rattle.std.specs.Prelude.{◌≡◌, ℕ, List, Some}
use Rattle.std.proofs.Common.{sym, ap, ◌∙◌}
use Rattle.fs_model.specs.declared.walk.Form.{Form}
use Rattle.fs_model.specs.declared.walk.Found.{Found}
use Rattle.fs_model.specs.declared.event.Actor.{Actor}
use Rattle.fs_model.specs.Trees.{Tree, Room}
use Rattle.fs_model.specs.Processes.{Process}
use Rattle.fs_model.specs.States.{State}
use Rattle.fs_model.specs.Alike.{tree_seen, seen_by}
use Rattle.fs_model.specs.Scenes.{Scene, Row}
use Rattle.fs_model.specs.Actors.{judged_as, start_of_walk}
use Rattle.fs_model.specs.Steps.{first_found, second_found, scene_from, scene_of, actor_scene}
use Rattle.fs_model.proofs.VeiledScenes.{veil-seen, first_found-veil, second_found-veil}

module _ (q : Process) (room : Room) (t : Tree) (cwd : ℕ) (walks : List (Form × List ℕ)) where
  first_found-seen : first_found room (tree_seen q t) cwd walks ≡ first_found room t cwd walks
  first_found-seen =
      sym (first_found-veil room (tree_seen q t) cwd walks) ∙ ap (λ u. first_found room u cwd walks) (veil-seen q t) ∙ first_found-veil room t cwd walks

  second_found-seen : second_found room (tree_seen q t) cwd walks ≡ second_found room t cwd walks
  second_found-seen =
      sym (second_found-veil room (tree_seen q t) cwd walks) ∙ ap (λ u. second_found room u cwd walks) (veil-seen q t) ∙ second_found-veil room t cwd walks

-- in what q sees, whoever starts wherever
scene_from-seen : (q p : Process) (starts : ℕ → ℕ) (u : State) (row : Row)
    → scene_from (seen_by (Some q) u) p starts row ≡ record (scene_from u p starts row) { state = seen_by (Some q) u }
scene_from-seen q p starts u row =
    ap {A = Found} {B = Scene} (λ f. record { state = seen_by (Some q) u; process = p; first = f; second = second_found u.room (tree_seen q u.tree) (starts 2) row.walks })
    (first_found-seen q u.room u.tree (starts 1) row.walks)
    ∙ ap {A = Found} {B = Scene} (λ f. record { state = seen_by (Some q) u; process = p; first = first_found u.room u.tree (starts 1) row.walks; second = f })
    (second_found-seen q u.room u.tree (starts 2) row.walks)

pub scene_of-seen : (q p : Process) (u : State) (row : Row) → scene_of (seen_by (Some q) u) p row ≡ record (scene_of u p row) { state = seen_by (Some q) u }
scene_of-seen q p u row = scene_from-seen q p (λ _. p.cwd) u row

pub actor_scene-seen : (q : Process) (v : Actor) (u : State) (row : Row)
    → actor_scene (seen_by (Some q) u) v row ≡ record (actor_scene u v row) { state = seen_by (Some q) u }
actor_scene-seen q v u row = scene_from-seen q (judged_as v) (start_of_walk v) u row

-- What the walks of two paths have found.
--     finds_both, finds_each        it was found in a state
--     first_there, second_there        it is there
--     first_walked, second_walked        what each of the two walks says of the tree
--     is_scene        the scene fits the state
use Rattle.call_parts.specs.BothTables.{Tables}
use Rattle.std.specs.Prelude.{Bool}
use Rattle.call_parts.specs.Callers.{Who, first_start, second_start, path_asked}
use Rattle.call_parts.proofs.Starts.{PathFits, path_fits, stands_fits, first_start_there, second_start_there}
use Rattle.std.specs.Prelude.{◌≡◌, ℕ, List, None, Some}
use Rattle.std.proofs.Common.{sym, ap, subst, ◌∙◌}
use Rattle.fs_layout.specs.declared.geometry.Geometry.{Geometry}
use Rattle.fs_layout.specs.Bytes.{SectorMap, IsBytes}
use Rattle.fs_model.specs.declared.walk.Form.TheVariants.{Parent}
use Rattle.fs_model.specs.declared.walk.Found.{Found}
use Rattle.fs_model.specs.Demands.{first_of}
use Rattle.fs_model.specs.Processes.{Process}
use Rattle.fs_model.specs.States.{State, IsProcess}
use Rattle.fs_model.specs.Steps.{found_by}
use Rattle.fs_model.proofs.Finds.{finds_are_there}
use Rattle.fs_model.proofs.StepsDemands.{first_met, then_met}
use Rattle.fs_model.proofs.StepsFit.{IsScene}
use Rattle.fs_model.proofs.StepsFound.{IsWalked, is_walked}
use Rattle.path_walk.specs.HeldTrees.{IsThere}
use Rattle.call_parts.specs.Performing.{IsStateOf}
use Rattle.call_parts.proofs.Calling.{first_of-append, ino_of_trail}
use Rattle.sector_txn.specs.Sectors.{TxnState}
use Rattle.call_parts.specs.Reaching.{HasWalkedBoth}
use Rattle.call_parts.specs.TwoPaths.{walk_refusal, scene_with, HasFoundBoth, FindsBoth}

pub finds_both : {p : Geometry} {map : SectorMap} {tables : Tables} {s : State} {who : Who} {q : Process} {links : Bool} {old new : List ℕ} {f g : Found} → IsBytes old → IsBytes new
    → IsStateOf p map tables s → HasFoundBoth s who q links old new f g → FindsBoth p map tables q f g s
finds_both {p} {map} {tables} {s} {who} {q} {links} {old} {new} {f} {g} old_bytes new_bytes at has =
    record { who = who; links = links; old = old; new = new; old_bytes = old_bytes; new_bytes = new_bytes; is_state = at; found = has }

-- in each state
pub finds_each : {p : Geometry} {txn : TxnState} {tables : Tables} {who : Who} {links : Bool} {old new : List ℕ} {q : Process} {f g : Found} → HasWalkedBoth p txn tables who links old new q f g
    → (s : State) → IsStateOf p txn.sectors tables s → FindsBoth p txn.sectors tables q f g s
finds_each w s at = finds_both w.old_bytes w.new_bytes at (w.found s at)

-- ---- one of both

module _ {p : Geometry} {map : SectorMap} {tables : Tables} {s : State} (at : IsStateOf p map tables s) (q : Process)
    (start : ℕ) (path : List ℕ) (x : Found) (is : x ≡ found_by s.room s.tree start (Parent, path)) where
  path_there : IsThere s.tree start → (n : ℕ) → x.ino ≡ Some n → IsThere s.tree n
  path_there from n some =
      finds_are_there s.room s.tree at.is_state.tree start Parent path from n
      (sym (ino_of_trail s.room s.tree start Parent path) ∙ ap (λ (g : Found). g.ino) (sym is) ∙ some)

  path_walked : (walk : ℕ) → IsBytes path → PathFits path → walk_refusal s.room s.tree q.cred walk start path ≡ None → IsWalked s.room s.tree Parent x
  path_walked walk bytes fit met =
      subst (IsWalked s.room s.tree Parent) (sym is) (is_walked s.room at.is_state.room.name_limit s.tree at.is_state.tree q.cred start walk (Parent, path) bytes fit.no_zero met)

-- ---- both

module _ {p : Geometry} {map : SectorMap} {tables : Tables} {q : Process} {f g : Found} {s : State} (i : FindsBoth p map tables q f g s) where
  fits : IsProcess s.tree q
  fits = stands_fits s i.who q i.is_state.is_state i.is_state.up i.found.there

  pub first_there : (n : ℕ) → f.ino ≡ Some n → IsThere s.tree n
  first_there =
      path_there i.is_state q (first_start i.who q) i.old f i.found.first_is
      (first_start_there s q i.links i.old i.is_state.is_state i.is_state.up i.who i.found.there i.found.started)

  pub second_there : (n : ℕ) → g.ino ≡ Some n → IsThere s.tree n
  second_there =
      path_there i.is_state q (second_start i.who q) i.new g i.found.second_is
      (second_start_there s q i.links i.old i.is_state.is_state i.is_state.up i.who i.found.there i.found.started)

  fit : (first_of (path_asked i.who i.old) ≡ None) × (first_of (path_asked i.who i.new) ≡ None)
  fit =
      let both = sym (first_of-append (path_asked i.who i.old) (path_asked i.who i.new)) ∙ i.found.checked in
      (first_met (first_of (path_asked i.who i.old)) _ both, then_met (first_of (path_asked i.who i.old)) _ both)

  pub first_walked : IsWalked s.room s.tree Parent f
  first_walked = path_walked i.is_state q (first_start i.who q) i.old f i.found.first_is 1 i.old_bytes (path_fits i.who i.old fit.0) i.found.first_unrefused

  pub second_walked : IsWalked s.room s.tree Parent g
  second_walked = path_walked i.is_state q (second_start i.who q) i.new g i.found.second_is 2 i.new_bytes (path_fits i.who i.new fit.1) i.found.second_unrefused

  pub is_scene : IsScene (scene_with s q f g)
  is_scene = record {
    state = i.is_state.is_state;
    running = i.is_state.up;
    process = fits;
    first = first_there;
    second = second_there;
  }

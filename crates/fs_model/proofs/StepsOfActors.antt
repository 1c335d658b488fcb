-- What an actor's call leaves where nothing refuses.
use Rattle.std.specs.Prelude.{◌≡◌, ℕ, ◌==◌, ◌&&◌, Bool, true, false, not, List, [], ◌∷◌, ◌++◌, None, is_some, IsFalse}
use Rattle.std.proofs.Common.{ap, sym, ◌∙◌, refl}
use Rattle.std.proofs.lemmas.Bool.{not-false}
use Rattle.std.specs.List.{list_any, flat_map}
use Rattle.fs_cred.specs.declared.errno.Errno.TheVariants.{ENOENT, EBADF, EINVAL, ELOOP}
use Rattle.fs_cred.specs.Credentials.{IsCredential}
use Rattle.fs_model.specs.declared.call.Call.{Call}
use Rattle.fs_model.specs.declared.call.Call.TheVariants.{Open as OpenCall}
use Rattle.std.specs.Ordering.{nat_cmp}
use Rattle.fs_layout.specs.Maps.{with_entry}
use Rattle.fs_layout.proofs.MapLaws.{with_entry-IsMap}
use Rattle.fs_model.specs.declared.event.Actor.{Actor}
use Rattle.fs_model.specs.Trees.{node_at}
use Rattle.fs_model.specs.Processes.{new_process, the_descriptor}
use Rattle.fs_model.specs.TreeChanges.{changed}
use Rattle.fs_model.specs.States.{State, IsDescriptor, IsProcess, IsState}
use Rattle.fs_model.specs.Demands.{Demand, refuse, first_of}
use Rattle.fs_model.specs.Scenes.{Row}
use Rattle.fs_model.specs.Rows.{row_of}
use Rattle.fs_model.specs.Parts.{is_empty}
use Rattle.fs_model.specs.declared.walk.Form.TheVariants.{Follow}
use Rattle.fs_model.specs.Actors.{judged_as, start_of_walk, opened_by, is_actor_call, checks_from, acts_on_links, starts_at_end, is_link_node, start_demands}
use Rattle.fs_model.specs.Steps.{actor_scene, walk_refusals, early_call_at, late_call_at, HasNewNumber}
use Rattle.fs_model.specs.Ranges.{IsCall}
use Rattle.fs_model.proofs.Finds.{IsThere}
use Rattle.fs_model.proofs.StepsDemands.{AreMet, first_met, then_met, all_met, met_left, met_right, unrefused}
use Rattle.fs_model.proofs.StepsFit.{IsScene, first_is_there, second_is_there, processes_move, openings_move}
use Rattle.fs_model.proofs.StepsProcesses.{in_with_entry, new_process_fits, with_umask_fits}
use Rattle.fs_model.proofs.StepsSwept.{MayBeLeft, tree_may_be_left}
use Rattle.fs_model.proofs.StepsLeaves.{Walks, HaveNoZero, first_walked, second_walked, IsUnrefused, each_open_fits}
use Rattle.fs_model.proofs.EachCall.{each_call}

-- ---- what is asked of an actor, and met

-- an empty path has no byte
no_zero_from : (walks : Walks) → AreMet (flat_map (λ walk. checks_from walk.1) walks) → HaveNoZero walks
no_zero_from [] asked = tt
no_zero_from (walk ∷ walks) asked = go walk.1 asked (λ more. no_zero_from walks more)
  where
    go : (path : List ℕ) → AreMet (checks_from path ++ flat_map (λ walk. checks_from walk.1) walks)
        → (AreMet (flat_map (λ walk. checks_from walk.1) walks) → HaveNoZero walks) → (list_any (λ b. b == 0) path ≡ false) × HaveNoZero walks
    go [] asked rest = (refl, rest asked)
    go (b ∷ path) asked rest = (unrefused EINVAL (list_any (λ b. b == 0) (b ∷ path)) asked.1.0, rest asked.1.1.1)

module _ (v : Actor) (call : Call) (row : Row) (early : early_call_at v call row ≡ None) where
  abbrev paths : List Demand
  paths = flat_map (λ walk. checks_from walk.1) row.walks

  pub allowed_call : is_actor_call call ≡ true
  allowed_call =
      not-false (is_actor_call call) (unrefused EBADF (not (is_actor_call call))
      (first_met (refuse EBADF (not (is_actor_call call))) (first_of (row.arguments ++ paths ++ row.early (judged_as v))) early))

  asked : AreMet (row.arguments ++ paths ++ row.early (judged_as v))
  asked =
      all_met (row.arguments ++ paths ++ row.early (judged_as v))
      (then_met (refuse EBADF (not (is_actor_call call))) (first_of (row.arguments ++ paths ++ row.early (judged_as v))) early)

  actor_arguments : AreMet row.arguments
  actor_arguments = met_left row.arguments paths (met_left (row.arguments ++ paths) (row.early (judged_as v)) asked)

  actor_paths : AreMet paths
  actor_paths = met_right row.arguments paths (met_left (row.arguments ++ paths) (row.early (judged_as v)) asked)

  pub actor_early : AreMet (row.early (judged_as v))
  actor_early = met_right (row.arguments ++ paths) (row.early (judged_as v)) asked

module _ (s : State) (v : Actor) (call : Call) (row : Row) (late : late_call_at s v call row ≡ None) where
  abbrev starts : List Demand
  starts = start_demands s.tree v call row.walks

  abbrev walked : List Demand
  walked = walk_refusals s.room s.tree v.cred (start_of_walk v) 1 row.walks

  all_asked : AreMet (starts ++ walked ++ row.demands (actor_scene s v row))
  all_asked = all_met (starts ++ walked ++ row.demands (actor_scene s v row)) late

  starts_met : AreMet starts
  starts_met = met_left starts walked (met_left (starts ++ walked) (row.demands (actor_scene s v row)) all_asked)

  pub start_is_there : IsThere s.tree v.start
  start_is_there = not-false (is_some (node_at s.tree v.start)) (unrefused ENOENT (not (is_some (node_at s.tree v.start))) starts_met.0)

  pub second_start_is_there : IsThere s.tree v.second_start
  second_start_is_there =
      not-false (is_some (node_at s.tree v.second_start)) (unrefused ENOENT (not (is_some (node_at s.tree v.second_start))) starts_met.1.0)

  -- a path that is followed isn't empty where the start is a link, but for calls that act on links
  pub start_is_no_link : (path : List ℕ) (walks : Walks) → row.walks ≡ (Follow, path) ∷ walks → acts_on_links call ≡ false
      → is_link_node (node_at s.tree v.start) ≡ true → is_empty path ≡ false
  start_is_no_link path walks followed other link =
      sym (ap starts_at_end followed)
      ∙ go (starts_at_end row.walks) (is_link_node (node_at s.tree v.start)) (acts_on_links call)
      (unrefused ELOOP (starts_at_end row.walks && is_link_node (node_at s.tree v.start) && not (acts_on_links call)) starts_met.1.1.0) link other
    where
      go : (ends link acts : Bool) → (ends && link && not acts) ≡ false → link ≡ true → acts ≡ false → ends ≡ false
      go true true false h e f = absurd cc
      go true true true h e f = absurd cc
      go true false acts h e f = absurd cc
      go false link acts h e f = refl

  actor_walks : AreMet walked
  actor_walks = met_right starts walked (met_left (starts ++ walked) (row.demands (actor_scene s v row)) all_asked)

  pub actor_demands : AreMet (row.demands (actor_scene s v row))
  actor_demands = met_right (starts ++ walked) (row.demands (actor_scene s v row)) all_asked

-- ---- what it leaves

module _ (s : State) (v : Actor) (call : Call) (is : IsState s) (runs : IsFalse s.halted) (valid : IsCredential v.cred) (fits : IsCall call)
    (early : early_call_at v call (row_of call) ≡ None) (late : late_call_at s v call (row_of call) ≡ None) where
  actor_fits : IsProcess s.tree (judged_as v)
  actor_fits = with_umask_fits s.tree (new_process v.cred) (new_process_fits s.room s.tree v.cred is.tree valid) v.umask

  -- what was found is there, since both starts are
  pub actor_is : IsScene (actor_scene s v (row_of call))
  actor_is = record {
    state = is;
    running = runs;
    process = actor_fits;
    first = λ n e. first_is_there s.room s.tree is.tree v.start (start_is_there s v call (row_of call) late) (row_of call).walks n e;
    second = λ n e. second_is_there s.room s.tree is.tree v.second_start (second_start_is_there s v call (row_of call) late) (row_of call).walks n e;
  }

  pub unrefused_actor : IsUnrefused (actor_scene s v (row_of call)) call
  unrefused_actor =
      let row = row_of call in
      let bytes = (each_call call).paths fits in
      let zeros = no_zero_from row.walks (actor_paths v call row early) in
      let walks = actor_walks s v call row late in
      record {
        fits = fits;
        arguments = actor_arguments v call row early;
        early = actor_early v call row early;
        demands = actor_demands s v call row late;
        first = first_walked s v.cred (start_of_walk v) row.walks is bytes zeros walks;
        second = second_walked s v.cred (start_of_walk v) row.walks is bytes zeros walks;
      }

  actor_leaves : (new : ℕ) → HasNewNumber s ((row_of call).effect (actor_scene s v (row_of call)) new).change
      → MayBeLeft s.room (changed s.tree ((row_of call).effect (actor_scene s v (row_of call)) new).change) s.processes s.openings
  actor_leaves new fresh = (each_call call).leaves (actor_scene s v (row_of call)) actor_is None tt new unrefused_actor fresh

-- and what it opens is open then
pub actor_opens : (s : State) (v : Actor) (call : Call) → IsState s → IsFalse s.halted → IsCredential v.cred → IsCall call
    → early_call_at v call (row_of call) ≡ None → late_call_at s v call (row_of call) ≡ None → (handle new : ℕ)
    → HasNewNumber s ((row_of call).effect (actor_scene s v (row_of call)) new).change
    → MayBeLeft s.room (changed s.tree ((row_of call).effect (actor_scene s v (row_of call)) new).change) s.processes
    (opened_by call handle ((row_of call).effect (actor_scene s v (row_of call)) new).process s.openings)
unfolding row_of
actor_opens s v (OpenCall path flags mode) is runs valid fits early late handle new fresh =
    let call = OpenCall path flags mode in
    let c = actor_scene s v (row_of call) in
    let met = unrefused_actor s v call is runs valid fits early late in
    let e = (row_of call).effect c new in
    let left = each_open_fits c (actor_is s v call is runs valid fits early late) path flags mode new met.early met.demands met.first fresh in
    let d = the_descriptor e.process 0 in
    tree_may_be_left s.room (changed s.tree e.change) s.processes (with_entry nat_cmp s.openings handle d) left.tree is.pids is.few
    (processes_move s is runs (changed s.tree e.change) left.types) (with_entry-IsMap s.openings handle d is.handles)
    (in_with_entry (λ _ d. IsDescriptor (changed s.tree e.change) 0 d) s.openings handle d (left.process.each 0 d refl)
    (openings_move s is runs (changed s.tree e.change) left.types))
actor_opens s v call is runs valid fits early late handle new fresh = actor_leaves s v call is runs valid fits early late new fresh

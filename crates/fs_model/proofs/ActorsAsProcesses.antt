-- An actor's call is refused, changes the tree and answers as the call of a process that stands there.
use Rattle.std.specs.Prelude.{◌≡◌, ℕ, ◌+◌, ◌==◌, Bool, true, if◌then◌else◌, false, not, ◌&&◌, List, [], ◌∷◌, ◌++◌, is_some, IsTrue, IsFalse}
use Rattle.std.proofs.Common.{refl, sym, ap, ◌∙◌, subst}
use Rattle.std.specs.List.{flat_map}
use Rattle.fs_cred.specs.declared.errno.Errno.TheVariants.{ENOENT, EBADF, ELOOP}
use Rattle.fs_cred.specs.Credentials.{Credential}
use Rattle.fs_model.specs.declared.call.Call.{Call}
use Rattle.fs_model.specs.declared.event.Actor.{Actor}
use Rattle.fs_model.specs.declared.walk.Form.{Form}
use Rattle.fs_model.specs.Limits.{root}
use Rattle.fs_model.specs.Walks.{first_refusal}
use Rattle.fs_model.specs.Trees.{Tree, Room, node_at, IsDirectoryAt}
use Rattle.fs_model.specs.Processes.{Process}
use Rattle.fs_model.specs.States.{State}
use Rattle.fs_model.specs.Demands.{Demand, refuse, or_else, first_of}
use Rattle.fs_model.specs.Parts.{is_empty, path_checks}
use Rattle.fs_model.specs.Scenes.{Scene, Row}
use Rattle.fs_model.specs.Rows.{row_of}
use Rattle.fs_model.specs.Actors.{judged_as, start_of_walk, is_actor_call, checks_from, acts_on_links, starts_at_end, is_link_node, start_demands, opened_by, actor_reply}
use Rattle.fs_model.specs.Steps.{Choice, After, walk_refusals, scene_of, scene_from, trail_in, actor_scene, early_refusal, late_refusal, early_call_at, late_call_at, demand_of, firm_refusal, other_refusal, after, after_call_at}
use Rattle.fs_model.specs.ActorLaws.{MatchesActor, HaveNames, ActorsCallAsProcesses}
use Rattle.fs_model.proofs.EachActorCall.{bare, bare_scene, TakesZero, each_actor_call}

-- ---- the process, and the actor

module _ (v : Actor) (p : Process) (alike : MatchesActor v p) where
  judged_is : bare p ≡ judged_as v
  judged_is =
      ap {A = Credential} {B = Process} (λ cred. record { cred = cred; umask = p.umask; cwd = root; descriptors = [] }) alike.cred
      ∙ ap {A = ℕ} {B = Process} (λ mask. record { cred = v.cred; umask = mask; cwd = root; descriptors = [] }) alike.umask

  -- what is found
  scene_is_bare : (s : State) (row : Row) → bare_scene (scene_of s p row) ≡ actor_scene s v row
  scene_is_bare s row =
      ap {A = Process} {B = Scene} (λ q. record (scene_of s p row) { process = q }) judged_is
      ∙ ap {A = ℕ} {B = Scene} (λ n. record (scene_from s (judged_as v) (λ k. if k == 1 then n else p.cwd) row) { process = judged_as v }) alike.start
      ∙ ap {A = ℕ} {B = Scene} (λ n. record (scene_from s (judged_as v) (λ k. if k == 1 then v.start else n) row) { process = judged_as v }) alike.second_start

  starts_are : (k : ℕ) → start_of_walk v k ≡ p.cwd
  starts_are k = go (k == 1)
    where
      go : (b : Bool) → (if b then v.start else v.second_start) ≡ p.cwd
      go true = sym alike.start
      go false = sym alike.second_start

  takes_zero : TakesZero p.descriptors
  takes_zero = subst TakesZero (sym alike.descriptors) (λ d. refl)

walks-same : (room : Room) (t : Tree) (cred : Credential) (starts starts' : ℕ → ℕ) → ((k : ℕ) → starts k ≡ starts' k) → (k : ℕ) (walks : List (Form × List ℕ))
    → walk_refusals room t cred starts k walks ≡ walk_refusals room t cred starts' k walks
walks-same room t cred starts starts' same k [] = refl
walks-same room t cred starts starts' same k (walk ∷ walks) =
    ap (λ start. first_refusal t cred k walk.0 (trail_in room t start walk) ∷ walk_refusals room t cred starts (k + 1) walks) (same k)
    ∙ ap (λ ds. first_refusal t cred k walk.0 (trail_in room t (starts' k) walk) ∷ ds) (walks-same room t cred starts starts' same (k + 1) walks)

-- ---- what is asked

checks_are : (walks : List (Form × List ℕ)) → HaveNames walks → flat_map (λ walk. checks_from walk.1) walks ≡ flat_map (λ walk. path_checks walk.1) walks
checks_are [] some = refl
checks_are (walk ∷ walks) some =
    ap (λ ds. ds ++ flat_map (λ walk. checks_from walk.1) walks) (go walk.1 some.0)
    ∙ ap (λ ds. path_checks walk.1 ++ ds) (checks_are walks some.1)
  where
    go : (path : List ℕ) → IsFalse (is_empty path) → checks_from path ≡ path_checks path
    go [] h = absurd cc
    go (b ∷ path) h = refl

-- both starts are directories, and no path ends there
starts_ask_nothing : (t : Tree) (v : Actor) (call : Call) (walks : List (Form × List ℕ)) (ds : List Demand) → IsDirectoryAt t v.start → IsDirectoryAt t v.second_start
    → HaveNames walks → first_of (start_demands t v call walks ++ ds) ≡ first_of ds
starts_ask_nothing t v call walks ds first second some =
    ap (λ o. first_of (refuse ENOENT (not (is_some o)) ∷ refuse ENOENT (not (is_some (node_at t v.second_start)))
    ∷ refuse ELOOP (starts_at_end walks && is_link_node (node_at t v.start) && not (acts_on_links call)) ∷ ds)) first.is_there
    ∙ ap (λ o. first_of (refuse ENOENT (not (is_some o))
    ∷ refuse ELOOP (starts_at_end walks && is_link_node (node_at t v.start) && not (acts_on_links call)) ∷ ds)) second.is_there
    ∙ ap (λ b. first_of (refuse ELOOP (b && is_link_node (node_at t v.start) && not (acts_on_links call)) ∷ ds)) (go walks some)
  where
    go : (walks : List (Form × List ℕ)) → HaveNames walks → starts_at_end walks ≡ false
    go [] some = refl
    go (walk ∷ walks) some = some.0

first_of-append : (ds es fs : List Demand) → first_of (ds ++ es ++ fs) ≡ first_of (ds ++ (es ++ fs))
first_of-append [] es fs = refl
first_of-append (d ∷ ds) es fs = ap (or_else d) (first_of-append ds es fs)

module _ (s : State) (v : Actor) (p : Process) (call : Call) (alike : MatchesActor v p) (allowed_call : IsTrue (is_actor_call call)) (some : HaveNames (row_of call).walks) where
  early_is : early_call_at v call (row_of call) ≡ early_refusal p (row_of call)
  early_is =
      let row = row_of call in
      let of = each_actor_call call allowed_call in
      ap (λ b. or_else (refuse EBADF (not b)) (first_of (row.arguments ++ flat_map (λ walk. checks_from walk.1) row.walks ++ row.early (judged_as v)))) allowed_call
      ∙ ap (λ ds. first_of (row.arguments ++ ds ++ row.early (judged_as v))) (checks_are row.walks some)
      ∙ ap (λ q. first_of (row.arguments ++ flat_map (λ walk. path_checks walk.1) row.walks ++ row.early q)) (sym (judged_is v p alike))
      ∙ ap (λ ds. first_of (row.arguments ++ flat_map (λ walk. path_checks walk.1) row.walks ++ ds)) (of.early p alike.descriptors)

  late_is : IsDirectoryAt s.tree v.start → IsDirectoryAt s.tree v.second_start → late_call_at s v call (row_of call) ≡ late_refusal s p (row_of call)
  late_is first second =
      let row = row_of call in
      let walks = walk_refusals s.room s.tree v.cred (start_of_walk v) 1 row.walks in
      let called = walk_refusals s.room s.tree p.cred (λ _. p.cwd) 1 row.walks in
      let demands = row.demands (actor_scene s v row) in
      first_of-append (start_demands s.tree v call row.walks) walks demands
      ∙ starts_ask_nothing s.tree v call row.walks (walks ++ demands) first second some
      ∙ ap (λ cred. first_of (walk_refusals s.room s.tree cred (start_of_walk v) 1 row.walks ++ demands)) (sym alike.cred)
      ∙ ap (λ ds. first_of (ds ++ demands)) (walks-same s.room s.tree p.cred (start_of_walk v) (λ _. p.cwd) (starts_are v p alike) 1 row.walks)
      ∙ ap (λ c. first_of (called ++ row.demands c)) (sym (scene_is_bare v p alike s row))
      ∙ ap (λ ds. first_of (called ++ ds)) ((each_actor_call call allowed_call).demands (scene_of s p row))

  after_is : (choice : Choice) → after_call_at s call choice ((row_of call).effect (actor_scene s v (row_of call)) choice.ino)
      ≡ after_call_at s call choice ((row_of call).effect (scene_of s p (row_of call)) choice.ino)
  after_is choice =
      let row = row_of call in
      let of = each_actor_call call allowed_call in
      let c = scene_of s p row in
      let n = choice.ino in
      let zero = takes_zero v p alike in
      let e = row.effect c n in
      let bare_e = row.effect (bare_scene c) n in
      ap {A = Scene} {B = After} (λ c. after_call_at s call choice (row.effect c n)) (sym (scene_is_bare v p alike s row))
      ∙ ap {B = After} (λ change. record { change = change; processes = s.processes; openings = opened_by call choice.handle bare_e.process s.openings; reply = actor_reply call choice.handle n bare_e; now = s.now }) (of.change c n)
      ∙ ap {B = After} (λ openings. record { change = e.change; processes = s.processes; openings = openings; reply = actor_reply call choice.handle n bare_e; now = s.now }) (of.opened c choice.handle n s.openings zero)
      ∙ ap {B = After} (λ reply. record { change = e.change; processes = s.processes; openings = opened_by call choice.handle e.process s.openings; reply = reply; now = s.now }) (of.told c choice.handle n zero)

pub actors_call_as_processes : ActorsCallAsProcesses
unfolding firm_refusal other_refusal after
actors_call_as_processes s v pid p call choice is runs here alike allowed_call some =
    let fits = (is.processes runs).each_process pid p here in
    let first : IsDirectoryAt s.tree v.start = subst (IsDirectoryAt s.tree) alike.start fits.cwd in
    let second : IsDirectoryAt s.tree v.second_start = subst (IsDirectoryAt s.tree) alike.second_start fits.cwd in
    record {
      firm = early_is s v p call alike allowed_call some ∙ ap (demand_of (λ p. early_refusal p (row_of call))) (sym here);
      other = late_is s v p call alike allowed_call some first second ∙ ap (demand_of (λ p. late_refusal s p (row_of call))) (sym here);
      after = after_is s v p call alike allowed_call some choice;
    }

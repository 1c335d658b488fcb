-- A call joined from its parts: the checks and the walk of its path, what it asks of what was found, and its effect.
use Rattle.std.specs.Prelude.{◌≡◌, ℕ, ◌<◌, Bool, not, ◌&&◌, List, [], ◌∷◌, ◌++◌, None, Some, is_some, true, false, IsTrue, IsFalse, Result, Ok, Err, OnOk, OnErr}
use Rattle.std.proofs.Common.{refl, sym, ap, subst, ◌∙◌, inl, inr}
use Rattle.std.specs.Ordering.{nat_cmp}
use Rattle.sector_disk.specs.Disk.{DiskState}
use Rattle.fs_cred.specs.declared.errno.Errno.{Errno}
use Rattle.fs_cred.specs.declared.errno.Errno.TheVariants.{ESRCH}
use Rattle.fs_cred.specs.declared.refusal.Refusal.{Refusal}
use Rattle.fs_cred.specs.declared.refusal.Refusal.TheVariants.{Failed}
use Rattle.fs_layout.specs.declared.geometry.Geometry.{Geometry}
use Rattle.fs_layout.specs.Bytes.{SectorMap}
use Rattle.fs_layout.specs.Maps.{get}
use Rattle.sector_txn.specs.Sectors.{TxnState, IsUnchanged}
use Rattle.fs_model.specs.declared.call.Call.{Call}
use Rattle.fs_model.specs.declared.event.Event.TheVariants.{Call as Calls, CallAt}
use Rattle.fs_model.specs.declared.call.Call.TheVariants.{Open, Mkdir, Symlink}
use Rattle.call_parts.specs.BothTables.{Tables, both, tables_in, users_of}
use Rattle.fs_model.specs.declared.reply.Reply.{Reply}
use Rattle.fs_model.specs.declared.walk.Form.{Form}
use Rattle.fs_model.specs.declared.walk.Found.{Found}
use Rattle.fs_model.specs.TreeChanges.{Same, changed, swept}
use Rattle.fs_model.specs.Demands.{Demand, or_else, first_of}
use Rattle.fs_model.specs.Parts.{path_checks}
use Rattle.fs_model.specs.Processes.{Process, ProcessTable, Openings}
use Rattle.fs_model.specs.Rows.{row_of}
use Rattle.fs_model.specs.Scenes.{Scene, Effect, Row, answers, by_path}
use Rattle.fs_model.specs.Stands.{HoldsAll, placed}
use Rattle.fs_model.specs.States.{State, IsProcess}
use Rattle.fs_model.specs.Steps.{Choice, HasNewHandle, after, after_call, asks_in_call, early_refusal, late_refusal, firm_refusal, other_refusal, found_by, trail_in, unchanged}
use Rattle.fs_model.specs.Trails.{trail_of}
use Rattle.fs_model.specs.Trees.{Room, Tree, IsTree}
use Rattle.fs_model.specs.Walks.{found_of, first_refusal}
use Rattle.fs_model.proofs.Finds.{finds_are_there}
use Rattle.fs_model.proofs.Unchanged.{nothing_to_drop, same_process_stays}
use Rattle.path_walk.specs.Answers.{refused_or, Interrupts, IsAnswered}
use Rattle.path_walk.specs.HeldTrees.{HoldsTree, IsThere}
use Rattle.fs_cred.specs.declared.errno.Errno.TheVariants.{ENOENT, EBADF, ELOOP}
use Rattle.std.specs.List.{flat_map}
use Rattle.fs_model.specs.declared.event.Actor.{Actor}
use Rattle.fs_model.specs.Demands.{refuse}
use Rattle.fs_model.specs.Trees.{node_at}
use Rattle.fs_model.specs.TreeChanges.{Change}
use Rattle.fs_model.specs.Steps.{after_call_at, late_call_at, actor_scene, walk_refusals}
use Rattle.fs_model.specs.Actors.{judged_as, start_of_walk, opened_by, actor_reply, is_actor_call, acts_on_links, checks_from, is_link_node, start_demands}
use Rattle.fs_model.specs.Parts.{is_empty}
use Rattle.fs_model.proofs.StepsDemands.{first_met, then_met}
use Rattle.call_parts.specs.Callers.{Who, ByProcess, ByActor, AnyCall, ByCaller, event, event_of, asks_of, opens, is_told, told_of_made, told_by, leaving, IsJudgedAs, IsAbsent, MayMake, first_start, path_asked, starts_asked, left_by}
use Rattle.call_parts.proofs.Starts.{first_start_there}
use Rattle.call_parts.specs.Paths.{scene_at, walk_by, HasFound, IsTold}
use Rattle.call_parts.specs.Performing.{IsStateOf, IsDone, IsRefused, Performs, chosen}
use Rattle.call_parts.specs.Performing as why
use Rattle.path_walk.proofs.HeldNodes.{is_there, number_below}
use Rattle.path_walk.proofs.Kept.{same_map, kept, interrupts_later}

-- ---- the state of a map and a table

module _ {p : Geometry} {map : SectorMap} {tables : Tables} {s : State} (at : IsStateOf p map tables s) where
  pub state_tree : HoldsTree p map s.tree
  state_tree = record { holds = at.holds; tree = subst (λ (r : Room). IsTree r s.tree) at.same_room at.is_state.tree }

  pub same_process : (pid : ℕ) (q : Process) → get nat_cmp tables.processes pid ≡ Some q → get nat_cmp s.processes pid ≡ Some q
  same_process pid q there = ap (λ (d : Tables). get nat_cmp d.processes pid) at.same_tables ∙ there

  -- as whom a caller is judged
  pub same_caller : (who : Who) (q : Process) → IsJudgedAs tables.processes who q → IsJudgedAs s.processes who q
  same_caller who q there = subst (λ (d : Tables). IsJudgedAs d.processes who q) (sym at.same_tables) there

  pub state_process : (pid : ℕ) (q : Process) → get nat_cmp tables.processes pid ≡ Some q → IsProcess s.tree q
  state_process pid q there = (at.is_state.processes at.up).each_process pid q (same_process pid q there)

  -- the current directory of a process is there
  pub cwd_there : (pid : ℕ) (q : Process) → get nat_cmp tables.processes pid ≡ Some q → IsThere s.tree q.cwd
  cwd_there pid q there = let d = (state_process pid q there).cwd in is_there s.tree q.cwd d.node d.is_there

  pub cwd_below : (pid : ℕ) (q : Process) → get nat_cmp tables.processes pid ≡ Some q → q.cwd < p.inodes
  cwd_below pid q there = number_below state_tree q.cwd (cwd_there pid q there)

-- a state is that of the map after reads, too
pub state_kept : {p : Geometry} {old new : TxnState} {tables : Tables} {s : State} → IsUnchanged old new → IsStateOf p old.sectors tables s
    → IsStateOf p new.sectors tables s
state_kept {p} {old} {new} {tables} {s} same at = kept (λ m. IsStateOf p m tables s) same at

-- ---- answers

pub met_ok : {A : Type 0} (d : Demand) (x y : A) → refused_or d (Ok x) ≡ Ok y → (d ≡ None) × (x ≡ y)
met_ok None x y e = (refl, cc)
met_ok (Some r) x y e = absurd (cc)

pub refused_err : {A : Type 0} (d : Demand) (x : A) (r : Refusal) → refused_or d (Ok x) ≡ Err r → d ≡ Some r
refused_err None x r e = absurd (cc)
refused_err (Some q) x r e = cc

-- ---- demands, one after another

-- a check of the first refuses
pub first_refuses : (d : Demand) (ds : List Demand) (e : Refusal) → refused_or {A = Unit {0}} d (Ok tt) ≡ Err e → first_of (d ∷ ds) ≡ Some e
first_refuses d ds e is = ap (λ (o : Demand). or_else o (first_of ds)) (refused_err {A = Unit {0}} d tt e is)

-- the first refuses
pub first_asked : {A B : Type 0} (d : Demand) (ds : List Demand) (y : B) (x : A) (e : Refusal) (old new : DiskState)
    → IsAnswered old new (refused_or d (Ok y)) (Err e) → IsAnswered old new (refused_or (first_of (d ∷ ds)) (Ok x)) (Err e)
first_asked {A} d ds y x e old new h = elim h [
  | inl is ↦ inl (ap (λ (o : Demand). refused_or {A = A} (or_else o (first_of ds)) (Ok x)) (refused_err d y e is))
  | inr way ↦ inr way
]

-- the first is met, and one of the others refuses
pub next_asked : {A : Type 0} (d : Demand) (ds : List Demand) (x : A) (e : Refusal) (old new : DiskState) → d ≡ None
    → IsAnswered old new (refused_or (first_of ds) (Ok x)) (Err e) → IsAnswered old new (refused_or (first_of (d ∷ ds)) (Ok x)) (Err e)
next_asked d ds x e old new none h =
    subst (λ (o : Demand). IsAnswered old new (refused_or (or_else o (first_of ds)) (Ok x)) (Err e)) (sym none) h

-- both are met
pub both_met : (d : Demand) (ds : List Demand) → d ≡ None → first_of ds ≡ None → first_of (d ∷ ds) ≡ None
both_met d ds none rest = ap (λ (o : Demand). or_else o (first_of ds)) none ∙ rest

pub answered_later : {A : Type 0} {old mid : TxnState} {right : Result A Refusal} {r : Refusal} (new : DiskState) → IsUnchanged old mid
    → IsAnswered mid.disk new right (Err r) → IsAnswered old.disk new right (Err r)
answered_later {A} {old} {mid} {right} {r} new same h = elim h [ inl e ↦ inl e | inr way ↦ inr (interrupts_later new same way) ]

pub on_ok : {A B : Type 0} {P : Type 0} (r : Result A B) → P → OnOk r P
on_ok (Ok x) h = h
on_ok (Err e) h = tt

pub on_err_same : {A B : Type 0} {P : Type 0} (r : Result A B) → P → OnErr r P
on_err_same (Ok x) h = tt
on_err_same (Err e) h = h

-- ---- refusals

-- there is no such process
pub absent_refused : {p : Geometry} {map : SectorMap} {tables : Tables} {s : State} → IsStateOf p map tables s → (old new : DiskState) (who : Who) (call : Call) (errno : Errno)
    → (errno ≡ ESRCH) × IsAbsent tables.processes who → IsRefused old new s (ByCaller who call) (Failed errno)
unfolding firm_refusal
absent_refused {s = s} at old new (ByProcess pid) call errno none =
    let e = ap (λ (d : Tables). get nat_cmp d.processes pid) at.same_tables ∙ none.1 in
    subst (λ (x : Errno). IsRefused old new s (ByCaller (ByProcess pid) call) (Failed x)) (sym none.0) (why.early (rw e refl))
absent_refused {s = s} at old new (ByActor v) call errno none = absurd none.1

module _ (old new : DiskState) (s : State) (request : AnyCall) (firm : firm_refusal s (event_of request) ≡ None) (asks : IsTrue (asks_of request)) (r : Refusal) where
  pub interrupted_refused : Interrupts old new r → IsRefused old new s request r
  interrupted_refused way = elim way [ inl memory ↦ why.lacks_memory firm asks memory | inr read ↦ why.read_fails firm read.1 read.0 ]

  -- by what is asked of what was found
  pub answered_refused : {A : Type 0} (d : Demand) (x : A) → other_refusal s (event_of request) ≡ d → IsAnswered old new (refused_or d (Ok x)) (Err r)
      → IsRefused old new s request r
  answered_refused d x late h = elim h [
    | inl e ↦ why.late firm (late ∙ refused_err d x r e)
    | inr way ↦ interrupted_refused way
  ]

-- ---- a call in a state

module _ (s : State) (pid : ℕ) (q : Process) (call : Call) (there : get nat_cmp s.processes pid ≡ Some q) where
  pub early_is : firm_refusal s (Calls pid call) ≡ early_refusal q (row_of call)
  unfolding firm_refusal
  early_is = rw there refl

  pub late_is : other_refusal s (Calls pid call) ≡ late_refusal s q (row_of call)
  unfolding other_refusal
  late_is = rw there refl

  pub after_is : (choice : Choice) → after s (Calls pid call) choice ≡ after_call s pid (row_of call) choice.ino (Some q)
  unfolding after
  after_is choice = rw there refl

-- ---- a call by one path

or_else-assoc : (a b c : Demand) → or_else a (or_else b c) ≡ or_else (or_else a b) c
or_else-assoc None b c = refl
or_else-assoc (Some r) b c = refl

pub or_else-none : (a : Demand) → or_else a None ≡ a
or_else-none None = refl
or_else-none (Some r) = refl

pub first_of-append : (ds es : List Demand) → first_of (ds ++ es) ≡ or_else (first_of ds) (first_of es)
first_of-append [] es = refl
first_of-append (d ∷ ds) es = ap (or_else d) (first_of-append ds es) ∙ or_else-assoc d (first_of ds) (first_of es)

pub ino_of_trail : (room : Room) (t : Tree) (cwd : ℕ) (form : Form) (path : List ℕ) → (found_by room t cwd (form, path)).ino ≡ (trail_of room t cwd form path).found
unfolding found_of
ino_of_trail room t cwd form path = refl

-- what was found is there
pub found_there : {p : Geometry} {map : SectorMap} {tables : Tables} {s : State} {who : Who} {q : Process} {links : Bool} {form : Form} {path : List ℕ} {f : Found} (n : ℕ)
    → IsStateOf p map tables s → HasFound s who q links form path f → f.ino ≡ Some n → IsThere s.tree n
found_there {p} {map} {tables} {s} {who} {q} {links} {form} {path} {f} n at found is =
    finds_are_there s.room s.tree at.is_state.tree (first_start who q) form path
    (first_start_there s q links path at.is_state at.up who found.there found.started) n
    (sym (ino_of_trail s.room s.tree (first_start who q) form path) ∙ ap (λ (g : Found). g.ino) (sym found.is) ∙ is)

-- ---- of either event

-- its arguments, and then its path
path_early : (arguments checks : List Demand) → first_of (arguments ++ (checks ++ []) ++ []) ≡ or_else (first_of arguments) (first_of checks)
path_early arguments checks =
    first_of-append (arguments ++ (checks ++ [])) []
    ∙ or_else-none (first_of (arguments ++ (checks ++ [])))
    ∙ first_of-append arguments (checks ++ [])
    ∙ ap (or_else (first_of arguments)) (first_of-append checks [] ∙ or_else-none (first_of checks))

-- what no actor calls is refused first
pub actor_early : (call : Call) (d : Demand) → IsTrue (is_actor_call call) → or_else (refuse EBADF (not (is_actor_call call))) d ≡ d
actor_early call d is = ap (λ b. or_else (refuse EBADF (not b)) d) is

-- the demands on the starts are those of its call
pub starts_are : (t : Tree) (v : Actor) (call : Call) (links : Bool) (form : Form) (path : List ℕ) (walks : List (Form × List ℕ)) → acts_on_links call ≡ links
    → start_demands t v call ((form, path) ∷ walks) ≡ starts_asked t (ByActor v) links path
starts_are t v call links form path walks is =
    ap (λ b. refuse ENOENT (not (is_some (node_at t v.start))) ∷ refuse ENOENT (not (is_some (node_at t v.second_start)))
    ∷ refuse ELOOP (is_empty path && is_link_node (node_at t v.start) && not b) ∷ []) is

module _ (s : State) (q : Process) (call : Call) (links : Bool) (form : Form) (path : List ℕ) (arguments : List Demand) (demands : Scene → List Demand)
    (effect : Scene → ℕ → Effect) (row : row_of call ≡ by_path arguments form path demands effect) where
  abbrev found_from : Who → Found
  found_from who = found_by s.room s.tree (first_start who q) (form, path)

  abbrev walk_refuses : Who → Demand
  walk_refuses who = first_refusal s.tree q.cred 1 form (trail_in s.room s.tree (first_start who q) (form, path))

  abbrev row_here : Row
  row_here = by_path arguments form path demands effect

  pub path_firm : (who : Who) → IsJudgedAs s.processes who q → MayMake who call links
      → firm_refusal s (event who call) ≡ or_else (first_of arguments) (first_of (path_asked who path))
  unfolding firm_refusal
  path_firm (ByProcess pid) there may =
      early_is s pid q call there ∙ ap (early_refusal q) row ∙ path_early arguments (path_checks path)
  path_firm (ByActor v) there may =
      actor_early call (first_of ((row_of call).arguments ++ flat_map (λ walk. checks_from walk.1) (row_of call).walks ++ (row_of call).early (judged_as v))) may.0
      ∙ ap (λ (r : Row). first_of (r.arguments ++ flat_map (λ walk. checks_from walk.1) r.walks ++ r.early (judged_as v))) row
      ∙ path_early arguments (checks_from path)

  path_late : (who : Who) → IsJudgedAs s.processes who q → MayMake who call links
      → other_refusal s (event who call) ≡ or_else (first_of (starts_asked s.tree who links path)) (or_else (walk_refuses who) (first_of (demands (scene_at s q (found_from who)))))
  unfolding other_refusal
  path_late (ByProcess pid) there may = late_is s pid q call there ∙ ap (late_refusal s q) row
  path_late (ByActor v) there may =
      ap (late_call_at s v call) row
      ∙ first_of-append (start_demands s.tree v call row_here.walks) (walk_refusals s.room s.tree v.cred (start_of_walk v) 1 row_here.walks ++ demands (actor_scene s v row_here))
      ∙ ap (λ ds. or_else (first_of ds) (first_of (walk_refusals s.room s.tree v.cred (start_of_walk v) 1 row_here.walks ++ demands (actor_scene s v row_here)))) (starts_are s.tree v call links form path [] may.1)
      ∙ ap (λ (k : Process). or_else (first_of (starts_asked s.tree (ByActor v) links path))
      (or_else (first_refusal s.tree k.cred 1 form (trail_in s.room s.tree v.start (form, path))) (first_of (demands (scene_at s k (found_by s.room s.tree v.start (form, path))))))) (sym there.is)

  path_after : (who : Who) (number handle : ℕ) → IsJudgedAs s.processes who q
      → after s (event who call) (chosen number handle 0) ≡ left_by who s call (chosen number handle 0) (effect (scene_at s q (found_from who)) number)
  unfolding after
  path_after (ByProcess pid) number handle there = after_is s pid q call there (chosen number handle 0) ∙ ap (λ (x : Row). after_call s pid x number (Some q)) row
  path_after (ByActor v) number handle there =
      ap (λ (r : Row). after_call_at s call (chosen number handle 0) (r.effect (actor_scene s v r) number)) row
      ∙ ap (λ (k : Process). after_call_at s call (chosen number handle 0) (effect (scene_at s k (found_by s.room s.tree v.start (form, path))) number)) (sym there.is)

-- ---- what an actor is told

no_opening : (call : Call) → IsFalse (opens call) → (handle : ℕ) (q : Process) (openings : Openings) → opened_by call handle q openings ≡ openings
no_opening (Open path flags mode) none handle q openings = absurd (let no : true ≡ false = none in cc)
no_opening _ none handle q openings = refl

told_number : (call : Call) → IsFalse (opens call) → (handle n : ℕ) (effect : Effect) → actor_reply call handle n effect ≡ told_of_made call n effect.reply
told_number (Open path flags mode) none handle n effect = absurd (let no : true ≡ false = none in cc)
told_number _ none handle n effect = refl

quiet_of_made : (call : Call) → IsFalse (is_told call) → (n : ℕ) (reply : Reply) → told_of_made call n reply ≡ reply
quiet_of_made (Mkdir path mode) none n reply = absurd (let no : true ≡ false = none in cc)
quiet_of_made (Symlink target path) none n reply = absurd (let no : true ≡ false = none in cc)
quiet_of_made _ none n reply = refl

-- of most calls it is told no number
pub quiet_told : (who : Who) (call : Call) → IsFalse (is_told call) → (n : ℕ) (reply : Reply) → told_by who call n reply ≡ reply
quiet_told (ByProcess pid) call none n reply = refl
quiet_told (ByActor v) call none n reply = quiet_of_made call none n reply

no_handle : (s : State) (v : Actor) (call : Call) → IsFalse (opens call) → HasNewHandle s (CallAt v call) 0
no_handle s v (Open path flags mode) none = absurd (let no : true ≡ false = none in cc)
no_handle s v _ none = tt

-- and most give no handle
pub no_new_handle : (s : State) (who : Who) (call : Call) → IsFalse (opens call) → HasNewHandle s (event who call) 0
no_new_handle s (ByProcess pid) call none = tt
no_new_handle s (ByActor v) call none = no_handle s v call none

-- an effect that leaves the caller as it is leaves both tables so
pub left_same : {p : Geometry} {map : SectorMap} {tables : Tables} {s : State} (at : IsStateOf p map tables s) (who : Who) (q : Process) → IsJudgedAs s.processes who q
    → (call : Call) → IsFalse (opens call) → (choice : Choice) (change : Change) (reply : Reply)
    → left_by who s call choice (record { change = change; process = q; reply = reply }) ≡ leaving s tables change (told_by who call choice.ino reply)
left_same {s = s} at (ByProcess pid) q there call none choice change reply =
    ap (λ (d : ProcessTable). leaving s (both d s.openings) change reply) (same_process_stays s.processes pid q at.is_state.pids there)
    ∙ ap (λ (d : Tables). leaving s d change reply) at.same_tables
left_same {s = s} at (ByActor v) q there call none choice change reply =
    ap (λ (o : Openings). leaving s (both s.processes o) change (actor_reply call choice.handle choice.ino (record { change = change; process = q; reply = reply }))) (no_opening call none choice.handle q s.openings)
    ∙ ap (λ (x : Reply). leaving s (tables_in s) change x) (told_number call none choice.handle choice.ino (record { change = change; process = q; reply = reply }))
    ∙ ap (λ (d : Tables). leaving s d change (told_of_made call choice.ino reply)) at.same_tables

-- ---- a call by one path

module _ (s : State) (who : Who) (q : Process) (call : Call) (links : Bool) (form : Form) (path : List ℕ) (arguments : List Demand) (demands : Scene → List Demand)
    (effect : Scene → ℕ → Effect) (row : row_of call ≡ by_path arguments form path demands effect) (met : first_of arguments ≡ None) (may : MayMake who call links)
    (there : IsJudgedAs s.processes who q) where
  abbrev start : ℕ
  start = first_start who q

  pub by_path_firm : firm_refusal s (event who call) ≡ first_of (path_asked who path)
  by_path_firm = path_firm s q call links form path arguments demands effect row who there may ∙ ap (λ d. or_else d (first_of (path_asked who path))) met

  pub by_path_late : other_refusal s (event who call)
      ≡ or_else (first_of (starts_asked s.tree who links path)) (or_else (first_refusal s.tree q.cred 1 form (trail_in s.room s.tree start (form, path)))
      (first_of (demands (scene_at s q (found_by s.room s.tree start (form, path))))))
  by_path_late = path_late s q call links form path arguments demands effect row who there may

  -- the checks or the walk refuse, or memory or a read fails
  pub resolve_refused : (old new : DiskState) (r : Refusal) → IsTrue (asks_in_call call)
      → ((x : Refusal) → first_of (path_asked who path) ≡ Some x → r ≡ x)
      → (first_of (path_asked who path) ≡ None → IsAnswered old new (walk_by s who q links form path) (Err r))
      → IsRefused old new s (ByCaller who call) r
  resolve_refused old new r asks checked each = go (first_of (path_asked who path)) refl
    where
      go : (o : Demand) → first_of (path_asked who path) ≡ o → IsRefused old new s (ByCaller who call) r
      go (Some x) e = why.early (by_path_firm ∙ e ∙ ap Some (sym (checked x e)))
      go None e = elim (each e) [
        | inl is ↦ why.late (by_path_firm ∙ e)
            (by_path_late
            ∙ or_else-assoc (first_of (starts_asked s.tree who links path)) (first_refusal s.tree q.cred 1 form (trail_in s.room s.tree start (form, path))) (first_of (demands (scene_at s q (found_by s.room s.tree start (form, path)))))
            ∙ ap (λ x. or_else x (first_of (demands (scene_at s q (found_by s.room s.tree start (form, path)))))) (refused_err (or_else (first_of (starts_asked s.tree who links path)) (first_refusal s.tree q.cred 1 form (trail_in s.room s.tree start (form, path)))) (found_by s.room s.tree start (form, path)) r is))
        | inr way ↦ interrupted_refused old new s (ByCaller who call) (by_path_firm ∙ e) asks r way
      ]

  module _ (f : Found) (found : HasFound s who q links form path f) where
    pub found_firm : firm_refusal s (event who call) ≡ None
    found_firm = by_path_firm ∙ found.checked

    -- what remains are the demands on what was found
    pub found_late : other_refusal s (event who call) ≡ first_of (demands (scene_at s q f))
    found_late =
        by_path_late
        ∙ ap (λ x. or_else x (or_else (first_refusal s.tree q.cred 1 form (trail_in s.room s.tree start (form, path)))
        (first_of (demands (scene_at s q (found_by s.room s.tree start (form, path))))))) found.started
        ∙ ap (λ x. or_else x (first_of (demands (scene_at s q (found_by s.room s.tree start (form, path)))))) found.unrefused
        ∙ ap (λ (g : Found). first_of (demands (scene_at s q g))) (sym found.is)

    pub found_after : (number handle : ℕ) → after s (event who call) (chosen number handle 0) ≡ left_by who s call (chosen number handle 0) (effect (scene_at s q f) number)
    found_after number handle =
        path_after s q call links form path arguments demands effect row who number handle there
        ∙ ap (λ (g : Found). left_by who s call (chosen number handle 0) (effect (scene_at s q g) number)) (sym found.is)

    -- where it only answers
    pub found_told : {p : Geometry} {map : SectorMap} {tables : Tables} (reply : Reply) → IsFalse (opens call) → IsFalse (is_told call) → IsStateOf p map tables s
        → effect (scene_at s q f) 0 ≡ answers (scene_at s q f) reply → after s (event who call) (chosen 0 0 0) ≡ unchanged s reply
    found_told reply none quiet at is =
        found_after 0 0 ∙ ap (left_by who s call (chosen 0 0 0)) is ∙ left_same at who q there call none (chosen 0 0 0) Same reply
        ∙ ap (leaving s _ Same) (quiet_told who call quiet 0 reply)
        ∙ ap (λ (d : Tables). leaving s d Same reply) (sym at.same_tables)

-- what the walk of a path has found
pub resolved : (old new : DiskState) {s : State} {who : Who} {q : Process} {links : Bool} {form : Form} {path : List ℕ} (f : Found) → IsJudgedAs s.processes who q
    → first_of (path_asked who path) ≡ None → IsAnswered old new (walk_by s who q links form path) (Ok f) → HasFound s who q links form path f
resolved old new {s} {who} {q} {links} {form} {path} f there checked e =
    let begin = first_of (starts_asked s.tree who links path) in
    let refusal = first_refusal s.tree q.cred 1 form (trail_in s.room s.tree (first_start who q) (form, path)) in
    let is = met_ok (or_else begin refusal) (found_by s.room s.tree (first_start who q) (form, path)) f e in
    record { there = there; checked = checked; started = first_met begin refusal is.0; unrefused = then_met begin refusal is.0; is = sym is.1 }

-- ---- a call that changes nothing

told_done : {p : Geometry} {time : ℕ} {map : SectorMap} {tables : Tables} {s : State} (new : SectorMap) (old' new' : DiskState) (request : AnyCall) (reply : Reply) → new ≡ map
    → IsStateOf p map tables s → IsTold old' new' s request (Ok reply) → IsDone p time new tables s request reply
told_done {p} {time} {map} {tables} {s} new old' new' request reply same at told = record {
  early = told.0;
  late = told.1;
  number = 0;
  handle = 0;
  change = Same;
  effect = told.3 ∙ ap (λ (d : Tables). leaving s d Same reply) at.same_tables;
  new_number = tt;
  new_handle = told.2;
  holds = subst (λ (d : Tables). HoldsAll p new (placed (swept (changed s.tree Same) (users_of d)))) at.same_tables
      (subst (λ (t : Tree). HoldsAll p new (placed t)) (sym (nothing_to_drop s.room s.tree s.processes s.openings at.is_state.tree (at.is_state.processes at.up)))
      (subst (λ (m : SectorMap). HoldsAll p m (placed s.tree)) (sym same) at.holds));
}

pub told_performs : {p : Geometry} {time : ℕ} {request : AnyCall} {old new : TxnState} {tables : Tables} (result : Result Reply Refusal) → IsUnchanged old new
    → ((s : State) → IsStateOf p old.sectors tables s → IsTold old.disk new.disk s request result) → Performs p time request old new tables tables result
told_performs {p} {time} {request} {old} {new} {tables} (Ok reply) same each = record {
  store = same.store;
  super = same.sectors 0;
  table = tt;
  each = λ s at. told_done new.sectors old.disk new.disk request reply (same_map same) at (each s at);
}
told_performs {p} {time} {request} {old} {new} {tables} (Err r) same each = record {
  store = same.store;
  super = tt;
  table = refl;
  each = λ s at. each s at;
}

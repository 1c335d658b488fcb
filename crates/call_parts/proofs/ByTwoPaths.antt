-- The exits of a call by two paths.
--     first_refused, second_refused, first_unfit, second_unfit, both_fit, path_short        the checks of its paths
--     walked_as, first_walk_refused, second_walk_refused, both_walked        its walks
--     absent_both, unwalked_both, walks_refused        its process, the checks or the walks of its paths refuse
--     both_found        what its walks have found
--     both_refused        what it asks of that refuses
--     both_broken, both_broken_later        the disk fails
--     both_performs        it is done
use Rattle.call_parts.specs.BothTables.{Tables}
use Rattle.std.specs.Prelude.{◌≡◌, ℕ, Bool, List, [], ◌∷◌, ◌++◌, None, Some, IsFalse, Result, Ok, Err, IsErr, IsErrAnd}
use Rattle.std.proofs.Common.{refl, sym, ap, ◌∙◌, inl, inr}
use Rattle.sector_disk.specs.Disk.{DiskState}
use Rattle.sector_disk.proofs.Moments.{failed_later}
use Rattle.fs_cred.specs.declared.errno.Errno.{Errno}
use Rattle.fs_cred.specs.declared.errno.Errno.TheVariants.{ESRCH}
use Rattle.fs_cred.specs.declared.refusal.Refusal.{Refusal}
use Rattle.fs_cred.specs.declared.refusal.Refusal.TheVariants.{Failed}
use Rattle.fs_layout.specs.declared.geometry.Geometry.{Geometry}
use Rattle.fs_layout.specs.Bytes.{SectorMap}
use Rattle.sector_txn.specs.Sectors.{TxnState, SameStore, IsUnchanged}
use Rattle.sector_txn.proofs.TransactionRuns.{store_joined}
use Rattle.fs_model.specs.declared.call.Call.{Call}
use Rattle.fs_model.specs.declared.reply.Reply.{Reply}
use Rattle.fs_model.specs.declared.touch.Touch.{Touch}
use Rattle.fs_model.specs.declared.walk.Form.TheVariants.{Parent}
use Rattle.fs_model.specs.declared.walk.Found.{Found}
use Rattle.fs_model.specs.Demands.{Demand, or_else, first_of}
use Rattle.fs_model.specs.Processes.{Process}
use Rattle.fs_model.specs.Scenes.{Scene, Effect, Row}
use Rattle.fs_model.specs.States.{State}
use Rattle.fs_model.specs.Steps.{after, after_call, early_refusal, late_refusal, firm_refusal, other_refusal, found_by}
use Rattle.fs_model.proofs.StepsDemands.{first_met, then_met}
use Rattle.path_walk.specs.Answers.{refused_or, FailsToRead, IsAnswered}
use Rattle.call_parts.specs.Performing.{IsStateOf, IsRefused, Performs, chosen}
use Rattle.call_parts.specs.Performing as why
use Rattle.path_walk.specs.Walked.{walk_of}
use Rattle.call_parts.proofs.ByPath.{refusing, refused_performs}
use Rattle.std.specs.List.{flat_map}
use Rattle.fs_model.specs.Rows.{row_of}
use Rattle.fs_model.specs.Scenes.{by_two_paths}
use Rattle.fs_model.specs.Steps.{after_call_at, late_call_at, actor_scene, walk_refusals}
use Rattle.fs_model.specs.Actors.{judged_as, start_of_walk, checks_from, start_demands}
use Rattle.call_parts.specs.Callers.{Who, ByProcess, ByActor, ByCaller, is_told, leaving, event, IsJudgedAs, IsAbsent, MayMake, first_start, second_start, path_asked, starts_asked, left_by}
use Rattle.call_parts.proofs.Calling.{absent_refused, no_new_handle, quiet_told, early_is, late_is, after_is, actor_early, starts_are, left_same, or_else-none, state_kept, same_caller, first_of-append, met_ok, refused_err, answered_later, answered_refused, interrupted_refused}
use Rattle.path_walk.proofs.Kept.{is_err, interrupts_later}
use Rattle.call_parts.specs.Times.{MovesTimes}
use Rattle.call_parts.proofs.Changed.{IsChange, times_moved}
use Rattle.call_parts.proofs.Ownership.{all_met}
use Rattle.call_parts.proofs.Refuses.{demand_met}
use Rattle.call_parts.specs.Telling.{checked}
use Rattle.call_parts.specs.Reaching.{WalksBoth, RefusesBoth, HasWalkedBoth}
use Rattle.call_parts.specs.TwoPaths.{both_asked, walk_refusal, walks_by, scene_with, HasFoundBoth}

-- ---- both paths, one after the other

module _ (who : Who) (old new : List ℕ) where
  -- the first is refused
  first_refused : (e : Refusal) → checked (first_of (path_asked who old)) ≡ Err e → first_of (both_asked who old new) ≡ Some e
  first_refused e is =
      first_of-append (path_asked who old) (path_asked who new)
      ∙ ap (λ (d : Demand). or_else d (first_of (path_asked who new))) (refused_err {A = Unit {0}} (first_of (path_asked who old)) tt e is)

  -- the first may be walked, and the second is refused with this
  second_refused : (e : Refusal) → checked (first_of (path_asked who old)) ≡ Ok tt → checked (first_of (path_asked who new)) ≡ Err e
      → first_of (both_asked who old new) ≡ Some e
  second_refused e met is =
      first_of-append (path_asked who old) (path_asked who new)
      ∙ ap (λ (d : Demand). or_else d (first_of (path_asked who new))) (met_ok {A = Unit {0}} (first_of (path_asked who old)) tt tt met).0
      ∙ refused_err {A = Unit {0}} (first_of (path_asked who new)) tt e is

  -- both may be walked
  pub both_fit : checked (first_of (path_asked who old)) ≡ Ok tt → checked (first_of (path_asked who new)) ≡ Ok tt → first_of (both_asked who old new) ≡ None
  both_fit first second =
      all_met (path_asked who old) (path_asked who new) (demand_met (first_of (path_asked who old)) first) (demand_met (first_of (path_asked who new)) second)

  module _ {A : Type 0} (r : Result A Refusal) (e : Refusal) (err : IsErr r) (and : IsErrAnd r (λ y. y ≡ e)) where
    refused_by : {x : Refusal} → first_of (both_asked who old new) ≡ Some e → first_of (both_asked who old new) ≡ Some x → r ≡ Err x
    refused_by {x} is other =
        let same : e ≡ x = (let both : Some e ≡ Some x = sym is ∙ other in cc) in
        is_err r e err and ∙ ap (λ (y : Refusal). Err y) same

    -- the first may not be walked
    pub first_unfit : checked (first_of (path_asked who old)) ≡ Err e → (x : Refusal) → first_of (both_asked who old new) ≡ Some x → r ≡ Err x
    first_unfit is x = refused_by (first_refused e is)

    -- the first may be walked, and the second may not
    pub second_unfit : checked (first_of (path_asked who old)) ≡ Ok tt → checked (first_of (path_asked who new)) ≡ Err e
        → (x : Refusal) → first_of (both_asked who old new) ≡ Some x → r ≡ Err x
    second_unfit met is x = refused_by (second_refused e met is)

  -- and then it isn't so that nothing refuses them
  pub first_not_met : (e : Refusal) → checked (first_of (path_asked who old)) ≡ Err e → first_of (both_asked who old new) ≡ None → ⊥
  first_not_met e is none = let both : Some e ≡ None = sym (first_refused e is) ∙ none in cc

  pub second_not_met : (e : Refusal) → checked (first_of (path_asked who old)) ≡ Ok tt → checked (first_of (path_asked who new)) ≡ Err e → first_of (both_asked who old new) ≡ None → ⊥
  second_not_met e met is none = let both : Some e ≡ None = sym (second_refused e met is) ∙ none in cc

  pub both_met_not : (x : Refusal) → first_of (both_asked who old new) ≡ Some x → first_of (both_asked who old new) ≡ None → ⊥
  both_met_not x some none = let both : Some x ≡ None = sym some ∙ none in cc

-- the starts and both walks, one after another
module _ (s : State) (who : Who) (q : Process) (links : Bool) (old new : List ℕ) (before after : DiskState) where
  abbrev starts : Demand
  starts = first_of (starts_asked s.tree who links old)

  abbrev one : Demand
  one = walk_refusal s.room s.tree q.cred 1 (first_start who q) old

  abbrev two : Demand
  two = walk_refusal s.room s.tree q.cred 2 (second_start who q) new

  abbrev finds : Found × Found
  finds = (found_by s.room s.tree (first_start who q) (Parent, old), found_by s.room s.tree (second_start who q) (Parent, new))

  -- the starts are refused
  pub starts_refused : (e : Refusal) → IsAnswered before after (checked starts) (Err e) → IsAnswered before after (walks_by s who q links old new) (Err e)
  starts_refused e h = elim h [
    | inl is ↦ inl (ap (λ (d : Demand). refused_or {A = Found × Found} (or_else d (or_else one two)) (Ok finds)) (refused_err {A = Unit {0}} starts tt e is))
    | inr way ↦ inr way
  ]

  module _ (started : checked starts ≡ Ok tt) where
    from_starts : or_else starts (or_else one two) ≡ or_else one two
    from_starts = ap (λ (d : Demand). or_else d (or_else one two)) (demand_met starts started)

    -- the first is refused
    pub first_walk_refused : (e : Refusal) → IsAnswered before after (walk_of s.room s.tree q.cred 1 Parent (first_start who q) old) (Err e)
        → IsAnswered before after (walks_by s who q links old new) (Err e)
    first_walk_refused e h = elim h [
      | inl is ↦ inl (ap (λ (d : Demand). refused_or {A = Found × Found} d (Ok finds)) (from_starts ∙ ap (λ (d : Demand). or_else d two) (refused_err {A = Found} one finds.0 e is)))
      | inr way ↦ inr way
    ]

    module _ (f : Found) (first : walk_of s.room s.tree q.cred 1 Parent (first_start who q) old ≡ Ok f) where
      met : or_else starts (or_else one two) ≡ two
      met = from_starts ∙ ap (λ (d : Demand). or_else d two) (met_ok {A = Found} one finds.0 f first).0

      -- the first finds this, and the second is refused
      pub second_walk_refused : (e : Refusal) → IsAnswered before after (walk_of s.room s.tree q.cred 2 Parent (second_start who q) new) (Err e)
          → IsAnswered before after (walks_by s who q links old new) (Err e)
      second_walk_refused e h = elim h [
        | inl is ↦ inl (ap (λ (d : Demand). refused_or {A = Found × Found} d (Ok finds)) (met ∙ refused_err {A = Found} two finds.1 e is))
        | inr way ↦ inr way
      ]

      -- both find these
      pub both_walked : (g : Found) → walk_of s.room s.tree q.cred 2 Parent (second_start who q) new ≡ Ok g → walks_by s who q links old new ≡ Ok (f, g)
      both_walked g second =
          let a = met_ok {A = Found} one finds.0 f first in
          let b = met_ok {A = Found} two finds.1 g second in
          ap (λ (d : Demand). refused_or {A = Found × Found} d (Ok finds)) (met ∙ b.0)
          ∙ ap (λ (x : Found). Ok (x, finds.1)) a.1 ∙ ap (λ (x : Found). Ok (f, x)) b.1

pub same_err : (x y : Refusal) → refusing (Found × Found) x ≡ Err y → x ≡ y
same_err x y e = cc

-- ---- a row

joined : (a b c : Demand) → or_else a (or_else b c) ≡ or_else (or_else a b) c
joined None b c = refl
joined (Some r) b c = refl

paths_early : (one two : List Demand) → first_of (([] ++ (one ++ (two ++ []))) ++ []) ≡ first_of (one ++ two)
paths_early one two =
    first_of-append (one ++ (two ++ [])) [] ∙ or_else-none (first_of (one ++ (two ++ []))) ∙ first_of-append one (two ++ [])
    ∙ ap (or_else (first_of one)) (first_of-append two [] ∙ or_else-none (first_of two)) ∙ sym (first_of-append one two)

module _ (s : State) (q : Process) (call : Call) (links : Bool) (old_path new_path : List ℕ) (demands : Scene → List Demand) (effect : Scene → Effect)
    (row : row_of call ≡ by_two_paths old_path new_path demands effect) where
  abbrev scene_from : Who → Scene
  scene_from who = scene_with s q (found_by s.room s.tree (first_start who q) (Parent, old_path)) (found_by s.room s.tree (second_start who q) (Parent, new_path))

  abbrev row_here : Row
  row_here = by_two_paths old_path new_path demands effect

  abbrev walks : Who → Demand
  walks who = or_else (walk_refusal s.room s.tree q.cred 1 (first_start who q) old_path) (walk_refusal s.room s.tree q.cred 2 (second_start who q) new_path)

  paths_firm : (who : Who) → IsJudgedAs s.processes who q → MayMake who call links → firm_refusal s (event who call) ≡ first_of (both_asked who old_path new_path)
  unfolding firm_refusal
  paths_firm (ByProcess pid) there may = early_is s pid q call there ∙ ap (early_refusal q) row
  paths_firm (ByActor v) there may =
      actor_early call (first_of ((row_of call).arguments ++ flat_map (λ walk. checks_from walk.1) (row_of call).walks ++ (row_of call).early (judged_as v))) may.0
      ∙ ap (λ (r : Row). first_of (r.arguments ++ flat_map (λ walk. checks_from walk.1) r.walks ++ r.early (judged_as v))) row
      ∙ paths_early (checks_from old_path) (checks_from new_path)

  paths_late : (who : Who) → IsJudgedAs s.processes who q → MayMake who call links
      → other_refusal s (event who call) ≡ or_else (first_of (starts_asked s.tree who links old_path)) (or_else (walks who) (first_of (demands (scene_from who))))
  unfolding other_refusal
  paths_late (ByProcess pid) there may =
      late_is s pid q call there ∙ ap (late_refusal s q) row
      ∙ joined (walk_refusal s.room s.tree q.cred 1 q.cwd old_path) (walk_refusal s.room s.tree q.cred 2 q.cwd new_path) (first_of (demands (scene_from (ByProcess pid))))
  paths_late (ByActor v) there may =
      ap (late_call_at s v call) row
      ∙ first_of-append (start_demands s.tree v call row_here.walks) (walk_refusals s.room s.tree v.cred (start_of_walk v) 1 row_here.walks ++ demands (actor_scene s v row_here))
      ∙ ap (λ ds. or_else (first_of ds) (first_of (walk_refusals s.room s.tree v.cred (start_of_walk v) 1 row_here.walks ++ demands (actor_scene s v row_here))))
      (starts_are s.tree v call links Parent old_path ((Parent, new_path) ∷ []) may.1)
      ∙ ap (λ (k : Process). or_else (first_of (starts_asked s.tree (ByActor v) links old_path))
      (or_else (walk_refusal s.room s.tree k.cred 1 v.start old_path) (or_else (walk_refusal s.room s.tree k.cred 2 v.second_start new_path)
      (first_of (demands (scene_with s k (found_by s.room s.tree v.start (Parent, old_path)) (found_by s.room s.tree v.second_start (Parent, new_path)))))))) (sym there.is)
      ∙ ap (or_else (first_of (starts_asked s.tree (ByActor v) links old_path)))
      (joined (walk_refusal s.room s.tree q.cred 1 v.start old_path) (walk_refusal s.room s.tree q.cred 2 v.second_start new_path) (first_of (demands (scene_from (ByActor v)))))

  paths_after : (who : Who) (number : ℕ) → IsJudgedAs s.processes who q
      → after s (event who call) (chosen number 0 0) ≡ left_by who s call (chosen number 0 0) (effect (scene_from who))
  unfolding after
  paths_after (ByProcess pid) number there = after_is s pid q call there (chosen number 0 0) ∙ ap (λ (x : Row). after_call s pid x number (Some q)) row
  paths_after (ByActor v) number there =
      ap (λ (r : Row). after_call_at s call (chosen number 0 0) (r.effect (actor_scene s v r) number)) row
      ∙ ap (λ (k : Process). after_call_at s call (chosen number 0 0)
      (effect (scene_with s k (found_by s.room s.tree v.start (Parent, old_path)) (found_by s.room s.tree v.second_start (Parent, new_path))))) (sym there.is)

module _ (s : State) (who : Who) (q : Process) {call : Call} {links : Bool} {old_path new_path : List ℕ} {demands : Scene → List Demand} {effect : Scene → Effect}
    (is : WalksBoth who call links old_path new_path demands effect) (there : IsJudgedAs s.processes who q) where
  abbrev found_scenes : Scene
  found_scenes = scene_from s q call links old_path new_path demands effect is.row who

  both_firm : firm_refusal s (event who call) ≡ first_of (both_asked who old_path new_path)
  both_firm = paths_firm s q call links old_path new_path demands effect is.row who there is.may

  both_late : other_refusal s (event who call)
      ≡ or_else (first_of (starts_asked s.tree who links old_path)) (or_else (walks s q call links old_path new_path demands effect is.row who) (first_of (demands found_scenes)))
  both_late = paths_late s q call links old_path new_path demands effect is.row who there is.may

  -- the checks or the walks refuse, or memory or a read fails
  pub walks_refuse : (old new : DiskState) (r : Refusal) → ((x : Refusal) → first_of (both_asked who old_path new_path) ≡ Some x → r ≡ x)
      → (first_of (both_asked who old_path new_path) ≡ None → IsAnswered old new (walks_by s who q links old_path new_path) (Err r))
      → IsRefused old new s (ByCaller who call) r
  walks_refuse old new r fit each = go (first_of (both_asked who old_path new_path)) refl
    where
      go : (o : Demand) → first_of (both_asked who old_path new_path) ≡ o → IsRefused old new s (ByCaller who call) r
      go (Some x) e = why.early (both_firm ∙ e ∙ ap Some (sym (fit x e)))
      go None e = elim (each e) [
        | inl refuses ↦ why.late (both_firm ∙ e)
            (both_late
            ∙ joined (first_of (starts_asked s.tree who links old_path)) (walks s q call links old_path new_path demands effect is.row who) (first_of (demands found_scenes))
            ∙ ap (λ (x : Demand). or_else x (first_of (demands found_scenes)))
            (refused_err {A = Found × Found} (or_else (first_of (starts_asked s.tree who links old_path)) (walks s q call links old_path new_path demands effect is.row who)) (found_by s.room s.tree (first_start who q) (Parent, old_path), found_by s.room s.tree (second_start who q) (Parent, new_path)) r refuses))
        | inr way ↦ interrupted_refused old new s (ByCaller who call) (both_firm ∙ e) is.asks r way
      ]

  module _ {f g : Found} (found : HasFoundBoth s who q links old_path new_path f g) where
    found_scene : found_scenes ≡ scene_with s q f g
    found_scene =
        ap (λ (x : Found). scene_with s q x (found_by s.room s.tree (second_start who q) (Parent, new_path))) (sym found.first_is) ∙ ap (λ (x : Found). scene_with s q f x) (sym found.second_is)

    both_found_firm : firm_refusal s (event who call) ≡ None
    both_found_firm = both_firm ∙ found.checked

    -- what remains are the demands on what was found
    both_found_late : other_refusal s (event who call) ≡ first_of (demands (scene_with s q f g))
    both_found_late =
        both_late
        ∙ ap (λ (x : Demand). or_else x (or_else (walks s q call links old_path new_path demands effect is.row who) (first_of (demands found_scenes)))) found.started
        ∙ ap (λ (x : Demand). or_else (or_else x (walk_refusal s.room s.tree q.cred 2 (second_start who q) new_path)) (first_of (demands found_scenes))) found.first_unrefused
        ∙ ap (λ (x : Demand). or_else x (first_of (demands found_scenes))) found.second_unrefused
        ∙ ap (λ (x : Scene). first_of (demands x)) found_scene

    both_found_after : (number : ℕ) → after s (event who call) (chosen number 0 0) ≡ left_by who s call (chosen number 0 0) (effect (scene_with s q f g))
    both_found_after number =
        paths_after s q call links old_path new_path demands effect is.row who number there ∙ ap (λ (x : Scene). left_by who s call (chosen number 0 0) (effect x)) found_scene

-- ---- each call that walks both so is refused

-- there is no such process
pub absent_both : {p : Geometry} {map : SectorMap} {tables : Tables} {s : State} → IsStateOf p map tables s → (old new : DiskState) (who : Who) (links : Bool) (old_path new_path : List ℕ) (errno : Errno)
    → (errno ≡ ESRCH) × IsAbsent tables.processes who → RefusesBoth old new s who links old_path new_path (Failed errno)
absent_both at old new who links old_path new_path errno none = record { each = λ call demands effect w. absent_refused at old new who call errno none }

-- the checks or the walks of its paths refuse
pub unwalked_both : (old new : DiskState) (s : State) (who : Who) (q : Process) → IsJudgedAs s.processes who q → (links : Bool) (old_path new_path : List ℕ) (e : Refusal)
    → ((x : Refusal) → first_of (both_asked who old_path new_path) ≡ Some x → e ≡ x)
    → (first_of (both_asked who old_path new_path) ≡ None → IsAnswered old new (walks_by s who q links old_path new_path) (Err e))
    → RefusesBoth old new s who links old_path new_path e
unwalked_both old new s who q there links old_path new_path e fit each = record {
  each = λ call demands effect is. walks_refuse s who q is there old new e fit each;
}

-- what the walks have found
pub both_found : (old new : DiskState) (s : State) (who : Who) (q : Process) → IsJudgedAs s.processes who q → (links : Bool) (old_path new_path : List ℕ) (f g : Found)
    → first_of (both_asked who old_path new_path) ≡ None
    → IsAnswered old new (walks_by s who q links old_path new_path) (Ok (f, g)) → HasFoundBoth s who q links old_path new_path f g
both_found old new s who q there links old_path new_path f g fit is =
    let starts = first_of (starts_asked s.tree who links old_path) in
    let one = walk_refusal s.room s.tree q.cred 1 (first_start who q) old_path in
    let two = walk_refusal s.room s.tree q.cred 2 (second_start who q) new_path in
    let both = met_ok {A = Found × Found} (or_else starts (or_else one two))
    (found_by s.room s.tree (first_start who q) (Parent, old_path), found_by s.room s.tree (second_start who q) (Parent, new_path)) (f, g) is in
    let rest = then_met starts (or_else one two) both.0 in
    record {
      there = there;
      checked = fit;
      started = first_met starts (or_else one two) both.0;
      first_unrefused = first_met one two rest;
      second_unrefused = then_met one two rest;
      first_is = sym (ap (λ (x : Found × Found). x.0) both.1);
      second_is = sym (ap (λ (x : Found × Found). x.1) both.1);
    }

-- ---- a call that walks both so

module _ {who : Who} {call : Call} {links : Bool} {old_path new_path : List ℕ} {demands : Scene → List Demand} {effect : Scene → Effect}
    (is : WalksBoth who call links old_path new_path demands effect) {p : Geometry} where
  -- the refusal of the walks is passed on
  pub walks_refused : {time : ℕ} {old new : TxnState} {tables : Tables} (r : Result Reply Refusal) (e : Refusal) → IsErr r → IsErrAnd r (λ y. y ≡ e) → IsUnchanged old new
      → ((s : State) → IsStateOf p old.sectors tables s → RefusesBoth old.disk new.disk s who links old_path new_path e) → Performs p time (ByCaller who call) old new tables tables r
  walks_refused r e err and same refuses = refused_performs r e err and same.store (λ s at. (refuses s at).each call demands effect is)

  module _ {old mid : TxnState} (same : IsUnchanged old mid) {tables : Tables} {q : Process} {f g : Found} (w : HasWalkedBoth p mid tables who links old_path new_path q f g) where
    module _ (s : State) (at : IsStateOf p old.sectors tables s) where
      has : HasFoundBoth s who q links old_path new_path f g
      has = w.found s (state_kept same at)

      here : IsJudgedAs s.processes who q
      here = same_caller at who q w.there

    -- what it asks of what was found refuses
    pub both_refused : {time : ℕ} (new : TxnState) (r : Result Reply Refusal) (e : Refusal) → IsErr r → IsErrAnd r (λ y. y ≡ e) → SameStore mid new
        → {A : Type 0} (x : A) → ((s : State) → HasFoundBoth s who q links old_path new_path f g → IsStateOf p mid.sectors tables s
        → IsAnswered mid.disk new.disk (refused_or (first_of (demands (scene_with s q f g))) (Ok x)) (Err e))
        → Performs p time (ByCaller who call) old new tables tables r
    both_refused new r e err and store {A} x refused = refused_performs r e err and (store_joined same.store store)
        (λ s at.
        answered_refused old.disk new.disk s (ByCaller who call) (both_found_firm s who q is (here s at) (has s at)) is.asks e
        (first_of (demands (scene_with s q f g))) x (both_found_late s who q is (here s at) (has s at))
        (answered_later new.disk same (refused s (has s at) (state_kept same at))))

    -- or a fault, in what it does after that
    pub both_broken : {time : ℕ} {last : TxnState} (new : TxnState) (r : Result Reply Refusal) (e : Refusal) → IsErr r × IsErrAnd r (λ y. y ≡ e) → IsUnchanged mid last → SameStore last new
        → FailsToRead last.disk new.disk e → Performs p time (ByCaller who call) old new tables tables r
    both_broken {last} new r e err later store fault =
        both_refused new r e err.0 err.1 (store_joined later.store store) {A = ℕ} 0 (λ s has at. inr (interrupts_later new.disk later (inr fault)))

    -- or a fault, after the call has changed the tree
    pub both_broken_later : {time : ℕ} {last : TxnState} (new : TxnState) (r : Result Reply Refusal) (e : Refusal) → IsErr r × IsErrAnd r (λ y. y ≡ e) → SameStore mid last → SameStore last new
        → FailsToRead last.disk new.disk e → Performs p time (ByCaller who call) old new tables tables r
    both_broken_later {last} new r e err first store fault = both_refused new r e err.0 err.1 (store_joined first store) {A = ℕ} 0
        (λ s has at. inr (inr (fault.0, failed_later mid.disk last.disk new.disk first.reads.failures fault.1)))

    -- the call has changed the tree, and then its times have moved
    pub both_performs : {time : ℕ} → IsFalse (is_told call) → (last : TxnState) {new : TxnState} {touches : List (ℕ × Touch)} → SameStore mid last → last.sectors 0 ≡ mid.sectors 0 → MovesTimes p time touches last new → (reply : Reply)
        → ((s : State) → HasFoundBoth s who q links old_path new_path f g → IsStateOf p mid.sectors tables s
        → IsChange p last.sectors tables s q (demands (scene_with s q f g)) (λ n. effect (scene_with s q f g)) reply touches)
        → Performs p time (ByCaller who call) old new tables tables (Ok reply)
    both_performs quiet last store super moved reply changes = record {
      store = store_joined same.store (store_joined store moved.store);
      super = moved.super ∙ super ∙ same.sectors 0;
      table = tt;
      each = λ s at.
          let found = has s at in
          let c = changes s found (state_kept same at) in
          record {
            early = both_found_firm s who q is (here s at) found;
            late = both_found_late s who q is (here s at) found ∙ c.met;
            number = c.number;
            handle = 0;
            change = c.change;
            effect = both_found_after s who q is (here s at) found c.number
                ∙ ap (left_by who s call (chosen c.number 0 0)) c.is ∙ left_same at who q (here s at) call is.opens (chosen c.number 0 0) c.change reply
                ∙ ap (leaving s tables c.change) (quiet_told who call quiet c.number reply);
            new_number = c.new_number;
            new_handle = no_new_handle s who call is.opens;
            holds = times_moved at c moved;
          };
    }

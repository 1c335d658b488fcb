-- What opens, lists and closes directories by handles of others keeps states alike to someone outside.
use Rattle.std.specs.Prelude.{◌≡◌, ℕ, ◌==◌, Bool, true, false, ◌||◌, not, cond, List, [], ◌∷◌, ◌++◌, Option, None, Some, is_some, unwrap_or}
use Rattle.std.proofs.Common.{refl, sym, ap, ◌∙◌, subst, arith}
use Rattle.std.proofs.lemmas.Bool.{or_parts, or_right}
use Rattle.std.proofs.lemmas.Bool.Decides.{nat_tests}
use Rattle.std.specs.List.{list_any}
use Rattle.std.specs.Ordering.{nat_cmp, is_eq, eq_by_cmp}
use Rattle.fs_cred.specs.declared.errno.Errno.TheVariants.{ENOENT}
use Rattle.fs_layout.specs.Maps.{get, with_entry, without, IsMap}
use Rattle.fs_layout.proofs.FirstEntries.{tied, apart}
use Rattle.fs_layout.proofs.MapLaws.{get-with_entry}
use Rattle.fs_model.specs.declared.call.Call.{Call}
use Rattle.fs_model.specs.declared.call.Call.TheVariants.{Open as OpenCall}
use Rattle.fs_model.specs.declared.call.Flags.{Flags}
use Rattle.fs_model.specs.declared.event.Event.{Event}
use Rattle.fs_model.specs.declared.event.Event.TheVariants.{CallAt, CallBy}
use Rattle.fs_model.specs.declared.event.Actor.{Actor}
use Rattle.fs_model.specs.declared.event.HandleCall.TheVariants.{List as ListBy, Close as CloseBy}
use Rattle.fs_model.specs.declared.reply.Reply.{Reply}
use Rattle.fs_model.specs.declared.reply.Reply.TheVariants.{Opened}
use Rattle.fs_model.specs.Trees.{Tree}
use Rattle.fs_model.specs.Processes.{Process, Descriptor, Openings, process_holding, users}
use Rattle.fs_model.specs.TreeChanges.{Same, swept}
use Rattle.fs_model.specs.States.{State, IsState}
use Rattle.fs_model.specs.Alike.{seen_by}
use Rattle.fs_model.specs.Scenes.{Scene, is_found}
use Rattle.fs_model.specs.OpenCall.{open_change, open_found_demands, open_new_demands}
use Rattle.fs_model.specs.DescriptorCalls.{readdir_row}
use Rattle.fs_model.specs.Rows.{row_of}
use Rattle.fs_model.specs.HandleCalls.{doer, handle_call_row}
use Rattle.fs_model.specs.Handles.{opened_for}
use Rattle.fs_model.specs.Steps.{Choice, Acts, After, unchanged, after, state_after, actor_scene, scene_of, late_call_at, other_refusal}
use Rattle.fs_model.specs.Outsiders.{Outsider, held_at, held, sight, AreAlikeTo, AreOpen, IsListing, ListingsKeepAlike}
use Rattle.fs_model.proofs.Swept.{kept}
use Rattle.fs_model.proofs.HandlesStay.{get-without}
use Rattle.fs_model.proofs.SeenTrees.{swept-seen}
use Rattle.fs_model.proofs.StepsDemands.{AreMet, unrefused}
use Rattle.fs_model.proofs.StepsOfActors.{actor_demands}
use Rattle.fs_model.proofs.VeiledScenes.{veiled_state, scene_of-veil, actor_scene-veil}
use Rattle.fs_model.proofs.ConfinedLooks.{names-veil}
use Rattle.fs_model.proofs.BetweenEvents.{KeptAlike}
use Rattle.fs_model.proofs.ConfinedEvents.{step_cases}
use Rattle.fs_model.proofs.ConfinedOutsiders.{same_openings, same_sight, same_veil_to, same_firm_to, same_other_to}

-- ---- what it has stays

-- where a handle that is none of its own gets something
held-new : (openings : Openings) (handle : ℕ) (d : Descriptor) → get nat_cmp openings handle ≡ None → (handles : List ℕ)
    → ((k : ℕ) → list_any (λ h. h == k) handles ≡ true → is_some (get nat_cmp openings k) ≡ true)
    → held (with_entry nat_cmp openings handle d) handles ≡ held openings handles
held-new openings handle d none [] opened = refl
held-new openings handle d none (k ∷ handles) opened =
    ap (λ o. held_at k o ++ held (with_entry nat_cmp openings handle d) handles) (get-with_entry openings handle d k ∙ go (is_eq (nat_cmp k handle)) refl)
    ∙ ap (λ rest. held_at k (get nat_cmp openings k) ++ rest) (held-new openings handle d none handles (λ n is. opened n (or_right (k == n) (list_any (λ h. h == n) handles) is)))
  where
    here : (k == k || list_any (λ h. h == k) handles) ≡ true
    here = ap (λ b. b || list_any (λ h. h == k) handles) (let same : (k == k) ≡ true = grind (arith, nat_tests) in same)

    go : (b : Bool) → is_eq (nat_cmp k handle) ≡ b → cond b (Some d) (get nat_cmp openings k) ≡ get nat_cmp openings k
    go false e = refl
    go true e = absurd (
        let gone : get nat_cmp openings k ≡ None = ap (get nat_cmp openings) (tied k handle e) ∙ none in
        let there : is_some (get nat_cmp openings k) ≡ true = opened k here in
        cc
        )

-- where such a handle goes
held-gone : (openings : Openings) (handle : ℕ) → IsMap nat_cmp openings → (handles : List ℕ) → list_any (λ h. h == handle) handles ≡ false
    → held (without nat_cmp openings handle) handles ≡ held openings handles
held-gone openings handle is [] other = refl
held-gone openings handle is (k ∷ handles) other =
    let both = or_parts (k == handle) (list_any (λ h. h == handle) handles) other in
    let other_key : eq_by_cmp nat_cmp handle k ≡ false = apart handle k (λ same. let no = both.0 in grind (arith, nat_tests)) in
    ap (λ o. held_at k o ++ held (without nat_cmp openings handle) handles)
    (get-without openings handle k is ∙ go (get nat_cmp openings k) other_key)
    ∙ ap (λ rest. held_at k (get nat_cmp openings k) ++ rest) (held-gone openings handle is handles both.1)
  where
    go : (o : Option Descriptor) → eq_by_cmp nat_cmp handle k ≡ false → kept (λ e. not (eq_by_cmp nat_cmp handle e.0)) k o ≡ o
    go None e = refl
    go (Some d) e = ap (λ b. cond (not b) (Some d) None) e

-- ---- where no node changes, but what is open

abbrev open_at : (Openings → Openings) → ℕ → State → State
open_at f free u = record u { tree = swept u.tree (users u.processes (f u.openings)); openings = f u.openings; free = free }

open_at-seen : (p : Process) (f : Openings → Openings) (free : ℕ) (u : State) → seen_by (Some p) (open_at f free u) ≡ open_at f free (seen_by (Some p) u)
open_at-seen p f free u =
    ap {A = Tree} {B = State} (λ t. record u { tree = t; openings = f u.openings; free = free }) (sym (swept-seen p u.tree (users u.processes (f u.openings))))

module _ (w : Outsider) (s t : State) (alike : AreAlikeTo w s t) where
  abbrev who : Openings → Process
  who openings = record (process_holding openings) { cred = w.cred }

  open_alike : (f : Openings → Openings) (free : ℕ) → held (f s.openings) w.handles ≡ held s.openings w.handles
      → AreAlikeTo w (open_at f free s) (open_at f free t)
  open_alike f free same =
      let p = sight s w in
      record {
        first_runs = alike.first_runs;
        second_runs = alike.second_runs;
        same =
            ap (λ os. seen_by (Some (who os)) (open_at f free s)) same
            ∙ open_at-seen p f free s ∙ ap (open_at f free) (same_sight w s t alike) ∙ sym (open_at-seen p f free t)
            ∙ ap (λ os. seen_by (Some (who os)) (open_at f free t)) (sym same)
            ∙ ap (λ os. seen_by (Some (who (held (f os) w.handles))) (open_at f free t)) (same_openings w s t alike);
      }

-- ---- opens

module _ (v : Actor) (path : List ℕ) (flags : Flags) (mode : ℕ) where
  abbrev call : Call
  call = OpenCall path flags mode

  abbrev scene : State → Scene
  scene u = actor_scene u v (row_of call)

  -- what it finds is open then by the new handle
  abbrev number : State → ℕ → ℕ
  number u new = unwrap_or (scene u).first.ino new

  abbrev opens : ℕ → ℕ → Openings → Openings
  opens handle n openings = with_entry nat_cmp openings handle (opened_for flags n)

  must_find : (found : Bool) (c : Scene) → flags.create ≡ false → AreMet (cond found (open_found_demands flags c) (open_new_demands flags c)) → found ≡ true
  must_find true c none met = refl
  must_find false c none met = absurd (let e = unrefused ENOENT (not flags.create || c.first.slash) met.0 in cc)

  finds : (u : State) → flags.create ≡ false → late_call_at u v call (row_of call) ≡ None → is_found (scene u).first ≡ true
  unfolding row_of
  finds u none late = must_find (is_found (scene u).first) (scene u) none (actor_demands u v call (row_of call) late)

  changes_nothing : (c : Scene) (new : ℕ) → flags.trunc ≡ false → is_found c.first ≡ true → open_change flags mode c new ≡ Same
  changes_nothing c new keeps found = rw (found, keeps) refl

  open_is : (u : State) (choice : Choice) → flags.create ≡ false → flags.trunc ≡ false → late_call_at u v call (row_of call) ≡ None
      → after u (CallAt v call) choice
      ≡ record (unchanged u (Opened choice.handle (number u choice.ino))) { openings = opens choice.handle (number u choice.ino) u.openings }
  unfolding after row_of
  open_is u choice none keeps late =
      ap {B = After} (λ change. record (unchanged u (Opened choice.handle (number u choice.ino))) { change = change; openings = opens choice.handle (number u choice.ino) u.openings })
      (changes_nothing (scene u) choice.ino keeps (finds u none late))

  number-veil : (u : State) (new : ℕ) → number (veiled_state u) new ≡ number u new
  number-veil u new = ap (λ c. unwrap_or c.first.ino new) (actor_scene-veil u v (row_of call))

  open_listed : (w : Outsider) (s t : State) (choice : Choice) → AreOpen w s → (flags.create || flags.trunc) ≡ false → AreAlikeTo w s t
      → Acts s (CallAt v call) choice → Acts t (CallAt v call) choice
      → KeptAlike w (after s (CallAt v call) choice).reply (after t (CallAt v call) choice).reply
      (state_after s (after s (CallAt v call) choice) choice.free) (state_after t (after t (CallAt v call) choice) choice.free)
  unfolding other_refusal
  open_listed w s t choice opened kept alike act act' =
      let e = CallAt v call in
      let both = or_parts flags.create flags.trunc kept in
      let a = open_is s choice both.0 both.1 act.late in
      let b = open_is t choice both.0 both.1 act'.late in
      let n = number s choice.ino in
      let m = number t choice.ino in
      let same : m ≡ n = sym (number-veil t choice.ino) ∙ ap (λ u. number u choice.ino) (sym (same_veil_to w s t alike)) ∙ number-veil s choice.ino in
      let new : get nat_cmp s.openings choice.handle ≡ None = act.allowed.handle in
      subst (λ x. KeptAlike w x.reply (after t e choice).reply (state_after s x choice.free) (state_after t (after t e choice) choice.free)) (sym a)
      (subst (λ x. KeptAlike w (Opened choice.handle n) x.reply (open_at (opens choice.handle n) choice.free s) (state_after t x choice.free)) (sym b)
      (subst (λ m. KeptAlike w (Opened choice.handle n) (Opened choice.handle m) (open_at (opens choice.handle n) choice.free s) (open_at (opens choice.handle m) choice.free t)) (sym same)
      (refl, open_alike w s t alike (opens choice.handle n) choice.free (held-new s.openings choice.handle (opened_for flags n) new w.handles opened))))

-- ---- names

module _ (handle new : ℕ) where
  abbrev answer : Process → State → Reply
  answer p u = ((readdir_row 0).effect (scene_of u p (readdir_row 0)) new).reply

  answer-veil : (p : Process) (u : State) → answer p (veiled_state u) ≡ answer p u
  answer-veil p u = ap (λ c. ((readdir_row 0).effect c new).reply) (scene_of-veil u p (readdir_row 0)) ∙ names-veil (scene_of u p (readdir_row 0)) 0 new

  same_answer : (w : Outsider) (s t : State) → AreAlikeTo w s t → answer (doer s.openings handle ListBy) s ≡ answer (doer t.openings handle ListBy) t
  same_answer w s t alike =
      let p = doer s.openings handle ListBy in
      sym (answer-veil p s) ∙ ap (answer p) (same_veil_to w s t alike) ∙ answer-veil p t
      ∙ ap (λ openings. answer (doer openings handle ListBy) t) (same_openings w s t alike)

-- ---- the law

listing_alike : (e : Event) (w : Outsider) (s t : State) (choice : Choice) → IsState s → AreOpen w s → IsListing w e → AreAlikeTo w s t
    → Acts s e choice → Acts t e choice
    → KeptAlike w (after s e choice).reply (after t e choice).reply (state_after s (after s e choice) choice.free) (state_after t (after t e choice) choice.free)
unfolding after handle_call_row
listing_alike (CallAt v (OpenCall path flags mode)) w s t choice is opened listing alike act act' = open_listed v path flags mode w s t choice opened listing alike act act'
listing_alike (CallBy handle ListBy) w s t choice is opened listing alike act act' =
    (same_answer handle choice.ino w s t alike, open_alike w s t alike (λ openings. openings) choice.free refl)
listing_alike (CallBy handle CloseBy) w s t choice is opened listing alike act act' =
    (refl, open_alike w s t alike (λ openings. without nat_cmp openings handle) choice.free (held-gone s.openings handle is.handles w.handles listing))
listing_alike e w s t choice is opened listing alike act act' = absurd listing

pub listings_keep_alike : ListingsKeepAlike
listings_keep_alike w e s t s' t' choice reply reply' is opened listing alike x y =
    step_cases (KeptAlike w) e s t s' t' choice reply reply' (same_firm_to w s t alike e) (same_other_to w s t alike e)
    (λ r. (refl, alike)) (λ act act'. listing_alike e w s t choice is opened listing alike act act') x y

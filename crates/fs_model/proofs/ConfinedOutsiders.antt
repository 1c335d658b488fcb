-- Whoever is outside is confined: in its actors, in what it does by its handles, and in both, one after another.
use Rattle.std.specs.Prelude.{◌≡◌, ℕ, ◌==◌, Bool, true, false, not, ◌||◌, cond, List, [], ◌∷◌, ◌++◌, Option, None, Some, IsFalse}
use Rattle.std.proofs.Common.{refl, sym, ap, ◌∙◌, subst, arith}
use Rattle.std.proofs.lemmas.Bool.Decides.{nat_tests}
use Rattle.std.specs.List.{filter, list_any}
use Rattle.std.specs.Ordering.{nat_cmp, is_eq}
use Rattle.fs_layout.specs.Maps.{get, with_entry, without, IsMap}
use Rattle.fs_layout.proofs.FirstEntries.{ties}
use Rattle.fs_layout.proofs.MapLaws.{get-with_entry}
use Rattle.fs_model.specs.declared.call.Call.{Call}
use Rattle.fs_model.specs.declared.call.Call.TheVariants.{Open as OpenCall}
use Rattle.fs_model.specs.declared.event.HandleCall.{HandleCall}
use Rattle.fs_model.specs.declared.event.HandleCall.TheVariants.{Close as CloseBy}
use Rattle.fs_model.specs.declared.event.Event.{Event}
use Rattle.fs_model.specs.declared.event.Event.TheVariants.{CallAt, CallBy}
use Rattle.fs_model.specs.declared.event.Actor.{Actor}
use Rattle.fs_cred.specs.declared.refusal.Refusal.{Refusal}
use Rattle.fs_model.specs.declared.reply.Reply.{Reply}
use Rattle.fs_model.specs.declared.reply.Reply.TheVariants.{Done, Opened, Refused}
use Rattle.fs_model.specs.Processes.{Process, Descriptor, Openings, process_holding, the_descriptor}
use Rattle.fs_model.specs.States.{State, IsState}
use Rattle.fs_model.specs.Alike.{seen_by, AreAlike}
use Rattle.fs_model.specs.Scenes.{Scene, Effect}
use Rattle.fs_model.specs.Rows.{row_of}
use Rattle.fs_model.specs.Actors.{opened_by, actor_reply}
use Rattle.fs_model.specs.HandleCalls.{handle_call_row, kept_by}
use Rattle.fs_model.specs.Steps.{Choice, Acts, after, state_after, firm_refusal, other_refusal}
use Rattle.fs_model.specs.Confinement.{IsConfined, AnswerAlike}
use Rattle.fs_model.specs.Outsiders.{Outsider, held_at, held, sight, AreAlikeTo, IsItsEvent, after_answer, OutsidersConfined, ActorsKeepAlike, AlikeToCredentials}
use Rattle.fs_model.proofs.StepsProcesses.{in_without}
use Rattle.fs_model.proofs.StepsOfActors.{allowed_call}
use Rattle.fs_model.proofs.VeiledScenes.{veiled_state, veiled_state-seen}
use Rattle.fs_model.proofs.VeiledRefusals.{firm_refusal-veil, other_refusal-veil, same_firm, same_other}
use Rattle.fs_model.proofs.ConfinedReads.{is_for, any}
use Rattle.fs_model.proofs.ConfinedSteps.{here_alike, same_seen}
use Rattle.fs_model.proofs.ConfinedEvents.{step_cases}
use Rattle.fs_model.proofs.ConfinedActors.{with_opened-cred, call_effect, actor_effect, actor_left, actor_after, gained, actor_acts}
use Rattle.fs_model.proofs.ConfinedHandleCalls.{is_held, handle_call_scene, handle_call_effect, handle_call_left, handle_call_after, handle_call_acts}
use Rattle.fs_model.proofs.EachActorCall.{with_opened}
use Rattle.fs_model.proofs.Sights.{seen-less}

-- ---- what it has

module _ (n : ℕ) where
  abbrev has : Openings → Bool
  has ds = any (is_for n) ds

  or_more : (a b : Bool) → b ≡ true → (a || b) ≡ true
  or_more true b h = refl
  or_more false b h = h

  or_less : (a x y : Bool) → (x ≡ true → y ≡ true) → (a || x) ≡ true → (a || y) ≡ true
  or_less true x y k h = refl
  or_less false x y k h = k h

  more : (handle : ℕ) (o : Option Descriptor) (rest : Openings) → has rest ≡ true → has (held_at handle o ++ rest) ≡ true
  more handle None rest h = h
  more handle (Some d) rest h = or_more (is_for n d) (has rest) h

  -- what it has by a handle
  has_by : (openings : Openings) (handles : List ℕ) (handle : ℕ) (d : Descriptor) → list_any (λ h. h == handle) handles ≡ true
      → get nat_cmp openings handle ≡ Some d → is_for n d ≡ true → has (held openings handles) ≡ true
  has_by openings [] handle d is at h = absurd cc
  has_by openings (k ∷ handles) handle d is at h = go (k == handle) refl (λ is. has_by openings handles handle d is at h) is
    where
      go : (b : Bool) → (k == handle) ≡ b → (list_any (λ h. h == handle) handles ≡ true → has (held openings handles) ≡ true)
          → (b || list_any (λ h. h == handle) handles) ≡ true → has (held openings (k ∷ handles)) ≡ true
      go true e rest is =
          let here : k ≡ handle = grind (arith, nat_tests) in
          let stands : get nat_cmp openings k ≡ Some d = ap (get nat_cmp openings) here ∙ at in
          ap (λ o. has (held_at k o ++ held openings handles)) stands ∙ ap (λ b. b || has (held openings handles)) h
      go false e rest is = more k (get nat_cmp openings k) (held openings handles) (rest is)

  through : (a x y : Bool) → (x ≡ true → (a || y) ≡ true) → (a || x) ≡ true → (a || y) ≡ true
  through true x y k h = refl
  through false x y k h = k h

  under : (a b x y : Bool) → (x ≡ true → (a || y) ≡ true) → (b || x) ≡ true → (a || (b || y)) ≡ true
  under true b x y k h = refl
  under false true x y k h = refl
  under false false x y k h = k h

  -- with one more opening it has no more than that, whichever handles it has
  has_with : (openings : Openings) (handles : List ℕ) (handle : ℕ) (d : Descriptor)
      → has (held (with_entry nat_cmp openings handle d) handles) ≡ true → (is_for n d || has (held openings handles)) ≡ true
  has_with openings [] handle d h = absurd cc
  has_with openings (k ∷ handles) handle d h =
      go (is_eq (nat_cmp k handle)) (get nat_cmp openings k) (has_with openings handles handle d)
      (ap (λ o. has (held_at k o ++ held (with_entry nat_cmp openings handle d) handles)) (sym (get-with_entry openings handle d k)) ∙ h)
    where
      then : Openings
      then = held (with_entry nat_cmp openings handle d) handles

      rest : Openings
      rest = held openings handles

      go : (b : Bool) (o : Option Descriptor) → (has then ≡ true → (is_for n d || has rest) ≡ true)
          → has (held_at k (cond b (Some d) o) ++ then) ≡ true → (is_for n d || has (held_at k o ++ rest)) ≡ true
      go true o less h = or_less (is_for n d) (has rest) (has (held_at k o ++ rest)) (more k o rest) (through (is_for n d) (has then) (has rest) less h)
      go false None less h = less h
      go false (Some y) less h = under (is_for n d) (is_for n y) (has then) (has rest) less h

  -- without one it has no more than before
  has_without : (openings : Openings) (handles : List ℕ) (handle : ℕ) → IsMap nat_cmp openings
      → has (held (without nat_cmp openings handle) (filter (λ h. not (h == handle)) handles)) ≡ true → has (held openings handles) ≡ true
  has_without openings [] handle is h = absurd cc
  has_without openings (k ∷ handles) handle is h =
      go (k == handle) (has_without openings handles handle is) h
    where
      then : Openings
      then = held (without nat_cmp openings handle) (filter (λ h. not (h == handle)) handles)

      rest : Openings
      rest = held openings handles

      by_opening : (o : Option Descriptor) → get nat_cmp (without nat_cmp openings handle) k ≡ o → (has then ≡ true → has rest ≡ true)
          → has (held_at k o ++ then) ≡ true → has (held openings (k ∷ handles)) ≡ true
      by_opening None e less h = more k (get nat_cmp openings k) rest (less h)
      by_opening (Some y) e less h =
          ap (λ o. has (held_at k o ++ rest)) (in_without openings handle k y is e) ∙ or_less (is_for n y) (has then) (has rest) less h

      go : (b : Bool) → (has then ≡ true → has rest ≡ true)
          → has (held (without nat_cmp openings handle) (cond (not b) (k ∷ filter (λ h. not (h == handle)) handles) (filter (λ h. not (h == handle)) handles))) ≡ true
          → has (held openings (k ∷ handles)) ≡ true
      go true less h = more k (get nat_cmp openings k) rest (less h)
      go false less h = by_opening (get nat_cmp (without nat_cmp openings handle) k) refl less h

-- ---- what it has after an answer

pub answered_cred : (w : Outsider) (e : Event) (r : Reply) → (after_answer w e r).cred ≡ w.cred
answered_cred w (CallAt v (OpenCall path flags mode)) (Opened handle n) = refl
answered_cred w (CallBy handle CloseBy) Done = refl
answered_cred w e r = refl

refused_keeps : (w : Outsider) (e : Event) (r : Refusal) → after_answer w e (Refused r) ≡ w
refused_keeps w (CallAt v (OpenCall path flags mode)) r = refl
refused_keeps w (CallBy handle CloseBy) r = refl
refused_keeps w e r = refl

-- after an actor's call no more than what it opened is new
actor_has : (w : Outsider) (v : Actor) (call : Call) (handle number : ℕ) (e : Effect) (openings : Openings) (p : Process) (n : ℕ)
    → ((n : ℕ) → any (is_for n) (held openings w.handles) ≡ any (is_for n) p.descriptors)
    → any (is_for n) (held (opened_by call handle e.process openings) (after_answer w (CallAt v call) (actor_reply call handle number e)).handles) ≡ true
    → any (is_for n) (with_opened call e.process p).descriptors ≡ true
actor_has w v (OpenCall path flags mode) handle number e openings p n same h =
    let d = the_descriptor e.process 0 in
    ap (λ b. is_for n d || b) (sym (same n))
    ∙ through n (is_for n d) (any (is_for n) (held (with_entry nat_cmp openings handle d) w.handles)) (any (is_for n) (held openings w.handles))
    (has_with n openings w.handles handle d)
    (ap (λ o. any (is_for n) (held_at handle o ++ held (with_entry nat_cmp openings handle d) w.handles)) (sym (entry_here openings handle d)) ∙ h)
  where
    entry_here : (openings : Openings) (handle : ℕ) (d : Descriptor) → get nat_cmp (with_entry nat_cmp openings handle d) handle ≡ Some d
    entry_here openings handle d = get-with_entry openings handle d handle ∙ ap (λ b. cond b (Some d) (get nat_cmp openings handle)) (ties handle handle refl)
actor_has w v call handle number e openings p n same h = sym (same n) ∙ h

-- after a handle_call nothing is
handle_call_has : (w : Outsider) (handle : ℕ) (handle_call : HandleCall) (c : Scene) (m : ℕ) (openings : Openings) (n : ℕ) → IsMap nat_cmp openings
    → any (is_for n) (held (kept_by handle_call handle openings) (after_answer w (CallBy handle handle_call) ((handle_call_row handle_call).effect c m).reply).handles) ≡ true
    → any (is_for n) (held openings w.handles) ≡ true
unfolding handle_call_row
handle_call_has w handle CloseBy c m openings n is h = has_without n openings w.handles handle is h
handle_call_has w handle handle_call c m openings n is h = h

-- ---- one event

module _ (w : Outsider) (s t : State) (alike : AreAlikeTo w s t) where
  pub same_openings : s.openings ≡ t.openings
  same_openings = ap (λ u. u.openings) alike.same

  -- as one sees who is the same in both
  pub same_sight : seen_by (Some (sight s w)) s ≡ seen_by (Some (sight s w)) t
  same_sight = alike.same ∙ ap (λ openings. seen_by (Some (record (process_holding (held openings w.handles)) { cred = w.cred })) t) (sym same_openings)

  pub same_veil_to : veiled_state s ≡ veiled_state t
  same_veil_to = sym (veiled_state-seen (Some (sight s w)) s) ∙ ap veiled_state alike.same ∙ veiled_state-seen (Some (sight t w)) t

  pub same_firm_to : (e : Event) → firm_refusal s e ≡ firm_refusal t e
  same_firm_to e = sym (firm_refusal-veil s e) ∙ ap (λ u. firm_refusal u e) same_veil_to ∙ firm_refusal-veil t e

  pub same_other_to : (e : Event) → other_refusal s e ≡ other_refusal t e
  same_other_to e = sym (other_refusal-veil s e) ∙ ap (λ u. other_refusal u e) same_veil_to ∙ other_refusal-veil t e

-- both answer the same, and are alike to it with what it has then
abbrev pub AnswerAlikeTo : Outsider → Event → Reply → Reply → State → State → Type 0
AnswerAlikeTo w e r r' s t = (r ≡ r') × AreAlikeTo (after_answer w e r) s t

-- where one sees who has as much as it has then
alike_then : (w : Outsider) (e : Event) (r : Reply) (q : Process) (s t : State) → IsFalse s.halted → IsFalse t.halted → q.cred ≡ w.cred
    → ((n : ℕ) → any (is_for n) (held s.openings (after_answer w e r).handles) ≡ true → any (is_for n) q.descriptors ≡ true)
    → s.openings ≡ t.openings → seen_by (Some q) s ≡ seen_by (Some q) t → AreAlikeTo (after_answer w e r) s t
alike_then w e r q s t first second cred less openings seen =
    let then = after_answer w e r in
    record {
      first_runs = first;
      second_runs = second;
      same =
          seen-less q (sight s then) (cred ∙ sym (answered_cred w e r)) less s t seen
          ∙ ap (λ openings. seen_by (Some (record (process_holding (held openings then.handles)) { cred = then.cred })) t) openings;
    }

-- ---- an actor's call

with_opened-more : (call : Call) (q p : Process) (n : ℕ) → any (is_for n) p.descriptors ≡ true → any (is_for n) (with_opened call q p).descriptors ≡ true
with_opened-more (OpenCall path flags mode) q p n h = or_more n (is_for n (the_descriptor q 0)) (any (is_for n) p.descriptors) h
with_opened-more call q p n h = h

at_alike : (w : Outsider) (v : Actor) (call : Call) (s t : State) (choice : Choice) → IsState s → IsState t → w.cred ≡ v.cred → IsConfined v.cred
    → AreAlikeTo w s t → Acts s (CallAt v call) choice → Acts t (CallAt v call) choice
    → AnswerAlikeTo w (CallAt v call) (after s (CallAt v call) choice).reply (after t (CallAt v call) choice).reply
    (state_after s (after s (CallAt v call) choice) choice.free) (state_after t (after t (CallAt v call) choice) choice.free)
unfolding after firm_refusal other_refusal
at_alike w v call s t choice is js same confined alike act act' =
    let e = CallAt v call in
    let p = sight s w in
    let allowed = allowed_call v call (row_of call) act.early in
    let x = actor_acts p v call choice same allowed s t is js confined (same_sight w s t alike) act.late act'.late in
    let a = actor_after p v call choice same allowed s in
    let b = actor_after p v call choice same allowed t in
    let f = actor_effect p v call choice same allowed in
    let left = actor_left p v call choice same allowed in
    let q = gained p v call choice same allowed s in
    let openings : (left s).openings ≡ (left t).openings =
    ap (λ r. opened_by call choice.handle r s.openings) x.process ∙ ap (opened_by call choice.handle (f t).process) (same_openings w s t alike) in
    subst (λ m. AnswerAlikeTo w e m.reply (after t e choice).reply (state_after s m choice.free) (state_after t (after t e choice) choice.free)) (sym a)
    (subst (λ m. AnswerAlikeTo w e (f s).reply m.reply (left s) (state_after t m choice.free)) (sym b) (
      x.reply,
      alike_then w e (f s).reply q (left s) (left t) alike.first_runs alike.second_runs (with_opened-cred call (f s).process p)
          (λ n h. actor_has w v call choice.handle choice.ino (call_effect p v call choice same allowed s) s.openings p n (λ n. refl) h) openings
          (x.seen ∙ ap (λ r. seen_by (Some (with_opened call r p)) (left t)) (sym x.process)),
    ))

-- ---- a handle_call

by_alike : (w : Outsider) (handle : ℕ) (handle_call : HandleCall) (s t : State) (choice : Choice) → IsState s → IsState t → IsConfined w.cred
    → list_any (λ h. h == handle) w.handles ≡ true → AreAlikeTo w s t → Acts s (CallBy handle handle_call) choice → Acts t (CallBy handle handle_call) choice
    → AnswerAlikeTo w (CallBy handle handle_call) (after s (CallBy handle handle_call) choice).reply (after t (CallBy handle handle_call) choice).reply
    (state_after s (after s (CallBy handle handle_call) choice) choice.free) (state_after t (after t (CallBy handle handle_call) choice) choice.free)
unfolding after firm_refusal other_refusal
by_alike w handle handle_call s t choice is js confined its alike act act' =
    let e = CallBy handle handle_call in
    let p = sight s w in
    let found = is_held s.openings handle handle_call act.early in
    let d = found.descriptor in
    let there : get nat_cmp t.openings handle ≡ Some d = ap (λ openings. get nat_cmp openings handle) (sym (same_openings w s t alike)) ∙ found.is in
    let owned : (n : ℕ) → is_for n d ≡ true → any (is_for n) p.descriptors ≡ true = λ n h. has_by n s.openings w.handles handle d its found.is h in
    let x = handle_call_acts p handle handle_call choice d owned s t found.is there is js confined (same_sight w s t alike) act.early act.late act'.early act'.late in
    let a = handle_call_after p handle handle_call choice d owned s found.is in
    let b = handle_call_after p handle handle_call choice d owned t there in
    let f = handle_call_effect p handle handle_call choice d owned in
    let left = handle_call_left p handle handle_call choice d owned in
    subst (λ m. AnswerAlikeTo w e m.reply (after t e choice).reply (state_after s m choice.free) (state_after t (after t e choice) choice.free)) (sym a)
    (subst (λ m. AnswerAlikeTo w e (f s).reply m.reply (left s) (state_after t m choice.free)) (sym b) (
      x.reply,
      alike_then w e (f s).reply p (left s) (left t) alike.first_runs alike.second_runs refl
          (λ n h. handle_call_has w handle handle_call (handle_call_scene p handle handle_call choice d owned s) choice.ino s.openings n is.handles h)
          (ap (kept_by handle_call handle) (same_openings w s t alike)) x.seen,
    ))

-- ---- the law

its_alike : (e : Event) (w : Outsider) (s t : State) (choice : Choice) → IsState s → IsState t → IsConfined w.cred → IsItsEvent w e → AreAlikeTo w s t
    → Acts s e choice → Acts t e choice
    → AnswerAlikeTo w e (after s e choice).reply (after t e choice).reply (state_after s (after s e choice) choice.free) (state_after t (after t e choice) choice.free)
its_alike (CallAt v call) w s t choice is js confined its alike act act' = at_alike w v call s t choice is js its (subst IsConfined its confined) alike act act'
its_alike (CallBy handle handle_call) w s t choice is js confined its alike act act' = by_alike w handle handle_call s t choice is js confined its alike act act'
its_alike e w s t choice is js confined its alike act act' = absurd its

pub outsiders_confined : OutsidersConfined
outsiders_confined w e s t s' t' choice reply reply' is js confined its fits alike x y =
    step_cases (AnswerAlikeTo w e) e s t s' t' choice reply reply' (same_firm_to w s t alike e) (same_other_to w s t alike e)
    (λ r. (refl, subst (λ v. AreAlikeTo v s t) (sym (refused_keeps w e r)) alike))
    (λ act act'. its_alike e w s t choice is js confined its alike act act') x y

-- ---- a process, and actors of its credential

actor_keeps : (pid : ℕ) (p : Process) (v : Actor) (call : Call) (s t : State) (choice : Choice) → IsState s → IsState t → get nat_cmp s.processes pid ≡ Some p
    → p.cred ≡ v.cred → IsConfined v.cred → AreAlike pid s t → Acts s (CallAt v call) choice → Acts t (CallAt v call) choice
    → AnswerAlike pid (after s (CallAt v call) choice).reply (after t (CallAt v call) choice).reply
    (state_after s (after s (CallAt v call) choice) choice.free) (state_after t (after t (CallAt v call) choice) choice.free)
unfolding after firm_refusal other_refusal
actor_keeps pid p v call s t choice is js here same confined alike act act' =
    let e = CallAt v call in
    let allowed = allowed_call v call (row_of call) act.early in
    let x = actor_acts p v call choice same allowed s t is js confined (same_seen pid p s t alike here) act.late act'.late in
    let a = actor_after p v call choice same allowed s in
    let b = actor_after p v call choice same allowed t in
    let f = actor_effect p v call choice same allowed in
    let left = actor_left p v call choice same allowed in
    let q = gained p v call choice same allowed s in
    let there : get nat_cmp t.processes pid ≡ Some p = sym (here_alike pid s t alike) ∙ here in
    let seen : seen_by (Some p) (left s) ≡ seen_by (Some p) (left t) =
    seen-less q p (with_opened-cred call (f s).process p) (with_opened-more call (f s).process p) (left s) (left t)
    (x.seen ∙ ap (λ r. seen_by (Some (with_opened call r p)) (left t)) (sym x.process)) in
    subst (λ m. AnswerAlike pid m.reply (after t e choice).reply (state_after s m choice.free) (state_after t (after t e choice) choice.free)) (sym a)
    (subst (λ m. AnswerAlike pid (f s).reply m.reply (left s) (state_after t m choice.free)) (sym b)
    (record {
      replies = x.reply;
      process = here_alike pid s t alike;
      alike = λ _. record {
        first_runs = alike.first_runs;
        second_runs = alike.second_runs;
        same = ap (λ o. seen_by o (left s)) here ∙ seen ∙ ap (λ o. seen_by o (left t)) (sym there);
      };
    }))

pub actors_keep_alike : ActorsKeepAlike
actors_keep_alike pid p v call s t s' t' choice reply reply' is js here same confined fits alike x y =
    let e = CallAt v call in
    step_cases (AnswerAlike pid) e s t s' t' choice reply reply' (same_firm pid s t e alike) (same_other pid s t e alike)
    (λ r. record { replies = refl; process = here_alike pid s t alike; alike = λ _. alike })
    (λ act act'. actor_keeps pid p v call s t choice is js here same confined alike act act') x y

-- ---- what is alike to a process

pub alike_to_credentials : AlikeToCredentials
alike_to_credentials pid p s t here alike = record {
  first_runs = alike.first_runs;
  second_runs = alike.second_runs;
  same = seen-less p (sight s (record { cred = p.cred; handles = [] })) refl (λ n h. absurd cc) s t (same_seen pid p s t alike here);
}

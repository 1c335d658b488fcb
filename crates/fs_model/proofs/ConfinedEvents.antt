-- Each event is confined: a call, an fsync and an exit, which are those of a process.
use Rattle.std.specs.Prelude.{◌≡◌, ℕ, cond, Option, None, Some, IsFalse}
use Rattle.std.proofs.Common.{refl, sym, ap, ◌∙◌, subst}
use Rattle.std.specs.Ordering.{nat_cmp}
use Rattle.fs_model.specs.declared.call.Call.{Call}
use Rattle.fs_model.specs.declared.event.Event.{Event}
use Rattle.fs_cred.specs.declared.refusal.Refusal.{Refusal}
use Rattle.fs_model.specs.declared.reply.Reply.{Reply}
use Rattle.fs_model.specs.declared.reply.Reply.TheVariants.{Refused}
use Rattle.fs_layout.specs.Maps.{get}
use Rattle.fs_model.specs.Processes.{Process, ProcessTable, users}
use Rattle.fs_model.specs.TreeChanges.{swept}
use Rattle.fs_model.specs.States.{State, IsState}
use Rattle.fs_model.specs.Alike.{seen_by, AreAlike}
use Rattle.fs_model.specs.Ranges.{IsEvent}
use Rattle.fs_model.specs.Rows.{row_of}
use Rattle.fs_model.specs.Steps.{Choice, Acts, after, after_effect, state_after, early_refusal, late_refusal, scene_of}
use Rattle.fs_model.specs.Confinement.{IsConfined, StepBy, early, late, done, IsOf, AnswerAlike}
use Rattle.fs_layout.proofs.FirstEntries.{ties}
use Rattle.fs_model.proofs.SeenTrees.{swept-seen}
use Rattle.std.specs.Prelude.{true, not, is_some}
use Rattle.std.specs.Ordering.{eq_by_cmp}
use Rattle.fs_model.specs.declared.event.Event.TheVariants.{Spawn, Exit, Call as Calls, CallAt, CallBy, Stamp, Clock, Fsync, Sync, Statfs, Arm, Restart}
use Rattle.fs_model.specs.declared.reply.Reply.TheVariants.{Done}
use Rattle.fs_layout.specs.Maps.{without, IsMap}
use Rattle.fs_model.specs.Steps.{after_call, unchanged, firm_refusal, other_refusal, demand_of}
use Rattle.fs_model.proofs.Swept.{kept, get-filter}
use Rattle.fs_model.proofs.ConfinedSteps.{ComesFromSeen, Confines, as_open, effect_of, left_by, IsConfinedIn, same_reply, same_here, left_alike, same_processes, here_alike, same_seen}
use Rattle.fs_model.proofs.SeenScenes.{scene_of-seen}
use Rattle.fs_model.proofs.StepsDemands.{early_met, demands_met}
use Rattle.fs_model.proofs.VeiledRefusals.{same_firm, same_other}
use Rattle.fs_model.proofs.EachCall.{each_call}

-- ---- one event

-- the law, for one event that acts
abbrev pub ActsAlike : Event → Type 0
ActsAlike e =
    (pid : ℕ) (p : Process) (s t : State) (choice : Choice)
    → IsState s → IsState t → get nat_cmp s.processes pid ≡ Some p → IsConfined p.cred → IsEvent e → IsOf pid e
    → AreAlike pid s t → Acts s e choice → Acts t e choice
    → AnswerAlike pid (after s e choice).reply (after t e choice).reply (state_after s (after s e choice) choice.free) (state_after t (after t e choice) choice.free)

abbrev pub ConfinesEvent : Event → Type 0
ConfinesEvent e =
    (pid : ℕ) (p : Process) (s t s' t' : State) (choice : Choice) (reply reply' : Reply)
    → IsState s → IsState t → get nat_cmp s.processes pid ≡ Some p → IsConfined p.cred → IsEvent e → IsOf pid e
    → AreAlike pid s t → StepBy choice s e reply s' → StepBy choice t e reply' t'
    → AnswerAlike pid reply reply' s' t'

moved : (R : Reply → Reply → State → State → Type 0) (s' t' : State) (reply reply' a b : Reply) (u v : State)
    → reply ≡ a → reply' ≡ b → s' ≡ u → t' ≡ v → R a b u v → R reply reply' s' t'
moved R s' t' reply reply' a b u v e f g h is =
    subst (λ x. R x reply' s' t') (sym e) (subst (λ x. R a x s' t') (sym f) (subst (λ x. R a b x t') (sym g) (subst (λ x. R a b u x) (sym h) is)))

-- two steps that are refused alike, or both act
pub step_cases : (R : Reply → Reply → State → State → Type 0) (e : Event) (s t s' t' : State) (choice : Choice) (reply reply' : Reply)
    → firm_refusal s e ≡ firm_refusal t e → other_refusal s e ≡ other_refusal t e → ((r : Refusal) → R (Refused r) (Refused r) s t)
    → (Acts s e choice → Acts t e choice
    → R (after s e choice).reply (after t e choice).reply (state_after s (after s e choice) choice.free) (state_after t (after t e choice) choice.free))
    → StepBy choice s e reply s' → StepBy choice t e reply' t' → R reply reply' s' t'
step_cases R e s t s' t' choice reply reply' firm other refused acts (early on r a b c) (early on' r' a' b' c') =
    moved R s' t' reply reply' _ _ _ _ b (b' ∙ ap Refused (let same : r' ≡ r = cc in same)) c c' (refused r)
step_cases R e s t s' t' choice reply reply' firm other refused acts (early on r a b c) (late on' r' d a' b' c') = absurd cc
step_cases R e s t s' t' choice reply reply' firm other refused acts (early on r a b c) (done act b' c') = absurd (let d = act.early in cc)
step_cases R e s t s' t' choice reply reply' firm other refused acts (late on r d a b c) (early on' r' a' b' c') = absurd cc
step_cases R e s t s' t' choice reply reply' firm other refused acts (late on r d a b c) (late on' r' d' a' b' c') =
    moved R s' t' reply reply' _ _ _ _ b (b' ∙ ap Refused (let same : r' ≡ r = cc in same)) c c' (refused r)
step_cases R e s t s' t' choice reply reply' firm other refused acts (late on r d a b c) (done act b' c') = absurd (let f = act.late in cc)
step_cases R e s t s' t' choice reply reply' firm other refused acts (done act b c) (early on' r' a' b' c') = absurd (let f = act.early in cc)
step_cases R e s t s' t' choice reply reply' firm other refused acts (done act b c) (late on' r' d' a' b' c') = absurd (let f = act.late in cc)
step_cases R e s t s' t' choice reply reply' firm other refused acts (done act b c) (done act' b' c') = moved R s' t' reply reply' _ _ _ _ b b' c c' (acts act act')

pub confines_event : (e : Event) → ActsAlike e → ConfinesEvent e
confines_event e acts pid p s t s' t' choice reply reply' is js here confined fits of alike =
    step_cases (AnswerAlike pid) e s t s' t' choice reply reply' (same_firm pid s t e alike) (same_other pid s t e alike)
    (λ r. record { replies = refl; process = here_alike pid s t alike; alike = λ _. alike })
    (λ act act'. acts pid p s t choice is js here confined fits of alike act act')

-- ---- a call

firm_is : (s : State) (pid : ℕ) (p : Process) (call : Call) → get nat_cmp s.processes pid ≡ Some p → firm_refusal s (Calls pid call) ≡ None → early_refusal p (row_of call) ≡ None
unfolding firm_refusal
firm_is s pid p call here e = ap (demand_of (λ p. early_refusal p (row_of call))) (sym here) ∙ e

other_is : (s : State) (pid : ℕ) (p : Process) (call : Call) → get nat_cmp s.processes pid ≡ Some p → other_refusal s (Calls pid call) ≡ None → late_refusal s p (row_of call) ≡ None
unfolding other_refusal
other_is s pid p call here e = ap (demand_of (λ p. late_refusal s p (row_of call))) (sym here) ∙ e

after_is : (s : State) (pid : ℕ) (p : Process) (call : Call) (choice : Choice) → get nat_cmp s.processes pid ≡ Some p
    → after s (Calls pid call) choice ≡ after_effect s pid (effect_of p (row_of call) choice.ino s)
unfolding after
after_is s pid p call choice here = ap (after_call s pid (row_of call) choice.ino) here

call_confined : (pid : ℕ) (p : Process) (call : Call) (number free : ℕ) (u : State) → Confines call → IsState u → IsConfined p.cred
    → early_refusal p (row_of call) ≡ None → late_refusal u p (row_of call) ≡ None
    → IsConfinedIn (Some pid) as_open p (effect_of p (row_of call) number) free u
call_confined pid p call number free u conf is confined asked met =
    let row = row_of call in
    subst (λ c. ComesFromSeen p u (row.effect c number) (row.effect (scene_of u p row) number)) (sym (scene_of-seen p p u row))
    (conf (scene_of u p row) number is confined (early_met p row asked) (demands_met u p row met))

call_acts : (pid : ℕ) (call : Call) → Confines call → (p : Process) (s t : State) (choice : Choice)
    → IsState s → IsState t → IsConfined p.cred → Acts s (Calls pid call) choice → Acts t (Calls pid call) choice
    → get nat_cmp s.processes pid ≡ Some p → AreAlike pid s t
    → AnswerAlike pid (after s (Calls pid call) choice).reply (after t (Calls pid call) choice).reply
    (state_after s (after s (Calls pid call) choice) choice.free) (state_after t (after t (Calls pid call) choice) choice.free)
call_acts pid call conf p s t choice is js confined act act' here alike =
    let there : get nat_cmp t.processes pid ≡ Some p = ap (λ processes. get nat_cmp processes pid) (sym (same_processes pid s t alike)) ∙ here in
    let a = after_is s pid p call choice here in
    let b = after_is t pid p call choice there in
    let e = effect_of p (row_of call) choice.ino in
    let x = call_confined pid p call choice.ino choice.free s conf is confined (firm_is s pid p call here act.early) (other_is s pid p call here act.late) in
    let y = call_confined pid p call choice.ino choice.free t conf js confined (firm_is t pid p call there act'.early) (other_is t pid p call there act'.late) in
    let same = same_seen pid p s t alike here in
    subst (λ m. AnswerAlike pid m.reply (after t (Calls pid call) choice).reply (state_after s m choice.free) (state_after t (after t (Calls pid call) choice) choice.free)) (sym a)
    (subst (λ m. AnswerAlike pid (e s).reply m.reply (left_by (Some pid) as_open p e choice.free s) (state_after t m choice.free)) (sym b)
    (record {
      replies = same_reply (Some pid) as_open p e choice.free s t same x y;
      process = same_here pid p e choice.free s t same x y;
      alike = λ _. left_alike pid p e choice.free s t same x y act.running act'.running;
    }))

pub confines_call : (by : ℕ) (call : Call) → Confines call → ConfinesEvent (Calls by call)
confines_call by call conf = confines_event (Calls by call) (λ pid p s t choice is js here confined fits of alike act act'.
    subst (λ q. get nat_cmp s.processes q ≡ Some p → AreAlike q s t
    → AnswerAlike q (after s (Calls by call) choice).reply (after t (Calls by call) choice).reply
    (state_after s (after s (Calls by call) choice) choice.free) (state_after t (after t (Calls by call) choice) choice.free)) of
    (call_acts by call conf p s t choice is js confined act act') here alike)

-- ---- fsync

swept_state : (p : Process) (u : State) (free : ℕ)
    → seen_by (Some p) (state_after u (unchanged u Done) free)
    ≡ record (seen_by (Some p) u) { tree = swept (seen_by (Some p) u).tree (users u.processes u.openings); free = free }
swept_state p u free = ap (λ t. record u { tree = t; free = free }) (sym (swept-seen p u.tree (users u.processes u.openings)))

swept_alike : (pid : ℕ) (p : Process) (s t : State) (free : ℕ) → IsFalse s.halted → IsFalse t.halted → get nat_cmp s.processes pid ≡ Some p → AreAlike pid s t
    → AreAlike pid (state_after s (unchanged s Done) free) (state_after t (unchanged t Done) free)
swept_alike pid p s t free first second here alike =
    let there : get nat_cmp t.processes pid ≡ Some p = ap (λ processes. get nat_cmp processes pid) (sym (same_processes pid s t alike)) ∙ here in
    record {
      first_runs = first;
      second_runs = second;
      same =
          ap (λ o. seen_by o (state_after s (unchanged s Done) free)) here
          ∙ swept_state p s free
          ∙ ap {A = State} {B = State} (λ u. record u { tree = swept u.tree (users u.processes u.openings); free = free }) (same_seen pid p s t alike here)
          ∙ sym (swept_state p t free)
          ∙ ap (λ o. seen_by o (state_after t (unchanged t Done) free)) (sym there);
    }

pub confines_fsync : (by fd : ℕ) → ConfinesEvent (Fsync by fd)
unfolding after
confines_fsync by fd = confines_event (Fsync by fd) (λ pid p s t choice is js here confined fits of alike act act'. record {
  replies = refl;
  process = here_alike pid s t alike;
  alike = λ _. swept_alike pid p s t choice.free act.running act'.running here alike;
})

-- ---- exit

gone : (processes : ProcessTable) (pid : ℕ) → IsMap nat_cmp processes → get nat_cmp (without nat_cmp processes pid) pid ≡ None
gone processes pid m = get-filter (λ e. not (eq_by_cmp nat_cmp pid e.0)) processes m pid ∙ go (get nat_cmp processes pid)
  where
    go : (o : Option Process) → kept (λ e. not (eq_by_cmp nat_cmp pid e.0)) pid o ≡ None
    go None = refl
    go (Some p) = ap (λ b. cond (not b) (Some p) None) (ties pid pid refl)

pub gone_by : (processes : ProcessTable) (by pid : ℕ) → IsMap nat_cmp processes → by ≡ pid → get nat_cmp (without nat_cmp processes by) pid ≡ None
gone_by processes by pid m of = subst (λ q. get nat_cmp (without nat_cmp processes by) q ≡ None) of (gone processes by m)

pub confines_exit : (by : ℕ) → ConfinesEvent (Exit by)
unfolding after
confines_exit by = confines_event (Exit by) (λ pid p s t choice is js here confined fits of alike act act'. record {
  replies = refl;
  process = gone_by s.processes by pid is.pids of ∙ sym (gone_by t.processes by pid js.pids of);
  alike = λ there. absurd (
      let none : get nat_cmp (without nat_cmp s.processes by) pid ≡ None = gone_by s.processes by pid is.pids of in
      let x : is_some (get nat_cmp (without nat_cmp s.processes by) pid) ≡ true = there in
      cc
      );
})

-- ---- each event

pub confined : (e : Event) → ConfinesEvent e
confined (Calls by call) = confines_call by call (each_call call).confines
confined (Fsync by fd) = confines_fsync by fd
confined (Exit by) = confines_exit by
confined (Spawn cred) = λ _ _ _ _ _ _ _ _ _ _ _ _ _ _ of. absurd of
confined (CallAt v call) = λ _ _ _ _ _ _ _ _ _ _ _ _ _ _ of. absurd of
confined (CallBy handle handle_call) = λ _ _ _ _ _ _ _ _ _ _ _ _ _ _ of. absurd of
confined (Stamp n atime mtime ctime) = λ _ _ _ _ _ _ _ _ _ _ _ _ _ _ of. absurd of
confined (Clock time) = λ _ _ _ _ _ _ _ _ _ _ _ _ _ _ of. absurd of
confined Sync = λ _ _ _ _ _ _ _ _ _ _ _ _ _ _ of. absurd of
confined Statfs = λ _ _ _ _ _ _ _ _ _ _ _ _ _ _ of. absurd of
confined (Arm k) = λ _ _ _ _ _ _ _ _ _ _ _ _ _ _ of. absurd of
confined (Restart c arm) = λ _ _ _ _ _ _ _ _ _ _ _ _ _ _ of. absurd of

-- A list of events of a process is confined: by induction over it.
use Rattle.std.specs.Prelude.{◌≡◌, ℕ, true, List, [], ◌∷◌, Option, None, Some, IsTrue, is_some}
use Rattle.std.proofs.Common.{refl, sym, ap, ◌∙◌, subst}
use Rattle.std.proofs.lemmas.List.Elements.{All-head, All-tail}
use Rattle.std.specs.Ordering.{nat_cmp}
use Rattle.fs_cred.specs.declared.errno.Errno.TheVariants.{ESRCH}
use Rattle.fs_cred.specs.declared.refusal.Refusal.TheVariants.{Failed}
use Rattle.fs_layout.specs.Maps.{get}
use Rattle.fs_model.specs.declared.call.Call.{Call}
use Rattle.fs_model.specs.declared.event.Event.{Event}
use Rattle.fs_model.specs.declared.event.Event.TheVariants.{Spawn, Exit, Call as Calls, CallAt, CallBy, Stamp, Clock, Fsync, Sync, Statfs, Arm, Restart}
use Rattle.fs_model.specs.declared.reply.Reply.{Reply}
use Rattle.fs_model.specs.declared.reply.Reply.TheVariants.{Refused}
use Rattle.fs_model.specs.Processes.{Process}
use Rattle.fs_model.specs.States.{State, IsState}
use Rattle.fs_model.specs.Alike.{AreAlike}
use Rattle.fs_model.specs.Ranges.{IsEvent}
use Rattle.fs_model.specs.Rows.{row_of}
use Rattle.fs_model.specs.Steps.{Choice, after, after_call, firm_refusal, demand_of, scene_of, is_of_machine}
use Rattle.fs_model.specs.Confinement.{IsConfined, StepBy, early, late, done, RunBy, IsOf, AreOf, AnswerAlike, Confinement, GoneIsRefused}
use Rattle.fs_model.proofs.StepsKeep.{steps_keep}
use Rattle.fs_model.proofs.ConfinedSteps.{effect_of, here_after, here_alike}
use Rattle.fs_model.proofs.EachCall.{each_call}
use Rattle.fs_model.proofs.ConfinedEvents.{gone_by, confined}
use Rattle.fs_model.proofs.ConfinedStepsOf.{steps_by}

-- ---- a process keeps its credential

module _ (pid : ℕ) (p q : Process) (s : State) (here : get nat_cmp s.processes pid ≡ Some p) where
  called_cred : (call : Call) (choice : Choice)
      → get nat_cmp (after_call s pid (row_of call) choice.ino (get nat_cmp s.processes pid)).processes pid ≡ Some q → q.cred ≡ p.cred
  called_cred call choice there =
      let effect = effect_of p (row_of call) choice.ino s in
      let now : get nat_cmp (after_call s pid (row_of call) choice.ino (Some p)).processes pid ≡ Some q =
      ap (λ o. get nat_cmp (after_call s pid (row_of call) choice.ino o).processes pid) (sym here) ∙ there in
      let same : Some effect.process ≡ Some q = sym (here_after s.processes pid effect.process) ∙ now in
      let is : effect.process ≡ q = cc in
      ap (λ x. x.cred) (sym is) ∙ (each_call call).keeps (scene_of s p (row_of call)) choice.ino

  same_cred : get nat_cmp s.processes pid ≡ Some q → q.cred ≡ p.cred
  same_cred there = let is : Some p ≡ Some q = sym here ∙ there in let same : p ≡ q = cc in ap (λ x. x.cred) (sym same)

  acted_cred : IsState s → (e : Event) (choice : Choice) → IsOf pid e → get nat_cmp (after s e choice).processes pid ≡ Some q → q.cred ≡ p.cred
  unfolding after
  acted_cred is (Calls by call) choice of there =
      called_cred call choice (subst (λ b. get nat_cmp (after_call s b (row_of call) choice.ino (get nat_cmp s.processes b)).processes pid ≡ Some q) of there)
  acted_cred is (Fsync by fd) choice of there = same_cred there
  acted_cred is (Exit by) choice of there = absurd (let none = gone_by s.processes by pid is.pids of in let both : None ≡ Some q = sym none ∙ there in cc)
  acted_cred is (Spawn cred) choice of there = absurd of
  acted_cred is (CallAt v call) choice of there = absurd of
  acted_cred is (CallBy handle handle_call) choice of there = absurd of
  acted_cred is (Stamp n atime mtime ctime) choice of there = absurd of
  acted_cred is (Clock time) choice of there = absurd of
  acted_cred is Sync choice of there = absurd of
  acted_cred is Statfs choice of there = absurd of
  acted_cred is (Arm k) choice of there = absurd of
  acted_cred is (Restart bytes arm) choice of there = absurd of

  pub stepped_cred : IsState s → (e : Event) (choice : Choice) (reply : Reply) (s' : State) → IsOf pid e → StepBy choice s e reply s'
      → get nat_cmp s'.processes pid ≡ Some q → q.cred ≡ p.cred
  stepped_cred is e choice reply s' of (early on r a b c) there = same_cred (ap (λ u. get nat_cmp u.processes pid) (sym c) ∙ there)
  stepped_cred is e choice reply s' of (late on r d a b c) there = same_cred (ap (λ u. get nat_cmp u.processes pid) (sym c) ∙ there)
  stepped_cred is e choice reply s' of (done act b c) there = acted_cred is e choice of (ap (λ u. get nat_cmp u.processes pid) (sym c) ∙ there)

-- ---- the events

first_of_these : (pid : ℕ) (e : Event × Choice) (es : List (Event × Choice)) → AreOf pid (e ∷ es) → IsOf pid e.0 × IsEvent e.0
first_of_these pid e es ofs = All-head (λ e. IsOf pid e.0 × IsEvent e.0) e es ofs

rest_of_these : (pid : ℕ) (e : Event × Choice) (es : List (Event × Choice)) → AreOf pid (e ∷ es) → AreOf pid es
rest_of_these pid e es ofs = All-tail (λ e. IsOf pid e.0 × IsEvent e.0) e es ofs

-- ---- once the process is gone

gone_firm : (pid : ℕ) (s : State) (e : Event) → IsOf pid e → get nat_cmp s.processes pid ≡ None → firm_refusal s e ≡ Some (Failed ESRCH)
unfolding firm_refusal
gone_firm pid s (Calls by call) of none = ap (demand_of _) (subst (λ q. get nat_cmp s.processes q ≡ None) (sym of) none)
gone_firm pid s (Fsync by fd) of none = ap (demand_of _) (subst (λ q. get nat_cmp s.processes q ≡ None) (sym of) none)
gone_firm pid s (Exit by) of none = ap (demand_of _) (subst (λ q. get nat_cmp s.processes q ≡ None) (sym of) none)
gone_firm pid s _ of none = absurd of

gone_step : (pid : ℕ) (s s' : State) (e : Event) (choice : Choice) (reply : Reply) → IsOf pid e → get nat_cmp s.processes pid ≡ None
    → StepBy choice s e reply s' → (reply ≡ Refused (Failed ESRCH)) × (s' ≡ s)
gone_step pid s s' e choice reply of none (early on r a b c) = (let firm = gone_firm pid s e of none in cc, c)
gone_step pid s s' e choice reply of none (late on r d a b c) = absurd (let firm = gone_firm pid s e of none in cc)
gone_step pid s s' e choice reply of none (done act b c) = absurd (let firm = gone_firm pid s e of none in let firm' = act.early in cc)

pub gone_is_refused : GoneIsRefused
gone_is_refused pid s s' [] [] none ofs run = (refl, run)
gone_is_refused pid s s' [] (reply ∷ replies) none ofs run = absurd run
gone_is_refused pid s s' (e ∷ es) [] none ofs run = absurd run
gone_is_refused pid s s' (e ∷ es) (reply ∷ replies) none ofs run =
    let one = gone_step pid s run.0 e.0 e.1 reply (first_of_these pid e es ofs).0 none run.1 in
    let none_then : get nat_cmp run.0.processes pid ≡ None = ap (λ u. get nat_cmp u.processes pid) one.1 ∙ none in
    let rest = gone_is_refused pid run.0 s' es replies none_then (rest_of_these pid e es ofs) run.2 in (
      ap (λ r. r ∷ replies) one.0 ∙ ap (λ rs. Refused (Failed ESRCH) ∷ rs) rest.0,
      rest.1 ∙ one.1,
    )

-- ---- the law

machine_of : (pid : ℕ) (e : Event) → IsOf pid e → IsTrue (is_of_machine e)
machine_of pid (Calls by call) of = refl
machine_of pid (Fsync by fd) of = refl
machine_of pid (Exit by) of = refl
machine_of pid (Spawn cred) of = absurd of
machine_of pid (CallAt v call) of = absurd of
machine_of pid (CallBy handle handle_call) of = absurd of
machine_of pid (Stamp n atime mtime ctime) of = absurd of
machine_of pid (Clock time) of = absurd of
machine_of pid Sync of = absurd of
machine_of pid Statfs of = absurd of
machine_of pid (Arm k) of = absurd of
machine_of pid (Restart bytes arm) of = absurd of

step_is_state : (pid : ℕ) (s s' : State) (e : Event) (choice : Choice) (reply : Reply) → IsState s → IsOf pid e → IsEvent e
    → StepBy choice s e reply s' → IsState s'
step_is_state pid s s' e choice reply is of fits step = steps_keep s s' e reply is fits (steps_by s s' e reply choice (machine_of pid e of) step)

-- nothing has happened
none_alike : (pid : ℕ) (s t s' t' : State) → AreAlike pid s t → s' ≡ s → t' ≡ t → AnswerAlike {X = List Reply} pid [] [] s' t'
none_alike pid s t s' t' alike e f =
    subst (λ u. AnswerAlike {X = List Reply} pid [] [] u t') (sym e)
    (subst (λ u. AnswerAlike {X = List Reply} pid [] [] s u) (sym f) (record { replies = refl; process = here_alike pid s t alike; alike = λ _. alike }))

-- the rest, where the process is gone
gone_alike : (pid : ℕ) (m n s' t' : State) (es : List (Event × Choice)) (rs rs' : List Reply) → get nat_cmp m.processes pid ≡ None → get nat_cmp n.processes pid ≡ None
    → AreOf pid es → RunBy m es rs s' → RunBy n es rs' t' → AnswerAlike pid rs rs' s' t'
gone_alike pid m n s' t' es rs rs' here there ofs x y =
    let one = gone_is_refused pid m s' es rs here ofs x in
    let two = gone_is_refused pid n t' es rs' there ofs y in
    let first : get nat_cmp s'.processes pid ≡ None = ap (λ u. get nat_cmp u.processes pid) one.1 ∙ here in
    let second : get nat_cmp t'.processes pid ≡ None = ap (λ u. get nat_cmp u.processes pid) two.1 ∙ there in
    record {
      replies = one.0 ∙ sym two.0;
      process = first ∙ sym second;
      alike = λ some. absurd (let k : is_some (get nat_cmp s'.processes pid) ≡ true = some in cc);
    }

-- one more reply
then_alike : (pid : ℕ) (s' t' : State) (r r' : Reply) (rs rs' : List Reply) → r ≡ r' → AnswerAlike pid rs rs' s' t' → AnswerAlike pid (r ∷ rs) (r' ∷ rs') s' t'
then_alike pid s' t' r r' rs rs' e is = record {
  replies = ap (λ x. x ∷ rs) e ∙ ap (λ xs. r' ∷ xs) is.replies;
  process = is.process;
  alike = is.alike;
}

-- one step, and the rest by induction where the process is there
more_alike : (pid : ℕ) (m n s' t' : State) (es : List (Event × Choice)) (r r' : Reply) (rs rs' : List Reply) → AnswerAlike pid r r' m n → AreOf pid es
    → RunBy m es rs s' → RunBy n es rs' t'
    → ((q : Process) → get nat_cmp m.processes pid ≡ Some q → AnswerAlike pid rs rs' s' t') → AnswerAlike pid (r ∷ rs) (r' ∷ rs') s' t'
more_alike pid m n s' t' es r r' rs rs' one ofs x y on = then_alike pid s' t' r r' rs rs' one.replies (go (get nat_cmp m.processes pid) refl)
  where
    go : (o : Option Process) → get nat_cmp m.processes pid ≡ o → AnswerAlike pid rs rs' s' t'
    go None at = gone_alike pid m n s' t' es rs rs' at (sym one.process ∙ at) ofs x y
    go (Some q) at = on q at

pub confinement : Confinement
confinement pid p s t s' t' [] [] [] is js here plain ofs alike x y = none_alike pid s t s' t' alike x y
confinement pid p s t s' t' [] (r ∷ rs) rs' is js here plain ofs alike x y = absurd x
confinement pid p s t s' t' [] [] (r' ∷ rs') is js here plain ofs alike x y = absurd y
confinement pid p s t s' t' (e ∷ es) [] rs' is js here plain ofs alike x y = absurd x
confinement pid p s t s' t' (e ∷ es) (r ∷ rs) [] is js here plain ofs alike x y = absurd y
confinement pid p s t s' t' (e ∷ es) (r ∷ rs) (r' ∷ rs') is js here plain ofs alike x y =
    let of = (first_of_these pid e es ofs).0 in
    let fits = (first_of_these pid e es ofs).1 in
    let then = rest_of_these pid e es ofs in
    let one = confined e.0 pid p s t x.0 y.0 e.1 r r' is js here plain fits of alike x.1 y.1 in
    more_alike pid x.0 y.0 s' t' es r r' rs rs' one then x.2 y.2 (λ q at.
    confinement pid q x.0 y.0 s' t' es rs rs'
    (step_is_state pid s x.0 e.0 e.1 r is of fits x.1) (step_is_state pid t y.0 e.0 e.1 r' js of fits y.1) at
    (subst IsConfined (sym (stepped_cred pid p q s here is e.0 e.1 r x.0 of x.1 at)) plain) then (one.alike (ap is_some at)) x.2 y.2)

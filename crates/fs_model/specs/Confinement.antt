-- Confinement: the bytes that a process can't see into have no part in what it is answered, now or later, nor in whose times
-- move. Our own words.
--     IsConfined        a credential that can't make files its own
--     StepBy        one step with these free choices, and no failure of memory or disk
--     RunBy        one such step after another
--     IsOf        an event of the process
--     AnswerAlike        equal replies, and states that are alike while the process is there
--     Confinement, GoneIsRefused        the law, and what is answered once the process is gone
--     StepsAreBy, StepsBy        which steps those with free choices are
use Rattle.std.specs.Prelude.{◌≡◌, ◌≢◌, ℕ, List, [], ◌∷◌, map, None, Some, IsTrue, IsFalse, is_some, All}
use Rattle.std.specs.Ordering.{nat_cmp}
use Rattle.fs_cred.specs.declared.errno.Errno.TheVariants.{ESRCH, EIO, ENOMEM}
use Rattle.fs_cred.specs.declared.refusal.Refusal.{Refusal}
use Rattle.fs_cred.specs.declared.refusal.Refusal.TheVariants.{Failed}
use Rattle.fs_cred.specs.Capabilities.{cap_chown, cap_fowner}
use Rattle.fs_cred.specs.Credentials.{Credential, is_capable}
use Rattle.fs_layout.specs.Maps.{get}
use Rattle.fs_model.specs.declared.reply.Reply.{Reply}
use Rattle.fs_model.specs.declared.reply.Reply.TheVariants.{Refused}
use Rattle.fs_model.specs.declared.event.Event.{Event}
use Rattle.fs_model.specs.declared.event.Event.TheVariants.{Exit, Call as Calls, Fsync}
use Rattle.fs_model.specs.Processes.{Process}
use Rattle.fs_model.specs.States.{State, IsState}
use Rattle.fs_model.specs.Alike.{AreAlike}
use Rattle.fs_model.specs.Ranges.{IsEvent}
use Rattle.fs_model.specs.Steps.{Choice, Acts, Step, after, state_after, firm_refusal, other_refusal, is_of_machine}

-- Neither CAP_FOWNER, by which it counts as the owner of every file and sets any mode and ACL, nor CAP_CHOWN, by which it takes
-- any file for its own. Those that override access are in what the decision grants.
pub record IsConfined (cred : Credential) : Type 0 where
  pub no_fowner : IsFalse (is_capable cred cap_fowner)
  pub no_chown : IsFalse (is_capable cred cap_chown)

-- ---- steps with their free choices

-- The event is refused, or acts with these free choices: neither memory nor the disk fails.
pub data StepBy (choice : Choice) (old : State) (e : Event) (reply : Reply) (new : State) : Type 0 where
  early : IsFalse old.halted → (r : Refusal) → firm_refusal old e ≡ Some r → reply ≡ Refused r → new ≡ old
      → StepBy choice old e reply new
  late : IsFalse old.halted → (r : Refusal) → firm_refusal old e ≡ None → other_refusal old e ≡ Some r → reply ≡ Refused r → new ≡ old
      → StepBy choice old e reply new
  done : Acts old e choice → reply ≡ (after old e choice).reply → new ≡ state_after old (after old e choice) choice.free
      → StepBy choice old e reply new

-- one step after another, each event with its free choices
abbrev pub RunBy : State → List (Event × Choice) → List Reply → State → Type 0
RunBy old [] [] new = new ≡ old
RunBy old (e ∷ es) (reply ∷ replies) new = (mid : State) × StepBy e.1 old e.0 reply mid × RunBy mid es replies new
RunBy old [] (_ ∷ _) new = ⊥
RunBy old (_ ∷ _) [] new = ⊥

-- A step that answers neither ENOMEM nor EIO is one with some free choices,
abbrev pub StepsAreBy : Type 0
StepsAreBy =
    (old new : State) (e : Event) (reply : Reply) → Step old e reply new → reply ≢ Refused (Failed ENOMEM) → reply ≢ Refused (Failed EIO)
    → (choice : Choice) × StepBy choice old e reply new

-- and each of these is a step.
abbrev pub StepsBy : Type 0
StepsBy =
    (old new : State) (e : Event) (reply : Reply) (choice : Choice) → IsTrue (is_of_machine e) → StepBy choice old e reply new
    → Step old e reply new

-- ---- the law

-- a call, an fsync or the exit of the process
abbrev pub IsOf : ℕ → Event → Type 0
IsOf pid (Calls by call) = by ≡ pid
IsOf pid (Fsync by fd) = by ≡ pid
IsOf pid (Exit by) = by ≡ pid
IsOf pid _ = ⊥

-- each event is one of the process, and its numbers are in range
abbrev pub AreOf : ℕ → List (Event × Choice) → Type 0
AreOf pid events = All (λ e. IsOf pid e.0 × IsEvent e.0) events

-- Both answer with the same replies. The process is the same in both states, or gone from both; and while it is there they are alike to it.
pub record AnswerAlike {X : Type 0} (pid : ℕ) (answer answer' : X) (s t : State) : Type 0 where
  pub replies : answer ≡ answer'
  pub process : get nat_cmp s.processes pid ≡ get nat_cmp t.processes pid
  pub alike : IsTrue (is_some (get nat_cmp s.processes pid)) → AreAlike pid s t

-- From states that are alike to a process, the same events of it with the same free choices.
abbrev pub Confinement : Type 0
Confinement =
    (pid : ℕ) (p : Process) (s t s' t' : State) (events : List (Event × Choice)) (replies replies' : List Reply)
    → IsState s → IsState t → get nat_cmp s.processes pid ≡ Some p → IsConfined p.cred → AreOf pid events → AreAlike pid s t
    → RunBy s events replies s' → RunBy t events replies' t' → AnswerAlike pid replies replies' s' t'

-- Once it is gone, each event of it is ESRCH.
abbrev pub GoneIsRefused : Type 0
GoneIsRefused =
    (pid : ℕ) (s s' : State) (events : List (Event × Choice)) (replies : List Reply)
    → get nat_cmp s.processes pid ≡ None → AreOf pid events → RunBy s events replies s'
    → (replies ≡ map (λ _. Refused (Failed ESRCH)) events) × (s' ≡ s)

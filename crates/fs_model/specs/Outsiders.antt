-- Confinement of those who are no process: the bytes that someone outside can't see into have no part in what it is answered, now or
-- later, nor in whose times move. Our own words.
--     Outsider        someone with a credential, and the handles that it was answered
--     sight        who sees what it does
--     AreAlikeTo        two states that are the same to it
--     IsItsEvent        its actors, from wherever, and its handle_calls
--     after_answer        what it has then
--     OutsidersConfined, OutsiderRunsConfined        the law, for one event and for several
--     OthersKeepAlike        what anyone may do between its events
--     AreOpen, HandlesStayOpen, OpensAreOthers        its handles are open, and stay so; none of them is answered to an open
--     IsListing, ListingsKeepAlike, ListingRunsConfined        so may others open, list and close directories, by handles of their own
--     ActorsKeepAlike        states that are alike to a process stay so where its credential actors
--     AlikeToCredentials        what is alike to a process is so to its credential
use Rattle.std.specs.Prelude.{◌≡◌, ℕ, ◌==◌, not, List, [], ◌∷◌, ◌++◌, Option, None, Some, is_some, IsTrue, IsFalse, ◌⊎◌, ◌||◌}
use Rattle.std.specs.List.{filter, list_any}
use Rattle.std.specs.Ordering.{nat_cmp}
use Rattle.fs_cred.specs.Credentials.{Credential}
use Rattle.fs_layout.specs.Maps.{get}
use Rattle.fs_model.specs.declared.call.Call.{Call}
use Rattle.fs_model.specs.declared.call.Flags.{Flags}
use Rattle.fs_model.specs.declared.call.Call.TheVariants.{Open as OpenCall}
use Rattle.fs_model.specs.declared.reply.Reply.{Reply}
use Rattle.fs_model.specs.declared.reply.Reply.TheVariants.{Done, Opened}
use Rattle.fs_model.specs.declared.event.Event.{Event}
use Rattle.fs_model.specs.declared.event.Event.TheVariants.{CallAt, CallBy, Stamp, Clock, Sync, Statfs}
use Rattle.fs_model.specs.declared.event.Actor.{Actor}
use Rattle.fs_model.specs.declared.event.HandleCall.TheVariants.{List as ListBy, Close as CloseBy}
use Rattle.fs_model.specs.Processes.{Process, Descriptor, Openings, process_holding}
use Rattle.fs_model.specs.States.{State, IsState}
use Rattle.fs_model.specs.Alike.{seen_by, AreAlike}
use Rattle.fs_model.specs.Ranges.{IsEvent}
use Rattle.fs_model.specs.Actors.{is_look}
use Rattle.fs_model.specs.Steps.{Choice, Step}
use Rattle.fs_model.specs.Confinement.{IsConfined, StepBy, RunBy, AnswerAlike}

pub record Outsider : Type 0 where
  pub cred : Credential
  pub handles : List ℕ

-- what it has opened and not closed
abbrev pub held_at : ℕ → Option Descriptor → Openings
held_at handle None = []
held_at handle (Some d) = (handle, d) ∷ []

abbrev pub held : Openings → List ℕ → Openings
held openings [] = []
held openings (handle ∷ handles) = held_at handle (get nat_cmp openings handle) ++ held openings handles

abbrev pub sight : State → Outsider → Process
sight s w = record (process_holding (held s.openings w.handles)) { cred = w.cred }

-- to it the two states are alike
pub record AreAlikeTo (w : Outsider) (s t : State) : Type 0 where
  pub first_runs : IsFalse s.halted
  pub second_runs : IsFalse t.halted
  pub same : seen_by (Some (sight s w)) s ≡ seen_by (Some (sight t w)) t

-- a call of an actor with its credential, from wherever, or what is done by one of its handles
abbrev pub IsItsEvent : Outsider → Event → Type 0
IsItsEvent w (CallAt actor call) = w.cred ≡ actor.cred
IsItsEvent w (CallBy handle handle_call) = IsTrue (list_any (λ h. h == handle) w.handles)
IsItsEvent w _ = ⊥

-- it has what it opens until it closes that
abbrev pub after_answer : Outsider → Event → Reply → Outsider
after_answer w (CallAt actor (OpenCall path flags mode)) (Opened handle n) = record w { handles = handle ∷ w.handles }
after_answer w (CallBy handle CloseBy) Done = record w { handles = filter (λ h. not (h == handle)) w.handles }
after_answer w _ _ = w

-- From states that are alike to someone outside, an event of it with the same free choices: equal replies, and states that are alike to it.
abbrev pub OutsidersConfined : Type 0
OutsidersConfined =
    (w : Outsider) (e : Event) (s t s' t' : State) (choice : Choice) (reply reply' : Reply)
    → IsState s → IsState t → IsConfined w.cred → IsItsEvent w e → IsEvent e → AreAlikeTo w s t
    → StepBy choice s e reply s' → StepBy choice t e reply' t' → (reply ≡ reply') × AreAlikeTo (after_answer w e reply) s' t'

-- what looks at no byte and changes none: a call of any actor that only looks, the times of a node, the time, and what makes stable
abbrev pub IsBetween : Event → Type 0
IsBetween (CallAt actor call) = IsTrue (is_look call)
IsBetween (Stamp n atime mtime ctime) = Unit {0}
IsBetween (Clock now) = Unit {0}
IsBetween Sync = Unit {0}
IsBetween Statfs = Unit {0}
IsBetween _ = ⊥

-- Its states stay alike to it where such events come between, whoever asks, and these are answered alike too.
abbrev pub OthersKeepAlike : Type 0
OthersKeepAlike =
    (w : Outsider) (e : Event) (s t s' t' : State) (choice : Choice) (reply reply' : Reply) → IsState s → IsState t → IsBetween e → AreAlikeTo w s t
    → StepBy choice s e reply s' → StepBy choice t e reply' t' → (reply ≡ reply') × AreAlikeTo w s' t'

-- ---- what lists directories

-- each of its handles is one by which something is open
abbrev pub AreOpen : Outsider → State → Type 0
AreOpen w s = (handle : ℕ) → IsTrue (list_any (λ h. h == handle) w.handles) → IsTrue (is_some (get nat_cmp s.openings handle))

-- An open of anyone that neither makes nor empties a file, as of a directory that is to be read; the names that are shown by a handle, whoever
-- has it; and the close of a handle that is none of its own. Whether that was for a directory doesn't matter.
abbrev pub IsListing : Outsider → Event → Type 0
IsListing w (CallAt actor (OpenCall path flags mode)) = IsFalse (flags.create || flags.trunc)
IsListing w (CallBy handle ListBy) = Unit {0}
IsListing w (CallBy handle CloseBy) = IsFalse (list_any (λ h. h == handle) w.handles)
IsListing w _ = ⊥

-- While its handles are open, its states stay alike to it where such events come between, whoever asks, and these are answered alike too. It
-- has then what it had: what others open they get by a handle that is none of its own.
abbrev pub ListingsKeepAlike : Type 0
ListingsKeepAlike =
    (w : Outsider) (e : Event) (s t s' t' : State) (choice : Choice) (reply reply' : Reply) → IsState s → AreOpen w s → IsListing w e → AreAlikeTo w s t
    → StepBy choice s e reply s' → StepBy choice t e reply' t' → (reply ≡ reply') × AreAlikeTo w s' t'

-- Its handles stay open: those that it has after an event of its own, if that doesn't halt the machine, and those that it had where events of
-- others come between.
pub record StayOpen (w : Outsider) (e : Event) (reply : Reply) (new : State) : Type 0 where
  pub its : IsItsEvent w e → IsFalse new.halted → AreOpen (after_answer w e reply) new
  pub others : IsBetween e ⊎ IsListing w e → AreOpen w new

abbrev pub HandlesStayOpen : Type 0
HandlesStayOpen =
    (w : Outsider) (e : Event) (old new : State) (reply : Reply) → IsState old → AreOpen w old → Step old e reply new → StayOpen w e reply new

-- What anyone opens is answered a handle that is none of its own.
abbrev pub OpensAreOthers : Type 0
OpensAreOthers =
    (w : Outsider) (old new : State) (actor : Actor) (path : List ℕ) (flags : Flags) (mode handle n : ℕ) → AreOpen w old
    → Step old (CallAt actor (OpenCall path flags mode)) (Opened handle n) new → IsFalse (list_any (λ h. h == handle) w.handles)

-- ---- several events

-- And its events, one after another, each by what it was answered before, and such events in between.
abbrev pub AreItsEvents : Outsider → List (Event × Choice) → List Reply → Type 0
AreItsEvents w [] _ = Unit {0}
AreItsEvents w (e ∷ es) [] = ⊥
AreItsEvents w (e ∷ es) (reply ∷ replies) = (IsItsEvent w e.0 ⊎ IsBetween e.0) × IsEvent e.0 × AreItsEvents (after_answer w e.0 reply) es replies

abbrev pub after_answers : Outsider → List (Event × Choice) → List Reply → Outsider
after_answers w (e ∷ es) (reply ∷ replies) = after_answers (after_answer w e.0 reply) es replies
after_answers w _ _ = w

abbrev pub OutsiderRunsConfined : Type 0
OutsiderRunsConfined =
    (w : Outsider) (s t s' t' : State) (events : List (Event × Choice)) (replies replies' : List Reply)
    → IsState s → IsState t → IsConfined w.cred → AreItsEvents w events replies → AreAlikeTo w s t
    → RunBy s events replies s' → RunBy t events replies' t' → (replies ≡ replies') × AreAlikeTo (after_answers w events replies) s' t'

-- Its events and others', one after another, whose each is being said; and what it has then.
abbrev pub LeadsTo : Outsider → List (Event × Choice) → List Reply → Outsider → Type 0
LeadsTo w [] [] then = then ≡ w
LeadsTo w (e ∷ es) (reply ∷ replies) then =
    IsEvent e.0 × ((IsItsEvent w e.0 × LeadsTo (after_answer w e.0 reply) es replies then)
    ⊎ ((IsBetween e.0 ⊎ IsListing w e.0) × LeadsTo w es replies then))
LeadsTo w [] (_ ∷ _) then = ⊥
LeadsTo w (_ ∷ _) [] then = ⊥

-- So where its handles are open, others may list directories in between too.
abbrev pub ListingRunsConfined : Type 0
ListingRunsConfined =
    (w then : Outsider) (s t s' t' : State) (events : List (Event × Choice)) (replies replies' : List Reply)
    → IsState s → IsState t → IsConfined w.cred → AreOpen w s → LeadsTo w events replies then → AreAlikeTo w s t
    → RunBy s events replies s' → RunBy t events replies' t' → (replies ≡ replies') × AreAlikeTo then s' t' × AreOpen then s'

-- States that are alike to a process stay so where an actor with its credential calls.
abbrev pub ActorsKeepAlike : Type 0
ActorsKeepAlike =
    (pid : ℕ) (p : Process) (actor : Actor) (call : Call) (s t s' t' : State) (choice : Choice) (reply reply' : Reply)
    → IsState s → IsState t → get nat_cmp s.processes pid ≡ Some p → p.cred ≡ actor.cred → IsConfined actor.cred → IsEvent (CallAt actor call) → AreAlike pid s t
    → StepBy choice s (CallAt actor call) reply s' → StepBy choice t (CallAt actor call) reply' t' → AnswerAlike pid reply reply' s' t'

-- A process sees all that its credential does: what is alike to it is alike to the credential.
abbrev pub AlikeToCredentials : Type 0
AlikeToCredentials =
    (pid : ℕ) (p : Process) (s t : State) → get nat_cmp s.processes pid ≡ Some p → AreAlike pid s t
    → AreAlikeTo (record { cred = p.cred; handles = [] }) s t

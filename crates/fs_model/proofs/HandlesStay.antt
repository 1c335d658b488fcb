-- A handle is new where it is answered, stays what it is, and goes where it is closed.
use Rattle.std.specs.Prelude.{◌≡◌, ◌≢◌, ℕ, Bool, true, false, not, cond, Option, None, Some}
use Rattle.std.proofs.Common.{refl, sym, ap, ◌∙◌, inl, inr}
use Rattle.std.specs.Ordering.{nat_cmp, is_eq, eq_by_cmp}
use Rattle.fs_layout.specs.Maps.{get, with_entry, without, IsMap}
use Rattle.fs_layout.proofs.FirstEntries.{tied, ties, apart}
use Rattle.fs_layout.proofs.MapLaws.{get-with_entry}
use Rattle.fs_model.specs.declared.call.Call.{Call}
use Rattle.fs_model.specs.declared.call.Call.TheVariants.{Open}
use Rattle.fs_model.specs.declared.event.HandleCall.{HandleCall}
use Rattle.fs_model.specs.declared.event.HandleCall.TheVariants.{Close as CloseBy}
use Rattle.fs_model.specs.declared.event.Event.{Event}
use Rattle.fs_model.specs.declared.event.Event.TheVariants.{Spawn, Exit, Call as Calls, CallAt, CallBy, Stamp, Clock, Fsync, Sync, Statfs, Arm, Restart}
use Rattle.fs_model.specs.declared.event.Actor.{Actor}
use Rattle.fs_cred.specs.declared.refusal.Refusal.{Refusal}
use Rattle.fs_model.specs.declared.reply.Reply.{Reply}
use Rattle.fs_model.specs.declared.reply.Reply.TheVariants.{Done, Opened, Refused}
use Rattle.fs_model.specs.Processes.{Process, Descriptor, Openings, the_descriptor}
use Rattle.fs_model.specs.States.{State, IsState}
use Rattle.fs_model.specs.Rows.{row_of}
use Rattle.fs_model.specs.Actors.{opened_by}
use Rattle.fs_model.specs.HandleCalls.{kept_by}
use Rattle.fs_model.specs.Steps.{Choice, HasNewHandle, actor_scene, after, after_call, Answers, is_halted, refuses_early, refuses_late, acts, lacks_memory, read_fails, write_fails}
use Rattle.fs_model.specs.Handles.{opened_for, OpenedIs, HandlesStay, ClosedIsGone}
use Rattle.fs_model.proofs.Swept.{kept, get-filter}

-- ---- maps

set_at : (openings : Openings) (handle : ℕ) (d : Descriptor) → get nat_cmp (with_entry nat_cmp openings handle d) handle ≡ Some d
set_at openings handle d = get-with_entry openings handle d handle ∙ ap (λ b. cond b (Some d) (get nat_cmp openings handle)) (ties handle handle refl)

-- what stands elsewhere stays
set_elsewhere : (openings : Openings) (k handle : ℕ) (new d : Descriptor) → get nat_cmp openings k ≡ None → get nat_cmp openings handle ≡ Some d
    → get nat_cmp (with_entry nat_cmp openings k new) handle ≡ Some d
set_elsewhere openings k handle new d none at = get-with_entry openings k new handle ∙ go (is_eq (nat_cmp handle k)) refl
  where
    go : (b : Bool) → is_eq (nat_cmp handle k) ≡ b → cond b (Some new) (get nat_cmp openings handle) ≡ Some d
    go true e = absurd (let same : get nat_cmp openings handle ≡ None = ap (get nat_cmp openings) (tied handle k e) ∙ none in cc)
    go false e = at

pub get-without : (openings : Openings) (k handle : ℕ) → IsMap nat_cmp openings
    → get nat_cmp (without nat_cmp openings k) handle ≡ kept (λ e. not (eq_by_cmp nat_cmp k e.0)) handle (get nat_cmp openings handle)
get-without openings k handle is = get-filter (λ e. not (eq_by_cmp nat_cmp k e.0)) openings is handle

gone_at : (openings : Openings) (handle : ℕ) → IsMap nat_cmp openings → get nat_cmp (without nat_cmp openings handle) handle ≡ None
gone_at openings handle is = get-without openings handle handle is ∙ go (get nat_cmp openings handle)
  where
    go : (o : Option Descriptor) → kept (λ e. not (eq_by_cmp nat_cmp handle e.0)) handle o ≡ None
    go None = refl
    go (Some d) = ap (λ b. cond (not b) (Some d) None) (ties handle handle refl)

left_elsewhere : (openings : Openings) (k handle : ℕ) (d : Descriptor) → IsMap nat_cmp openings → k ≢ handle → get nat_cmp openings handle ≡ Some d
    → get nat_cmp (without nat_cmp openings k) handle ≡ Some d
left_elsewhere openings k handle d is ne at =
    get-without openings k handle is ∙ ap (kept (λ e. not (eq_by_cmp nat_cmp k e.0)) handle) at
    ∙ ap (λ b. cond (not b) (Some d) None) (apart k handle ne)

-- ---- what is open after an event

opened_stays : (v : Actor) (call : Call) (s : State) (k : ℕ) (p : Process) (handle : ℕ) (d : Descriptor) → HasNewHandle s (CallAt v call) k
    → get nat_cmp s.openings handle ≡ Some d → get nat_cmp (opened_by call k p s.openings) handle ≡ Some d
opened_stays v (Open path flags mode) s k p handle d new at = set_elsewhere s.openings k handle _ d new at
opened_stays v call s k p handle d new at = at

kept_stays : (handle_call : HandleCall) (k : ℕ) (openings : Openings) (handle : ℕ) (d : Descriptor) → IsMap nat_cmp openings → CallBy k handle_call ≢ CallBy handle CloseBy
    → get nat_cmp openings handle ≡ Some d → get nat_cmp (kept_by handle_call k openings) handle ≡ Some d
kept_stays CloseBy k openings handle d is other at = left_elsewhere openings k handle d is (λ same. other (ap (λ h. CallBy h CloseBy) same)) at
kept_stays handle_call k openings handle d is other at = at

after_stays : (s : State) (e : Event) (choice : Choice) (handle : ℕ) (d : Descriptor) → IsMap nat_cmp s.openings → HasNewHandle s e choice.handle
    → e ≢ CallBy handle CloseBy → get nat_cmp s.openings handle ≡ Some d → get nat_cmp (after s e choice).openings handle ≡ Some d
unfolding after
after_stays s (CallAt v call) choice handle d is new other at =
    opened_stays v call s choice.handle ((row_of call).effect (actor_scene s v (row_of call)) choice.ino).process handle d new at
after_stays s (CallBy k handle_call) choice handle d is new other at = kept_stays handle_call k s.openings handle d is other at
after_stays s (Calls pid call) choice handle d is new other at = go (get nat_cmp s.processes pid)
  where
    go : (o : Option Process) → get nat_cmp (after_call s pid (row_of call) choice.ino o).openings handle ≡ Some d
    go None = at
    go (Some p) = at
after_stays s (Spawn cred) choice handle d is new other at = at
after_stays s (Exit pid) choice handle d is new other at = at
after_stays s (Stamp n atime mtime ctime) choice handle d is new other at = at
after_stays s (Clock time) choice handle d is new other at = at
after_stays s (Fsync pid fd) choice handle d is new other at = at
after_stays s Sync choice handle d is new other at = at
after_stays s Statfs choice handle d is new other at = at
after_stays s (Arm k) choice handle d is new other at = at
after_stays s (Restart bytes arm) choice handle d is new other at = at

-- ---- steps

-- what stands in the state that follows
stands_in : (s t : State) (openings : Openings) (handle : ℕ) (o : Option Descriptor) → t.openings ≡ openings → get nat_cmp openings handle ≡ o
    → get nat_cmp t.openings handle ≡ o
stands_in s t openings handle o same at = ap (λ os. get nat_cmp os handle) same ∙ at

answered_stays : (old new : State) (e : Event) (reply : Reply) (handle : ℕ) (d : Descriptor) → IsState old → Answers old e reply new → e ≢ CallBy handle CloseBy
    → get nat_cmp old.openings handle ≡ Some d → get nat_cmp new.openings handle ≡ Some d
answered_stays old new e reply handle d is (is_halted h a same) other at = stands_in old new old.openings handle (Some d) (ap (λ s. s.openings) same) at
answered_stays old new e reply handle d is (refuses_early h r f a same) other at = stands_in old new old.openings handle (Some d) (ap (λ s. s.openings) same) at
answered_stays old new e reply handle d is (refuses_late h r f l a same) other at = stands_in old new old.openings handle (Some d) (ap (λ s. s.openings) same) at
answered_stays old new e reply handle d is (acts choice does a now) other at =
    stands_in old new (after old e choice).openings handle (Some d) (ap (λ s. s.openings) now) (after_stays old e choice handle d is.handles does.allowed.handle other at)
answered_stays old new e reply handle d is (lacks_memory h f m a same) other at = stands_in old new old.openings handle (Some d) (ap (λ s. s.openings) same) at
answered_stays old new e reply handle d is (read_fails h f a same) other at = stands_in old new old.openings handle (Some d) (ap (λ s. s.openings) same) at
answered_stays old new e reply handle d is (write_fails choice does a processes openings which now) other at =
    stands_in old new openings handle (Some d) (ap (λ s. s.openings) now) (elim which [
      | inl as_were ↦ ap (λ os. get nat_cmp os handle) as_were.1 ∙ at
      | inr as_left ↦ ap (λ os. get nat_cmp os handle) as_left.1 ∙ after_stays old e choice handle d is.handles does.allowed.handle other at
    ])

pub handles_stay : HandlesStay
handles_stay old new e reply handle d is step other at = answered_stays old new e reply handle d is step.1 other at

record HasActed (old new : State) (e : Event) (r : Reply) : Type 0 where
  choice : Choice
  handle : HasNewHandle old e choice.handle
  reply : r ≡ (after old e choice).reply
  openings : new.openings ≡ (after old e choice).openings

-- an answer that is no refusal is that of an event that acts
acted : (old new : State) (e : Event) (reply : Reply) → Answers old e reply new → ((r : Refusal) → reply ≢ Refused r) → HasActed old new e reply
acted old new e reply (is_halted h a same) none = absurd (none _ a)
acted old new e reply (refuses_early h r f a same) none = absurd (none r a)
acted old new e reply (refuses_late h r f l a same) none = absurd (none r a)
acted old new e reply (acts choice does a now) none = record { choice = choice; handle = does.allowed.handle; reply = a; openings = ap (λ s. s.openings) now }
acted old new e reply (lacks_memory h f m a same) none = absurd (none _ a)
acted old new e reply (read_fails h f a same) none = absurd (none _ a)
acted old new e reply (write_fails choice does a processes openings which now) none = absurd (none _ a)

pub opened_is : OpenedIs
unfolding after row_of
opened_is old new v path flags mode handle n step =
    let x = acted old new (CallAt v (Open path flags mode)) (Opened handle n) step.1 (λ r same. absurd cc) in
    let e = (row_of (Open path flags mode)).effect (actor_scene old v (row_of (Open path flags mode))) x.choice.ino in
    let d = the_descriptor e.process 0 in
    let told : Opened handle n ≡ Opened x.choice.handle d.ino = x.reply in
    let same : handle ≡ x.choice.handle = cc in
    let ino : n ≡ d.ino = cc in
    let unused : get nat_cmp old.openings x.choice.handle ≡ None = x.handle in
    record {
      unused = ap (get nat_cmp old.openings) same ∙ unused;
      opened =
          ap (λ h. get nat_cmp new.openings h) same ∙ ap (λ os. get nat_cmp os x.choice.handle) x.openings ∙ set_at old.openings x.choice.handle d
          ∙ ap (λ m. Some (opened_for flags m)) (sym ino);
    }

pub closed_is_gone : ClosedIsGone
unfolding after
closed_is_gone old new handle is step =
    let x = acted old new (CallBy handle CloseBy) Done step.1 (λ r same. absurd cc) in
    ap (λ os. get nat_cmp os handle) x.openings ∙ gone_at old.openings handle is.handles

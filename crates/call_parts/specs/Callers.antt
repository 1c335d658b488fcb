-- Who makes a call: a process, or an actor. All that differs between both is said here.
--     Who, event, who_of        it, the event of its call, and whom a caller stands for
--     AnyCall, event_of, row_asked, asks_of        a call of someone, or what is done by a handle
--     HasCredential        an actor's credential is one
--     IsJudgedAs, IsAbsent        as which process a call is judged
--     MayMake        an actor makes not every call
--     first_start, second_start        where its paths start
--     path_asked        what is asked of a path before it is walked
--     starts_asked        what is asked of the objects at which an actor's paths start
--     types_asked        the same of the types of what stands there
--     opens, is_told, told_by        what an actor is told the number of
--     left_by, left_of        what an effect leaves
--     leaving        what is left with these tables
use Rattle.std.specs.Prelude.{◌≡◌, ℕ, Bool, true, false, not, ◌&&◌, List, [], ◌∷◌, Option, None, Some, IsTrue, is_some}
use Rattle.std.specs.Ordering.{nat_cmp}
use Rattle.fs_cred.specs.Credentials.{IsCredential}
use Rattle.fs_cred.specs.declared.errno.Errno.TheVariants.{ENOENT, ELOOP}
use Rattle.fs_layout.specs.Maps.{get}
use Rattle.fs_model.specs.declared.call.Call.{Call}
use Rattle.fs_model.specs.declared.call.Call.TheVariants.{Open, Mkdir, Symlink}
use Rattle.fs_model.specs.declared.event.Event.{Event}
use Rattle.fs_model.specs.declared.event.Event.TheVariants.{Call as Calls, CallAt, CallBy}
use Rattle.fs_model.specs.declared.event.HandleCall.{HandleCall}
use Rattle.fs_model.specs.declared.reply.Reply.{Reply}
use Rattle.fs_model.specs.declared.reply.Reply.TheVariants.{Made}
use Rattle.fs_model.specs.HandleCalls.{handle_call_row}
use Rattle.fs_model.specs.Rows.{row_of}
use Rattle.fs_model.specs.TreeChanges.{Change}
use Rattle.fs_model.specs.declared.event.Actor.{Actor}
use Rattle.fs_model.specs.declared.reply.FileType.{FileType}
use Rattle.fs_model.specs.declared.reply.FileType.TheVariants as types
use Rattle.fs_model.specs.Demands.{Demand, refuse}
use Rattle.fs_model.specs.Parts.{is_empty, path_checks}
use Rattle.fs_model.specs.Processes.{Process, ProcessTable}
use Rattle.fs_model.specs.Scenes.{Effect, Row}
use Rattle.fs_model.specs.States.{State}
use Rattle.fs_model.specs.Steps.{After, Choice, asks_in_call, asks_in_handle_call, after_effect, after_call_at, after_handle_call}
use Rattle.fs_model.specs.Trees.{Tree, node_at}
use Rattle.fs_model.specs.Actors.{judged_as, is_actor_call, acts_on_links, checks_from, is_link_node}
use Rattle.call_parts.specs.BothTables.{Tables}
use Rattle.call_parts.specs.declared.reaching.By.{By}
use Rattle.call_parts.specs.declared.reaching.By.TheVariants as by

pub data Who : Type 0 where
  ByProcess : ℕ → Who
  ByActor : Actor → Who

abbrev pub event : Who → Call → Event
event (ByProcess pid) call = Calls pid call
event (ByActor actor) call = CallAt actor call

-- a call of someone, or what is done by a handle
pub data AnyCall : Type 0 where
  ByCaller : Who → Call → AnyCall
  ByHandle : ℕ → HandleCall → AnyCall

abbrev pub event_of : AnyCall → Event
event_of (ByCaller who call) = event who call
event_of (ByHandle handle call) = CallBy handle call

abbrev pub row_asked : AnyCall → Row
row_asked (ByCaller who call) = row_of call
row_asked (ByHandle handle call) = handle_call_row call

-- whether it asks for memory
abbrev pub asks_of : AnyCall → Bool
asks_of (ByCaller who call) = asks_in_call call
asks_of (ByHandle handle call) = asks_in_handle_call call

abbrev pub who_of : By → Who
who_of (by.Process pid) = ByProcess pid
who_of (by.Actor actor) = ByActor actor.now

pub record IsJudged (actor : Actor) (q : Process) : Type 0 where
  pub is : q ≡ judged_as actor
  pub cred : IsCredential actor.cred

-- its numbers are in range
abbrev pub HasCredential : Who → Type 0
HasCredential (ByProcess pid) = Unit {0}
HasCredential (ByActor actor) = IsCredential actor.cred

-- the process itself, or as whom the actor is judged
abbrev pub IsJudgedAs : ProcessTable → Who → Process → Type 0
IsJudgedAs processes (ByProcess pid) q = get nat_cmp processes pid ≡ Some q
IsJudgedAs processes (ByActor actor) q = IsJudged actor q

abbrev pub IsAbsent : ProcessTable → Who → Type 0
IsAbsent processes (ByProcess pid) = get nat_cmp processes pid ≡ None
IsAbsent processes (ByActor actor) = ⊥

-- whether it acts on a link at which its first path starts
abbrev pub MayMake : Who → Call → Bool → Type 0
MayMake (ByProcess pid) call links = Unit {0}
MayMake (ByActor actor) call links = IsTrue (is_actor_call call) × (acts_on_links call ≡ links)

abbrev pub first_start : Who → Process → ℕ
first_start (ByProcess pid) q = q.cwd
first_start (ByActor actor) q = actor.start

abbrev pub second_start : Who → Process → ℕ
second_start (ByProcess pid) q = q.cwd
second_start (ByActor actor) q = actor.second_start

-- an actor's path may be empty
abbrev pub path_asked : Who → List ℕ → List Demand
path_asked (ByProcess pid) path = path_checks path
path_asked (ByActor actor) path = checks_from path

-- of a process nothing: it stands in directories
abbrev pub starts_asked : Tree → Who → Bool → List ℕ → List Demand
starts_asked t (ByProcess pid) links path = []
starts_asked t (ByActor actor) links path =
    refuse ENOENT (not (is_some (node_at t actor.start)))
    ∷ refuse ENOENT (not (is_some (node_at t actor.second_start)))
    ∷ refuse ELOOP (is_empty path && is_link_node (node_at t actor.start) && not links)
    ∷ []

-- the same of the types of what stands there
abbrev pub is_link_type : Option FileType → Bool
is_link_type (Some types.Link) = true
is_link_type _ = false

abbrev pub types_asked : Option FileType → Option FileType → Bool → Bool → List Demand
types_asked first second empty links =
    refuse ENOENT (not (is_some first))
    ∷ refuse ENOENT (not (is_some second))
    ∷ refuse ELOOP (empty && is_link_type first && not links)
    ∷ []

-- ---- what is left

-- the call opens something
abbrev pub opens : Call → Bool
opens (Open path flags mode) = true
opens _ = false

-- an actor is told a number
abbrev pub is_told : Call → Bool
is_told (Open path flags mode) = true
is_told (Mkdir path mode) = true
is_told (Symlink target path) = true
is_told _ = false

-- that of what the call makes, and else what a process is told
abbrev pub told_of_made : Call → ℕ → Reply → Reply
told_of_made (Mkdir path mode) n reply = Made n
told_of_made (Symlink target path) n reply = Made n
told_of_made _ n reply = reply

abbrev pub told_by : Who → Call → ℕ → Reply → Reply
told_by (ByProcess pid) call n reply = reply
told_by (ByActor actor) call n reply = told_of_made call n reply

-- what the maker of something with this number is told
abbrev pub made_reply : Who → ℕ → Reply → Reply
made_reply (ByProcess pid) n reply = reply
made_reply (ByActor actor) n reply = Made n

abbrev pub left_by : Who → State → Call → Choice → Effect → After
left_by (ByProcess pid) s call choice effect = after_effect s pid effect
left_by (ByActor actor) s call choice effect = after_call_at s call choice effect

abbrev pub left_of : AnyCall → State → Choice → Effect → After
left_of (ByCaller who call) s choice effect = left_by who s call choice effect
left_of (ByHandle handle call) s choice effect = after_handle_call s handle call effect

abbrev pub leaving : State → Tables → Change → Reply → After
leaving s now change reply = record { change = change; processes = now.processes; openings = now.openings; reply = reply; now = s.now }

-- The abstract machine, one event after another. What may stand in for an answer is our own rule.
--     scene_of, actor_scene        what a call finds, and that of an actor
--     kept_stamps        the times that a node is to have
--     firm_refusal, other_refusal        the first refusal of an event, in order
--     Choice, After, after, state_after        what an event answers and leaves where nothing refuses
--     Step, Run        one step, and several
use Rattle.std.specs.Prelude.{◌≡◌, ℕ, ◌+◌, ◌<◌, ◌≤◌, nat_le, Bool, true, false, not, List, [], ◌∷◌, ◌++◌, length, Option, None, Some, is_some, IsTrue, IsFalse, ◌⊎◌, if◌then◌else◌}
use Rattle.std.specs.List.{flat_map}
use Rattle.std.specs.Ordering.{nat_cmp}
use Rattle.fs_cred.specs.declared.errno.Errno.TheVariants.{ENOENT, EBADF, ESRCH, EIO, EAGAIN, ENOMEM}
use Rattle.fs_cred.specs.declared.refusal.Refusal.{Refusal}
use Rattle.fs_cred.specs.Credentials.{Credential}
use Rattle.fs_cred.specs.declared.refusal.Refusal.TheVariants.{Failed}
use Rattle.fs_model.specs.declared.call.Call.{Call}
use Rattle.fs_model.specs.declared.call.Call.TheVariants.{Open as OpenCall, Write, Lseek, Close, Fstat, Ftruncate, Umask}
use Rattle.fs_model.specs.declared.reply.Reply.{Reply}
use Rattle.fs_model.specs.declared.reply.Reply.TheVariants.{Done, Pid, Space, Stamped, Refused}
use Rattle.fs_model.specs.declared.event.Event.{Event}
use Rattle.fs_model.specs.declared.event.Actor.{Actor}
use Rattle.fs_model.specs.declared.event.HandleCall.{HandleCall}
use Rattle.fs_model.specs.declared.event.HandleCall.TheVariants.{Read as ReadBy, List as ListBy}
use Rattle.fs_model.specs.declared.event.Event.TheVariants.{Spawn, Exit, Call as Calls, CallAt, CallBy, Stamp, Clock, Fsync, Statfs, Arm, Restart}
use Rattle.fs_model.specs.Limits.{processes_limit}
use Rattle.fs_layout.specs.Maps.{get, with_entry, without}
use Rattle.fs_model.specs.declared.reply.Stamps.{Stamps}
use Rattle.fs_model.specs.declared.touch.Touch.TheVariants.{Untouched}
use Rattle.fs_model.specs.Nodes.{Node, stamped}
use Rattle.fs_model.specs.Births.{the_node}
use Rattle.fs_model.specs.Trees.{Tree, Room, node_at, free_inodes}
use Rattle.fs_model.specs.Processes.{Process, ProcessTable, Openings, users, new_process, IsNewPid}
use Rattle.fs_model.specs.TreeChanges.{Change, Same, Rewrite, Make, changed, touches, touched, swept}
use Rattle.fs_model.specs.States.{State, MayBeFree}
use Rattle.fs_model.specs.Demands.{Demand, refuse, or_else, first_of}
use Rattle.fs_model.specs.Parts.{parts_of, start_of, path_checks}
use Rattle.fs_model.specs.declared.walk.Form.{Form}
use Rattle.fs_model.specs.Trails.{Trail, trail_of}
use Rattle.fs_model.specs.declared.walk.Found.{Found}
use Rattle.fs_model.specs.declared.walk.Last.TheVariants.{Top}
use Rattle.fs_model.specs.Walks.{found_of, first_refusal}
use Rattle.fs_model.specs.Scenes.{Scene, Effect, Row, is_bad}
use Rattle.fs_model.specs.Rows.{row_of}
use Rattle.fs_model.specs.Actors.{judged_as, start_of_walk, is_actor_call, checks_from, start_demands, opened_by, actor_reply}
use Rattle.fs_model.specs.HandleCalls.{doer, handle_call_row, kept_by}

-- ---- what a call finds

abbrev pub trail_in : Room → Tree → ℕ → Form × List ℕ → Trail
trail_in room t cwd walk = trail_of room t cwd walk.0 walk.1

-- the refusals of the walks, the first of them with number k, where walk k starts at starts k
abbrev pub walk_refusals : Room → Tree → Credential → (ℕ → ℕ) → ℕ → List (Form × List ℕ) → List Demand
walk_refusals room t cred starts k [] = []
walk_refusals room t cred starts k (walk ∷ walks) =
    first_refusal t cred k walk.0 (trail_in room t (starts k) walk) ∷ walk_refusals room t cred starts (k + 1) walks

abbrev pub nothing_found : Found
nothing_found = record { dir_ino = 0; name = []; last = Top; ino = None; slash = false; step = 0 }

abbrev pub found_by : Room → Tree → ℕ → Form × List ℕ → Found
found_by room t cwd walk = found_of (trail_in room t cwd walk) (start_of (parts_of walk.1) cwd)

abbrev pub first_found : Room → Tree → ℕ → List (Form × List ℕ) → Found
first_found room t cwd [] = nothing_found
first_found room t cwd (walk ∷ _) = found_by room t cwd walk

abbrev pub second_found : Room → Tree → ℕ → List (Form × List ℕ) → Found
second_found room t cwd [] = nothing_found
second_found room t cwd (_ ∷ walks) = first_found room t cwd walks

abbrev pub scene_from : State → Process → (ℕ → ℕ) → Row → Scene
scene_from s p starts row = record {
  state = s;
  process = p;
  first = first_found s.room s.tree (starts 1) row.walks;
  second = second_found s.room s.tree (starts 2) row.walks;
}

-- a process starts in its current directory, and an actor at its objects
abbrev pub scene_of : State → Process → Row → Scene
scene_of s p row = scene_from s p (λ _. p.cwd) row

abbrev pub actor_scene : State → Actor → Row → Scene
actor_scene s actor row = scene_from s (judged_as actor) (start_of_walk actor) row

-- ---- refusals

-- the call's arguments, its paths, and what it asks of the process
abbrev pub early_refusal : Process → Row → Demand
early_refusal p row = first_of (row.arguments ++ flat_map (λ walk. path_checks walk.1) row.walks ++ row.early p)

-- the call's walks, and what it asks of what they have found
abbrev pub late_refusal : State → Process → Row → Demand
late_refusal s p row = first_of (walk_refusals s.room s.tree p.cred (λ _. p.cwd) 1 row.walks ++ row.demands (scene_of s p row))

-- the same of an actor: of an empty path nothing is asked
abbrev pub early_call_at : Actor → Call → Row → Demand
early_call_at actor call row =
    or_else (refuse EBADF (not (is_actor_call call)))
    (first_of (row.arguments ++ flat_map (λ walk. checks_from walk.1) row.walks ++ row.early (judged_as actor)))

-- and before its walks that something stands where they start
abbrev pub late_call_at : State → Actor → Call → Row → Demand
late_call_at s actor call row =
    first_of (start_demands s.tree actor call row.walks
    ++ walk_refusals s.room s.tree actor.cred (start_of_walk actor) 1 row.walks ++ row.demands (actor_scene s actor row))

-- ESRCH where the process isn't there, and else what is asked of it
abbrev pub demand_of : (Process → Demand) → Option Process → Demand
demand_of f None = Some (Failed ESRCH)
demand_of f (Some p) = f p

abbrev pub of_process : State → ℕ → (Process → Demand) → Demand
of_process s pid f = demand_of f (get nat_cmp s.processes pid)

-- the first of the refusals for which nothing stands in
unfoldable pub firm_refusal : State → Event → Demand
firm_refusal s (Calls pid call) = of_process s pid (λ p. early_refusal p (row_of call))
firm_refusal s (CallAt actor call) = early_call_at actor call (row_of call)
firm_refusal s (CallBy handle handle_call) = early_refusal (doer s.openings handle handle_call) (handle_call_row handle_call)
firm_refusal s (Fsync pid fd) = of_process s pid (λ p. is_bad fd p)
firm_refusal s (Exit pid) = of_process s pid (λ p. None)
firm_refusal s (Spawn cred) = refuse EAGAIN (nat_le processes_limit (length s.processes))
firm_refusal s _ = None

-- the first of the others
unfoldable pub other_refusal : State → Event → Demand
other_refusal s (Calls pid call) = of_process s pid (λ p. late_refusal s p (row_of call))
other_refusal s (CallAt actor call) = late_call_at s actor call (row_of call)
other_refusal s (CallBy handle handle_call) = late_refusal s (doer s.openings handle handle_call) (handle_call_row handle_call)
other_refusal s (Stamp n atime mtime ctime) = refuse ENOENT (not (is_some (node_at s.tree n)))
other_refusal s _ = None

-- ---- what an event leaves

-- the numbers of a new node, a new process and a new handle, and how many data sectors are free afterwards
pub record Choice : Type 0 where
  pub ino : ℕ
  pub pid : ℕ
  pub handle : ℕ
  pub free : ℕ

-- where nothing refuses
pub record After : Type 0 where
  pub change : Change
  pub processes : ProcessTable
  pub openings : Openings
  pub reply : Reply
  pub now : ℕ

abbrev pub unchanged : State → Reply → After
unchanged s reply = record { change = Same; processes = s.processes; openings = s.openings; reply = reply; now = s.now }

abbrev pub after_effect : State → ℕ → Effect → After
after_effect s pid effect = record {
  change = effect.change;
  processes = with_entry nat_cmp s.processes pid effect.process;
  openings = s.openings;
  reply = effect.reply;
  now = s.now;
}

abbrev pub after_call : State → ℕ → Row → ℕ → Option Process → After
after_call s pid row number None = unchanged s Done
after_call s pid row number (Some p) = after_effect s pid (row.effect (scene_of s p row) number)

-- nothing of an actor lasts but what it opens
abbrev pub after_call_at : State → Call → Choice → Effect → After
after_call_at s call choice effect = record {
  change = effect.change;
  processes = s.processes;
  openings = opened_by call choice.handle effect.process s.openings;
  reply = actor_reply call choice.handle choice.ino effect;
  now = s.now;
}

abbrev pub after_handle_call : State → ℕ → HandleCall → Effect → After
after_handle_call s handle handle_call effect = record {
  change = effect.change;
  processes = s.processes;
  openings = kept_by handle_call handle s.openings;
  reply = effect.reply;
  now = s.now;
}

-- a disk that keeps no times leaves a node its own
abbrev pub kept_stamps : Room → Stamps → Stamps → Stamps
kept_stamps room old new = if room.keeps_times then new else old

abbrev pub with_stamps : Stamps → Node → Node
with_stamps x node = record node { stamps = x }

abbrev pub after_stamp : State → ℕ → (Stamps → Stamps) → After
after_stamp s n f =
    let node = the_node s.tree n in
    let x = kept_stamps s.room node.stamps (f node.stamps) in
    record (unchanged s (Stamped x)) { change = Rewrite Untouched n (with_stamps x node) }

unfoldable pub after : State → Event → Choice → After
after s (Calls pid call) choice = after_call s pid (row_of call) choice.ino (get nat_cmp s.processes pid)
after s (CallAt actor call) choice = after_call_at s call choice ((row_of call).effect (actor_scene s actor (row_of call)) choice.ino)
after s (CallBy handle handle_call) choice =
    after_handle_call s handle handle_call ((handle_call_row handle_call).effect (scene_of s (doer s.openings handle handle_call) (handle_call_row handle_call)) choice.ino)
after s (Exit pid) choice = record (unchanged s Done) { processes = without nat_cmp s.processes pid }
after s (Spawn cred) choice = record (unchanged s (Pid choice.pid)) { processes = with_entry nat_cmp s.processes choice.pid (new_process cred) }
after s (Stamp n atime mtime ctime) choice = after_stamp s n (stamped atime mtime ctime)
after s (Clock now) choice = record (unchanged s Done) { now = now }
after s Statfs choice = unchanged s (Space s.free (free_inodes s.room s.tree))
after s _ choice = unchanged s Done

-- the change, what is dropped then, and the times that it moves
abbrev pub tree_after : State → After → Tree
tree_after s a = touched s.now (touches s.room s.tree a.change) (swept (changed s.tree a.change) (users a.processes a.openings))

abbrev pub state_after : State → After → ℕ → State
state_after s a free = record s { tree = tree_after s a; processes = a.processes; openings = a.openings; free = free; now = a.now }

-- a new node gets a number that the tree lacks
abbrev pub HasNewNumber : State → Change → Type 0
HasNewNumber s (Make dir_ino name n node) = (1 ≤ n) × (n < s.room.inodes) × (node_at s.tree n ≡ None)
HasNewNumber s _ = Unit {0}

-- a new process gets a new number
abbrev pub HasNewPid : State → Event → ℕ → Type 0
HasNewPid s (Spawn cred) pid = IsNewPid s.processes pid
HasNewPid s _ pid = Unit {0}

-- so does a new handle
abbrev pub HasNewHandle : State → Event → ℕ → Type 0
HasNewHandle s (CallAt actor (OpenCall path flags mode)) handle = get nat_cmp s.openings handle ≡ None
HasNewHandle s _ handle = Unit {0}

pub record IsAllowedChoice (s : State) (e : Event) (choice : Choice) : Type 0 where
  pub number : HasNewNumber s (after s e choice).change
  pub pid : HasNewPid s e choice.pid
  pub handle : HasNewHandle s e choice.handle
  pub free : MayBeFree s.room (tree_after s (after s e choice)) choice.free

-- ---- steps

-- calls and events that never ask for memory are never answered ENOMEM
abbrev pub asks_in_call : Call → Bool
asks_in_call (Umask _) = false
asks_in_call (Lseek _ _ _) = false
asks_in_call (Write _ _) = false
asks_in_call (Fstat _) = false
asks_in_call (Ftruncate _ _) = false
asks_in_call (Close _) = false
asks_in_call _ = true

abbrev pub asks_in_handle_call : HandleCall → Bool
asks_in_handle_call (ReadBy _ _) = true
asks_in_handle_call ListBy = true
asks_in_handle_call _ = false

abbrev pub asks_memory : Event → Bool
asks_memory (Calls _ call) = asks_in_call call
asks_memory (CallAt _ call) = asks_in_call call
asks_memory (CallBy _ handle_call) = asks_in_handle_call handle_call
asks_memory (Spawn _) = true
asks_memory _ = false

-- the other events are the disk's
abbrev pub is_of_machine : Event → Bool
is_of_machine (Arm _) = false
is_of_machine (Restart _ _) = false
is_of_machine _ = true

-- nothing refuses the event
pub record Acts (s : State) (e : Event) (choice : Choice) : Type 0 where
  pub running : IsFalse s.halted
  pub early : firm_refusal s e ≡ None
  pub late : other_refusal s e ≡ None
  pub allowed : IsAllowedChoice s e choice

-- the processes and what is open as they were, or as the event leaves them; no later reply shows which
abbrev pub HaltedUsers : State → Event → Choice → ProcessTable → Openings → Type 0
HaltedUsers s e choice processes openings =
    let a = after s e choice in
    ((processes ≡ s.processes) × (openings ≡ s.openings)) ⊎ ((processes ≡ a.processes) × (openings ≡ a.openings))

-- From old, the machine may give this reply to an event and go on to new.
pub data Answers (old : State) (e : Event) (reply : Reply) (new : State) : Type 0 where
  -- the machine is halted: EIO, and nothing changes
  is_halted : IsTrue old.halted → reply ≡ Refused (Failed EIO) → new ≡ old → Answers old e reply new
  -- the first refusal in order, and nothing changes
  refuses_early : IsFalse old.halted → (r : Refusal) → firm_refusal old e ≡ Some r
      → reply ≡ Refused r → new ≡ old → Answers old e reply new
  refuses_late : IsFalse old.halted → (r : Refusal) → firm_refusal old e ≡ None → other_refusal old e ≡ Some r
      → reply ≡ Refused r → new ≡ old → Answers old e reply new
  -- nothing refuses
  acts : (choice : Choice) → Acts old e choice → reply ≡ (after old e choice).reply
      → new ≡ state_after old (after old e choice) choice.free → Answers old e reply new
  -- memory or a read fails, and nothing changes
  lacks_memory : IsFalse old.halted → firm_refusal old e ≡ None → IsTrue (asks_memory e)
      → reply ≡ Refused (Failed ENOMEM) → new ≡ old → Answers old e reply new
  read_fails : IsFalse old.halted → firm_refusal old e ≡ None
      → reply ≡ Refused (Failed EIO) → new ≡ old → Answers old e reply new
  -- a write or a sync fails, and the machine halts with its tree as it was
  write_fails : (choice : Choice) → Acts old e choice → reply ≡ Refused (Failed EIO)
      → (processes : ProcessTable) (openings : Openings) → HaltedUsers old e choice processes openings
      → new ≡ record old { processes = processes; openings = openings; halted = true } → Answers old e reply new

-- one step of the machine
abbrev pub Step : State → Event → Reply → State → Type 0
Step old e reply new = IsTrue (is_of_machine e) × Answers old e reply new

-- one step after another
abbrev pub Run : State → List Event → List Reply → State → Type 0
Run old [] [] new = new ≡ old
Run old (e ∷ es) (reply ∷ replies) new = (mid : State) × Step old e reply mid × Run mid es replies new
Run old [] (_ ∷ _) new = ⊥
Run old (_ ∷ _) [] new = ⊥

-- What an event that was performed in a transaction is to the machine: one step.
--     tree_then        the tree after it
--     IsPerformed        nothing refuses the event, and the map holds the tree after it
--     IsInRange, performs_event, exit_performed        a request, and the end of a process
--     done_state        the state after it
--     done_steps, done_halts        it is a step, also where the commit fails
--     refused_steps, exit_refused_steps        so is a refusal
use Rattle.std.proofs.Common.{◌≡◌, ℕ, true, false, Option, None, Some, IsTrue, refl, sym, ap, subst, ◌∙◌, arith, inr}
use Rattle.std.specs.Prelude.{IsFalse, ◌&&◌}
use Rattle.std.specs.Ordering.{nat_cmp}
use Rattle.sector_disk.specs.Disk.{DiskState, HasFailed}
use Rattle.fs_cred.specs.declared.errno.Errno.{Errno}
use Rattle.fs_cred.specs.declared.errno.Errno.TheVariants.{EIO, ESRCH}
use Rattle.fs_cred.specs.declared.refusal.Refusal.{Refusal}
use Rattle.fs_cred.specs.declared.refusal.Refusal.TheVariants.{Failed}
use Rattle.fs_layout.specs.declared.geometry.Geometry.{Geometry}
use Rattle.fs_layout.specs.Bytes.{SectorMap}
use Rattle.fs_layout.specs.Images.{free_sectors}
use Rattle.fs_layout.specs.Maps.{get, without}
use Rattle.fs_model.specs.declared.call.Call.{Call}
use Rattle.fs_model.specs.declared.reply.Reply.{Reply}
use Rattle.fs_model.specs.declared.reply.Reply.TheVariants.{Done, Refused}
use Rattle.fs_model.specs.Steps.{asks_memory, HasNewHandle}
use Rattle.fs_model.proofs.StepsOfActors.{actor_opens}
use Rattle.fs_model.proofs.StepsOfHandleCalls.{handle_call_leaves}
use Rattle.call_parts.specs.Callers.{AnyCall, ByCaller, ByHandle, ByProcess, ByActor, HasCredential, asks_of, event_of, leaving}
use Rattle.call_parts.specs.BothTables.{Tables, both, tables_in, users_of}
use Rattle.fs_model.specs.declared.event.Event.{Event}
use Rattle.fs_model.specs.declared.event.Event.TheVariants.{Exit}
use Rattle.fs_model.specs.Trees.{Tree, Room, IsTree}
use Rattle.fs_model.specs.Processes.{Process, ProcessTable}
use Rattle.fs_model.specs.TreeChanges.{Change, Same, changed, touches, touched, swept}
use Rattle.fs_model.specs.States.{State, IsState, MayBeFree}
use Rattle.fs_model.specs.Stands.{HoldsAll, placed}
use Rattle.fs_model.specs.Ranges.{IsCall, IsHandleCall}
use Rattle.fs_model.specs.Rows.{row_of}
use Rattle.fs_model.specs.Steps.{Step, Choice, After, Acts, HasNewNumber, HasNewPid, early_refusal, late_refusal, demand_of, after_call, firm_refusal, other_refusal, after, tree_after, is_of_machine}
use Rattle.fs_model.specs.Steps as step
use Rattle.fs_model.specs.Stops.{Halts, asks_stable, makes_stable, is_ok, is_io_error}
use Rattle.fs_model.proofs.NoIoReplies.{event_answers, firm_spares_reply, other_spares_reply}
use Rattle.fs_model.proofs.StepsOfCalls.{process_leaves}
use Rattle.fs_model.proofs.StepsProcesses.{without-IsMap, in_without, length-without}
use Rattle.fs_model.proofs.StepsKeep.{acted_is_tree, acted_is_state}
use Rattle.fs_model.proofs.StepsSwept.{MayBeLeft, tree_may_be_left}
use Rattle.fs_model.proofs.Taken.{count_may_be_free}
use Rattle.call_parts.specs.Performing.{IsStateOf, IsDone, IsRefused, chosen}
use Rattle.call_parts.specs.Performing as why
use Rattle.file_calls.specs.Exiting.{IsExited, IsNotExited, ended}
use Rattle.file_calls.specs.Exiting as ending
use Rattle.file_calls.proofs.Endings.{exit_after}
use Rattle.fs_system.proofs.Joining.{HoldsCounted}

-- ---- a request in a state

-- its numbers are those of their types
abbrev pub IsInRange : AnyCall → Type 0
IsInRange (ByCaller who call) = HasCredential who × IsCall call
IsInRange (ByHandle handle call) = IsHandleCall call

request_machine : (r : AnyCall) → IsTrue (is_of_machine (event_of r))
request_machine (ByCaller (ByProcess pid) call) = refl
request_machine (ByCaller (ByActor v) call) = refl
request_machine (ByHandle handle call) = refl

request_unstable : (r : AnyCall) → IsFalse (asks_stable (event_of r))
request_unstable (ByCaller (ByProcess pid) call) = refl
request_unstable (ByCaller (ByActor v) call) = refl
request_unstable (ByHandle handle call) = refl

request_memory : (r : AnyCall) → asks_memory (event_of r) ≡ asks_of r
request_memory (ByCaller (ByProcess pid) call) = refl
request_memory (ByCaller (ByActor v) call) = refl
request_memory (ByHandle handle call) = refl

request_pid : (s : State) (r : AnyCall) → HasNewPid s (event_of r) 0
request_pid s (ByCaller (ByProcess pid) call) = tt
request_pid s (ByCaller (ByActor v) call) = tt
request_pid s (ByHandle handle call) = tt

-- it begins nothing anew of the count of free sectors
whatever_free : (s : State) (r : AnyCall) (number handle free : ℕ) → after s (event_of r) (chosen number handle free) ≡ after s (event_of r) (chosen number handle 0)
unfolding after
whatever_free s (ByCaller (ByProcess pid) call) number handle free = refl
whatever_free s (ByCaller (ByActor v) call) number handle free = refl
whatever_free s (ByHandle by call) number handle free = refl

abbrev Leaves : State → After → Type 0
Leaves s a = MayBeLeft s.room (changed s.tree a.change) a.processes a.openings

call_leaves : (s : State) → IsState s → IsFalse s.halted → (pid number : ℕ) (call : Call) (o : Option Process) → get nat_cmp s.processes pid ≡ o → IsCall call
    → demand_of (λ p. early_refusal p (row_of call)) o ≡ None → demand_of (λ p. late_refusal s p (row_of call)) o ≡ None
    → HasNewNumber s (after_call s pid (row_of call) number o).change → Leaves s (after_call s pid (row_of call) number o)
call_leaves s is up pid number call None here range early late fresh = absurd cc
call_leaves s is up pid number call (Some q) here range early late fresh = process_leaves s pid q call number is up here range early late fresh

-- what it leaves may be left
request_leaves : (s : State) (r : AnyCall) → IsState s → IsFalse s.halted → IsInRange r → firm_refusal s (event_of r) ≡ None → other_refusal s (event_of r) ≡ None
    → (number handle : ℕ) → HasNewNumber s (after s (event_of r) (chosen number handle 0)).change → Leaves s (after s (event_of r) (chosen number handle 0))
unfolding after firm_refusal other_refusal
request_leaves s (ByCaller (ByProcess pid) call) is up range early late number handle fresh =
    call_leaves s is up pid number call (get nat_cmp s.processes pid) refl range.1 early late fresh
request_leaves s (ByCaller (ByActor v) call) is up range early late number handle fresh =
    actor_opens s v call is up range.0 range.1 early late handle number fresh
request_leaves s (ByHandle by call) is up range early late number handle fresh = handle_call_leaves s is up by call range early late number

-- ---- where nothing refused it

-- the tree after a change, in which times have moved to the present
abbrev pub tree_then : State → Change → ProcessTable → Tree
tree_then s change users = touched s.now (touches s.room s.tree change) (swept (changed s.tree change) users)

-- Nothing refuses the event, which makes nothing stable. It gives this reply and leaves these tables and the time, and the map
-- holds the tree after it.
pub record IsPerformed (p : Geometry) (map : SectorMap) (now : Tables) (s : State) (e : Event) (reply : Reply) : Type 0 where
  pub machine : IsTrue (is_of_machine e)
  pub unstable : IsFalse (asks_stable e)
  pub early : firm_refusal s e ≡ None
  pub late : other_refusal s e ≡ None
  pub number : ℕ
  pub handle : ℕ
  pub change : Change
  pub effect : (free : ℕ) → after s e (chosen number handle free) ≡ leaving s now change reply
  pub new_number : HasNewNumber s change
  pub new_pid : HasNewPid s e 0
  pub new_handle : HasNewHandle s e handle
  pub left : MayBeLeft s.room (changed s.tree change) now.processes now.openings
  pub holds : HoldsAll p map (placed (tree_then s change (users_of now)))

pub performs_event : {p : Geometry} {time : ℕ} {map old_map : SectorMap} {now before : Tables} {s : State} (r : AnyCall) {reply : Reply}
    → IsStateOf p old_map before s → s.now ≡ time → IsInRange r → IsDone p time map now s r reply → IsPerformed p map now s (event_of r) reply
performs_event {p} {time} {map} {old_map} {now} {before} {s} r {reply} at told range d = record {
  machine = request_machine r;
  unstable = request_unstable r;
  early = d.early;
  late = d.late;
  number = d.number;
  handle = d.handle;
  change = d.change;
  effect = λ free. whatever_free s r d.number d.handle free ∙ d.effect;
  new_number = d.new_number;
  new_pid = request_pid s r;
  new_handle = d.new_handle;
  left = subst (λ (a : After). MayBeLeft s.room (changed s.tree a.change) a.processes a.openings) d.effect
      (request_leaves s r at.is_state at.up range d.early d.late d.number d.handle (subst (λ (a : After). HasNewNumber s a.change) (sym d.effect) d.new_number));
  holds = subst (λ k. HoldsAll p map (placed (touched k (touches s.room s.tree d.change) (swept (changed s.tree d.change) (users_of now))))) (sym told) d.holds;
}

pub exit_performed : {p : Geometry} {map old_map : SectorMap} {now before : Tables} {s : State} {pid : ℕ}
    → IsStateOf p old_map before s → IsExited p map now s pid → IsPerformed p map now s (Exit pid) Done
exit_performed {p} {map} {old_map} {now} {before} {s} {pid} at d = record {
  machine = refl;
  unstable = refl;
  early = d.early;
  late = d.late;
  number = 0;
  handle = 0;
  change = Same;
  effect = λ free. exit_after s pid free ∙ ap (λ (x : Tables). leaving s x Same Done) is_now;
  new_number = tt;
  new_pid = tt;
  new_handle = tt;
  left = subst (λ (x : Tables). MayBeLeft s.room s.tree x.processes x.openings) is_now
      (tree_may_be_left s.room s.tree (without nat_cmp s.processes pid) s.openings at.is_state.tree (without-IsMap s.processes pid at.is_state.pids)
      (let less = length-without s.processes pid in let few = at.is_state.few in omega (arith, less, few))
      (λ k q here. (at.is_state.processes at.up).each_process k q (in_without s.processes pid k q at.is_state.pids here)) at.is_state.handles
      (at.is_state.processes at.up).each_opening);
  holds = d.holds;
}
  where
    is_now : ended (tables_in s) pid ≡ now
    is_now = ap (λ (a : After). both a.processes a.openings) (sym (exit_after s pid 0) ∙ d.effect)

module _ {p : Geometry} {map old_map : SectorMap} {now before : Tables} {s : State} {e : Event} {reply : Reply}
    (at : IsStateOf p old_map before s) (d : IsPerformed p map now s e reply) where
  abbrev pub done_state : State
  done_state = record s { tree = tree_then s d.change (users_of now); processes = now.processes; openings = now.openings; free = free_sectors p map }

  pub done_no_fault : is_io_error reply ≡ false
  done_no_fault = ap (λ (a : After). is_io_error a.reply) (sym (d.effect 0)) ∙ event_answers s e (chosen d.number d.handle 0)

  pub done_unstable : (r : Reply) → makes_stable e r ≡ false
  done_unstable r = ap (λ b. b && is_ok r) d.unstable

  abbrev done_after : After
  done_after = leaving s now d.change reply

  tree_is : IsTree s.room (tree_then s d.change (users_of now))
  tree_is = acted_is_tree s done_after at.is_state d.left

  may_be_free : MayBeFree s.room (tree_then s d.change (users_of now)) (free_sectors p map)
  may_be_free =
      count_may_be_free p map s.room (tree_then s d.change (users_of now)) (ap (λ (r : Room). r.sectors) at.same_room)
      (ap (λ (r : Room). r.slot_size) at.same_room) tree_is d.holds

  pub done_state_of : IsStateOf p map now done_state
  done_state_of = record {
    is_state = acted_is_state s done_after (free_sectors p map) at.is_state d.left at.is_state.now may_be_free;
    up = at.up;
    same_tables = refl;
    same_room = at.same_room;
    holds = d.holds;
    free_is = refl;
  }

  pub done_tree : tree_after s (after s e (chosen d.number d.handle (free_sectors p map))) ≡ tree_then s d.change (users_of now)
  done_tree = ap (tree_after s) (d.effect (free_sectors p map))

  done_acts : Acts s e (chosen d.number d.handle (free_sectors p map))
  done_acts = record {
    running = at.up;
    early = d.early;
    late = d.late;
    allowed = record {
      number = subst (λ (a : After). HasNewNumber s a.change) (sym (d.effect (free_sectors p map))) d.new_number;
      pid = d.new_pid;
      handle = d.new_handle;
      free = subst (λ (t : Tree). MayBeFree s.room t (free_sectors p map)) (sym done_tree) may_be_free;
    };
  }

  pub done_steps : Step s e reply done_state
  done_steps = (
    d.machine,
    step.acts (chosen d.number d.handle (free_sectors p map)) done_acts (sym (ap (λ (a : After). a.reply) (d.effect (free_sectors p map))))
        (sym (ap (λ (a : After). record s { tree = tree_after s a; processes = a.processes; openings = a.openings; free = free_sectors p map; now = a.now }) (d.effect (free_sectors p map)))),
  )

  -- the commit fails, and what would have been may be found
  pub done_halts : Step s e (Refused (Failed EIO)) (record s { processes = now.processes; openings = now.openings; halted = true })
  done_halts = (
    d.machine,
    step.write_fails (chosen d.number d.handle (free_sectors p map)) done_acts refl now.processes now.openings
        (inr (
          sym (ap (λ (a : After). a.processes) (d.effect (free_sectors p map))),
          sym (ap (λ (a : After). a.openings) (d.effect (free_sectors p map))),
        )) refl,
  )

  pub halts : Halts s e (record s { processes = now.processes; openings = now.openings; halted = true }) (chosen d.number d.handle (free_sectors p map))
  halts = record { halted = refl; acts = done_acts }

  pub done_holds : HoldsCounted p map (tree_then s d.change (users_of now)) (free_sectors p map)
  done_holds = record { holds = d.holds; tree_is = subst (λ (r : Room). IsTree r (tree_then s d.change (users_of now))) at.same_room tree_is; free_is = refl }

-- ---- where something did

-- a request makes nothing stable
pub call_unstable : (r : AnyCall) (reply : Reply) → makes_stable (event_of r) reply ≡ false
call_unstable r reply = ap (λ b. b && is_ok reply) (request_unstable r)

pub refused_steps : (old new : DiskState) (s : State) (r : AnyCall) (e : Refusal) → IsFalse s.halted → IsRefused old new s r e
    → Step s (event_of r) (Refused e) s
refused_steps old new s r e up (why.early is) = (request_machine r, step.refuses_early up e is refl refl)
refused_steps old new s r e up (why.late none is) = (request_machine r, step.refuses_late up e none is refl refl)
refused_steps old new s r e up (why.lacks_memory none asks is) = (request_machine r, step.lacks_memory up none (request_memory r ∙ asks) (ap (λ q. Refused q) is) refl)
refused_steps old new s r e up (why.read_fails none failed is) = (request_machine r, step.read_fails up none (ap (λ q. Refused q) is) refl)

-- no refusal is EIO but that of a read that fails
pub why_failed : (old new : DiskState) (s : State) (r : AnyCall) (e : Refusal) → IsRefused old new s r e → IsTrue (is_io_error (Refused e)) → HasFailed old new
why_failed old new s r e (why.early is) io = absurd (let c = sym (firm_spares_reply s (event_of r) e is) ∙ io in cc)
why_failed old new s r e (why.late none is) io = absurd (let c = sym (other_spares_reply s (event_of r) e is) ∙ io in cc)
why_failed old new s r e (why.lacks_memory none asks is) io = absurd (let c : is_io_error (Refused e) ≡ false = ap (λ q. is_io_error (Refused q)) is in cc)
why_failed old new s r e (why.read_fails none failed is) io = failed

-- so it is with the end of a process
pub exit_refused_steps : (old new : DiskState) (s : State) (pid : ℕ) (r : Refusal) → IsFalse s.halted → IsNotExited old new s pid r
    → Step s (Exit pid) (Refused r) s
exit_refused_steps old new s pid r up (ending.absent is) = (refl, step.refuses_early up r is refl refl)
exit_refused_steps old new s pid r up (ending.read_fails none failed is) = (refl, step.read_fails up none (ap (λ q. Refused q) is) refl)

pub why_exit_failed : (old new : DiskState) (s : State) (pid : ℕ) (r : Refusal) → IsNotExited old new s pid r → IsTrue (is_io_error (Refused r))
    → HasFailed old new
why_exit_failed old new s pid r (ending.absent is) io = absurd (let c = sym (firm_spares_reply s (Exit pid) r is) ∙ io in cc)
why_exit_failed old new s pid r (ending.read_fails none failed is) io = failed

absent_is : (s : State) (pid : ℕ) (r : Refusal) → firm_refusal s (Exit pid) ≡ Some r → Failed ESRCH ≡ r
unfolding firm_refusal
absent_is s pid r is = go (get nat_cmp s.processes pid) is
  where
    go : (o : Option Process) → demand_of (λ q. None) o ≡ Some r → Failed ESRCH ≡ r
    go None e = cc
    go (Some q) e = absurd cc

-- the end of a process is never denied
pub exit_errno : (old new : DiskState) (s : State) (pid : ℕ) (r : Refusal) → IsNotExited old new s pid r → (errno : Errno) × (r ≡ Failed errno)
exit_errno old new s pid r (ending.absent is) = (ESRCH, sym (absent_is s pid r is))
exit_errno old new s pid r (ending.read_fails none failed is) = (EIO, is)

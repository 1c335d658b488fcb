-- A step leads from states to states.
use Rattle.fs_model.proofs.Restamps.{touched_is_tree, touched_is_state, free-touched, none_touched}
use Rattle.fs_model.specs.Nodes.{stamped}
use Rattle.fs_model.specs.Births.{the_node}
use Rattle.fs_model.proofs.StepsBodies.{stamps_may_replace}
use Rattle.fs_model.proofs.StepsKinds.{replaced_is_tree, replaced_keeps_types}
use Rattle.fs_model.proofs.StoredStamps.{stamped_fit}
use Rattle.std.specs.Prelude.{◌≡◌, ℕ, ◌+◌, ◌≤◌, ◌<◌, ◌^◌, nat_le, Bool, true, false, not, cond, length, Option, None, Some, is_some, IsFalse}
use Rattle.std.proofs.Common.{refl, sym, arith, subst, inl, inr}
use Rattle.std.proofs.lemmas.Bool.{not-false}
use Rattle.std.proofs.lemmas.Bool.Decides.{nat_tests}
use Rattle.std.specs.Ordering.{nat_cmp}
use Rattle.fs_cred.specs.declared.errno.Errno.TheVariants.{ENOENT, EAGAIN}
use Rattle.fs_model.specs.declared.call.Call.{Call}
use Rattle.fs_model.specs.declared.event.Event.{Event}
use Rattle.fs_model.specs.declared.event.Event.TheVariants.{Spawn, Exit, Call as Calls, CallAt, CallBy, Stamp, Clock, Fsync, Sync, Statfs, Arm, Restart}
use Rattle.fs_model.specs.declared.reply.Reply.{Reply}
use Rattle.fs_model.specs.Limits.{processes_limit}
use Rattle.fs_layout.specs.Maps.{get, with_entry, without, IsMap}
use Rattle.fs_model.specs.Processes.{Process, ProcessTable, Openings, users, new_process, the_descriptor}
use Rattle.fs_model.specs.Trees.{Tree, node_at, with_node, IsTree}
use Rattle.fs_model.specs.TreeChanges.{changed, swept, touches, touched}
use Rattle.fs_model.specs.States.{State, MayBeFree, IsProcess, IsState}
use Rattle.fs_model.specs.Demands.{refuse}
use Rattle.fs_model.specs.Scenes.{Row}
use Rattle.fs_model.specs.Rows.{row_of}
use Rattle.fs_model.specs.Steps.{Choice, After, kept_stamps, with_stamps, after_stamp, after, after_call, demand_of, early_refusal, late_refusal, actor_scene, firm_refusal, other_refusal, scene_of, Acts, HasNewNumber, tree_after, state_after, HaltedUsers, Answers, is_halted, refuses_early, refuses_late, acts, lacks_memory, read_fails, write_fails, Step}
use Rattle.fs_model.specs.Ranges.{IsEvent, IsCall, IsSomeCount}
use Rattle.fs_layout.proofs.MapLaws.{with_entry-IsMap, length-with_entry}
use Rattle.fs_model.proofs.StepsDemands.{unrefused}
use Rattle.fs_model.proofs.StepsFit.{node_is_there, length-replaced, processes_move, openings_move}
use Rattle.fs_model.proofs.StepsOfCalls.{process_leaves}
use Rattle.fs_model.proofs.StepsOfActors.{actor_opens}
use Rattle.fs_model.proofs.StepsOfHandleCalls.{kept_is_map, handle_call_leaves}
use Rattle.fs_model.specs.Actors.{opened_by}
use Rattle.fs_model.specs.declared.call.Call.TheVariants.{Open as OpenCall}
use Rattle.fs_model.proofs.StepsProcesses.{without-IsMap, in_without, length-without, in_with_entry, new_process_fits}
use Rattle.fs_model.proofs.Swept.{swept_is_tree}
use Rattle.fs_model.proofs.StepsSwept.{MayBeLeft, left_is_state, tree_may_be_left}

-- ---- who uses nodes after an event

abbrev IsProcessTable : ProcessTable → Type 0
IsProcessTable processes = IsMap nat_cmp processes × (length processes ≤ processes_limit)

room_for_one : (processes : ProcessTable) → refuse EAGAIN (nat_le processes_limit (length processes)) ≡ None → length processes + 1 ≤ processes_limit
room_for_one processes h = let e : nat_le processes_limit (length processes) ≡ false = unrefused EAGAIN _ h in grind (arith, nat_tests)

length-new : (processes : ProcessTable) (pid : ℕ) (p : Process) → IsMap nat_cmp processes → length (with_entry nat_cmp processes pid p) ≤ length processes + 1
length-new processes pid p m = go (is_some (get nat_cmp processes pid)) (length-with_entry processes pid p m)
  where
    go : (b : Bool) → length (with_entry nat_cmp processes pid p) ≡ cond b (length processes) (length processes + 1) → length (with_entry nat_cmp processes pid p) ≤ length processes + 1
    go true e = omega arith
    go false e = omega arith

processes_after_call : (s : State) (pid number : ℕ) (row : Row) (o : Option Process) → get nat_cmp s.processes pid ≡ o → IsProcessTable s.processes
    → IsProcessTable (after_call s pid row number o).processes
processes_after_call s pid number row None here are = are
processes_after_call s pid number row (Some p) here are =
    let q = (row.effect (scene_of s p row) number).process in (
      with_entry-IsMap s.processes pid q are.0,
      (let same = length-replaced s.processes pid p q are.0 here in let few = are.1 in omega (arith, same, few)),
    )

processes_after : (s : State) (e : Event) (choice : Choice) → IsProcessTable s.processes → firm_refusal s e ≡ None → IsProcessTable (after s e choice).processes
unfolding after firm_refusal
processes_after s (Calls pid call) choice are firm = processes_after_call s pid choice.ino (row_of call) (get nat_cmp s.processes pid) refl are
processes_after s (Spawn cred) choice are firm = (
  with_entry-IsMap s.processes choice.pid (new_process cred) are.0,
  (let more = length-new s.processes choice.pid (new_process cred) are.0 in let room = room_for_one s.processes firm in omega (arith, more, room)),
)
processes_after s (Exit pid) choice are firm =
    (without-IsMap s.processes pid are.0, (let less = length-without s.processes pid in let few = are.1 in omega (arith, less, few)))
processes_after s (CallAt v call) choice are firm = are
processes_after s (CallBy handle handle_call) choice are firm = are
processes_after s (Stamp n atime mtime ctime) choice are firm = are
processes_after s (Clock time) choice are firm = are
processes_after s (Fsync pid fd) choice are firm = are
processes_after s Sync choice are firm = are
processes_after s Statfs choice are firm = are
processes_after s (Arm k) choice are firm = are
processes_after s (Restart bytes arm) choice are firm = are

opened_is_map : (call : Call) (handle : ℕ) (p : Process) (openings : Openings) → IsMap nat_cmp openings → IsMap nat_cmp (opened_by call handle p openings)
opened_is_map (OpenCall path flags mode) handle p openings is = with_entry-IsMap openings handle (the_descriptor p 0) is
opened_is_map call handle p openings is = is

openings_after : (s : State) (e : Event) (choice : Choice) → IsMap nat_cmp s.openings → IsMap nat_cmp (after s e choice).openings
unfolding after
openings_after s (Calls pid call) choice is = go (get nat_cmp s.processes pid)
  where
    go : (o : Option Process) → IsMap nat_cmp (after_call s pid (row_of call) choice.ino o).openings
    go None = is
    go (Some p) = is
openings_after s (CallAt v call) choice is =
    opened_is_map call choice.handle ((row_of call).effect (actor_scene s v (row_of call)) choice.ino).process s.openings is
openings_after s (CallBy handle handle_call) choice is = kept_is_map handle_call handle s.openings is
openings_after s (Spawn cred) choice is = is
openings_after s (Exit pid) choice is = is
openings_after s (Stamp n atime mtime ctime) choice is = is
openings_after s (Clock time) choice is = is
openings_after s (Fsync pid fd) choice is = is
openings_after s Sync choice is = is
openings_after s Statfs choice is = is
openings_after s (Arm k) choice is = is
openings_after s (Restart bytes arm) choice is = is

-- ---- what an event leaves

module _ (s : State) (is : IsState s) (runs : IsFalse s.halted) where
  abbrev Leaves : After → Type 0
  Leaves a = MayBeLeft s.room (changed s.tree a.change) a.processes a.openings

  same_left : MayBeLeft s.room s.tree s.processes s.openings
  same_left =
      tree_may_be_left s.room s.tree s.processes s.openings is.tree is.pids is.few (is.processes runs).each_process is.handles (is.processes runs).each_opening

  call_leaves : (pid number : ℕ) (call : Call) (o : Option Process) → get nat_cmp s.processes pid ≡ o → IsCall call
      → demand_of (λ p. early_refusal p (row_of call)) o ≡ None → demand_of (λ p. late_refusal s p (row_of call)) o ≡ None
      → HasNewNumber s (after_call s pid (row_of call) number o).change → Leaves (after_call s pid (row_of call) number o)
  call_leaves pid number call None here in_range early late fresh = absurd cc
  call_leaves pid number call (Some p) here in_range early late fresh = process_leaves s pid p call number is runs here in_range early late fresh

  stamp_leaves : (n : ℕ) (atime mtime ctime : Option ℕ) → IsSomeCount atime → IsSomeCount mtime → IsSomeCount ctime
      → refuse ENOENT (not (is_some (node_at s.tree n))) ≡ None → Leaves (after_stamp s n (stamped atime mtime ctime))
  stamp_leaves n atime mtime ctime a m c met =
      let node = the_node s.tree n in
      let there : node_at s.tree n ≡ Some node = node_is_there s.tree n (not-false _ (unrefused ENOENT (not (is_some (node_at s.tree n))) met)) in
      let was = is.tree.each n node there in
      let x = kept_stamps s.room node.stamps (stamped atime mtime ctime node.stamps) in
      let may = stamps_may_replace s.room s.tree n node was x (stamped_fit s.room.keeps_times atime mtime ctime node.stamps a m c was.stamps) in
      let u = with_node s.tree n (with_stamps x node) in
      let types = replaced_keeps_types s.tree n node (with_stamps x node) there refl in
      tree_may_be_left s.room u s.processes s.openings (replaced_is_tree s.room s.tree n node (with_stamps x node) is.tree there may) is.pids is.few
      (processes_move s is runs u types) is.handles (openings_move s is runs u types)

  event_leaves : (e : Event) (choice : Choice) → IsEvent e → firm_refusal s e ≡ None → other_refusal s e ≡ None
      → HasNewNumber s (after s e choice).change → Leaves (after s e choice)
  unfolding after firm_refusal other_refusal
  event_leaves (Calls pid call) choice in_range firm other fresh =
      call_leaves pid choice.ino call (get nat_cmp s.processes pid) refl in_range.1 firm other fresh
  event_leaves (CallAt v call) choice in_range firm other fresh =
      actor_opens s v call is runs in_range.0 in_range.4 firm other choice.handle choice.ino fresh
  event_leaves (CallBy handle handle_call) choice in_range firm other fresh = handle_call_leaves s is runs handle handle_call in_range.1 firm other choice.ino
  event_leaves (Spawn cred) choice in_range firm other fresh =
      tree_may_be_left s.room s.tree (with_entry nat_cmp s.processes choice.pid (new_process cred)) s.openings is.tree
      (with_entry-IsMap s.processes choice.pid (new_process cred) is.pids)
      (let more = length-new s.processes choice.pid (new_process cred) is.pids in let room = room_for_one s.processes firm in omega (arith, more, room))
      (in_with_entry (λ q p. IsProcess s.tree p) s.processes choice.pid (new_process cred) (new_process_fits s.room s.tree cred is.tree in_range)
      (is.processes runs).each_process) is.handles (is.processes runs).each_opening
  event_leaves (Exit pid) choice in_range firm other fresh =
      tree_may_be_left s.room s.tree (without nat_cmp s.processes pid) s.openings is.tree (without-IsMap s.processes pid is.pids)
      (let less = length-without s.processes pid in let few = is.few in omega (arith, less, few))
      (λ q p at. (is.processes runs).each_process q p (in_without s.processes pid q p is.pids at)) is.handles (is.processes runs).each_opening
  event_leaves (Stamp n atime mtime ctime) choice in_range firm other fresh =
      stamp_leaves n atime mtime ctime in_range.1 in_range.2 in_range.3 other
  event_leaves (Clock time) choice in_range firm other fresh = same_left
  event_leaves (Fsync pid fd) choice in_range firm other fresh = same_left
  event_leaves Sync choice in_range firm other fresh = same_left
  event_leaves Statfs choice in_range firm other fresh = same_left
  event_leaves (Arm k) choice in_range firm other fresh = same_left
  event_leaves (Restart bytes arm) choice in_range firm other fresh = same_left

-- ---- steps

-- the machine halts with its tree as it was
halted_is_state : (s : State) (processes : ProcessTable) (openings : Openings) → IsState s → IsProcessTable processes → IsMap nat_cmp openings
    → IsState (record s { processes = processes; openings = openings; halted = true })
halted_is_state s processes openings is are handles = record {
  room = is.room;
  tree = is.tree;
  pids = are.0;
  few = are.1;
  handles = handles;
  free = is.free;
  now = is.now;
  processes = λ runs. absurd cc;
}

halted_users : (s : State) (e : Event) (choice : Choice) (processes : ProcessTable) (openings : Openings) → IsState s → firm_refusal s e ≡ None
    → HaltedUsers s e choice processes openings → IsProcessTable processes × IsMap nat_cmp openings
halted_users s e choice processes openings is firm which = elim which [
  | inl same ↦ (subst IsProcessTable (sym same.0) (is.pids, is.few), subst (IsMap nat_cmp) (sym same.1) is.handles)
  | inr then ↦
      (subst IsProcessTable (sym then.0) (processes_after s e choice (is.pids, is.few) firm), subst (IsMap nat_cmp) (sym then.1) (openings_after s e choice is.handles))
]

-- the time is one that was told
now_after : (s : State) (e : Event) (choice : Choice) → IsState s → IsEvent e → (after s e choice).now < 2 ^ 64
unfolding after
now_after s (Calls pid call) choice is fits = go (get nat_cmp s.processes pid)
  where
    go : (o : Option Process) → (after_call s pid (row_of call) choice.ino o).now < 2 ^ 64
    go None = is.now
    go (Some p) = is.now
now_after s (Clock time) choice is fits = fits
now_after s (Stamp n atime mtime ctime) choice is fits = is.now
now_after s (CallAt v call) choice is fits = is.now
now_after s (CallBy handle handle_call) choice is fits = is.now
now_after s (Spawn cred) choice is fits = is.now
now_after s (Exit pid) choice is fits = is.now
now_after s (Fsync pid fd) choice is fits = is.now
now_after s Sync choice is fits = is.now
now_after s Statfs choice is fits = is.now
now_after s (Arm k) choice is fits = is.now
now_after s (Restart bytes arm) choice is fits = is.now

-- the change, the sweep, and the times that move
pub acted_is_tree : (s : State) (a : After) → IsState s → MayBeLeft s.room (changed s.tree a.change) a.processes a.openings → IsTree s.room (tree_after s a)
acted_is_tree s a is left = go s.room.keeps_times refl
  where
    go : (b : Bool) → s.room.keeps_times ≡ b → IsTree s.room (tree_after s a)
    go true keeps =
        touched_is_tree s.room (swept (changed s.tree a.change) (users a.processes a.openings)) s.now (touches s.room s.tree a.change) keeps is.now
        (swept_is_tree s.room (changed s.tree a.change) (users a.processes a.openings) left.tree)
    go false none =
        subst (λ es. IsTree s.room (touched s.now es (swept (changed s.tree a.change) (users a.processes a.openings))))
        (sym (none_touched s.room s.tree a.change none)) (swept_is_tree s.room (changed s.tree a.change) (users a.processes a.openings) left.tree)

pub acted_is_state : (s : State) (a : After) (free : ℕ) → IsState s → MayBeLeft s.room (changed s.tree a.change) a.processes a.openings → a.now < 2 ^ 64
    → MayBeFree s.room (tree_after s a) free → IsState (state_after s a free)
acted_is_state s a free is left small may = go s.room.keeps_times refl
  where
    u : Tree
    u = swept (changed s.tree a.change) (users a.processes a.openings)

    left_is : IsState (record s { tree = u; processes = a.processes; openings = a.openings; free = free; now = a.now })
    left_is =
        left_is_state (record s { now = a.now }) (changed s.tree a.change) a.processes a.openings free is.room small left
        (free-touched s.now (touches s.room s.tree a.change) s.room (swept (changed s.tree a.change) (users a.processes a.openings)) free may)

    go : (b : Bool) → s.room.keeps_times ≡ b → IsState (state_after s a free)
    go true keeps =
        touched_is_state (record s { tree = swept (changed s.tree a.change) (users a.processes a.openings); processes = a.processes; openings = a.openings; free = free; now = a.now })
        s.now (touches s.room s.tree a.change) keeps is.now left_is
    go false none =
        subst (λ es. IsState (record s { tree = touched s.now es (swept (changed s.tree a.change) (users a.processes a.openings)); processes = a.processes; openings = a.openings; free = free; now = a.now }))
        (sym (none_touched s.room s.tree a.change none)) left_is

-- what a step leaves where each effect leaves what may be left
answered_is_state : (old new : State) (e : Event) (reply : Reply) → IsState old → IsEvent e → Answers old e reply new
    → ((choice : Choice) → Acts old e choice → MayBeLeft old.room (changed old.tree (after old e choice).change) (after old e choice).processes (after old e choice).openings)
    → IsState new
answered_is_state old new e reply is fits (is_halted h answered same) leaves = subst IsState (sym same) is
answered_is_state old new e reply is fits (refuses_early runs r firm answered same) leaves = subst IsState (sym same) is
answered_is_state old new e reply is fits (refuses_late runs r firm other answered same) leaves = subst IsState (sym same) is
answered_is_state old new e reply is fits (acts choice does answered now) leaves =
    subst IsState (sym now) (acted_is_state old (after old e choice) choice.free is (leaves choice does) (now_after old e choice is fits) does.allowed.free)
answered_is_state old new e reply is fits (lacks_memory runs firm asks answered same) leaves = subst IsState (sym same) is
answered_is_state old new e reply is fits (read_fails runs firm answered same) leaves = subst IsState (sym same) is
answered_is_state old new e reply is fits (write_fails choice does answered processes openings which now) leaves =
    let are = halted_users old e choice processes openings is does.early which in
    subst IsState (sym now) (halted_is_state old processes openings is are.0 are.1)

pub steps_keep : (old new : State) (e : Event) (reply : Reply) → IsState old → IsEvent e → Step old e reply new → IsState new
steps_keep old new e reply is in_range step =
    answered_is_state old new e reply is in_range step.1
    (λ choice does. event_leaves old is does.running e choice in_range does.early does.late does.allowed.number)

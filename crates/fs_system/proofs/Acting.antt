-- Steps of the machine for events that change no node.
use Rattle.std.proofs.Common.{Bool, ◌≡◌, ℕ, ◌<◌, ◌≤◌, length, true, false, None, Some, IsTrue, refl, sym, ap, subst, ◌∙◌, arith, inl, nat_le}
use Rattle.std.specs.Prelude.{◌==◌, ◌||◌, IsFalse, is_some}
use Rattle.std.proofs.lemmas.Bool.Decides.{nat_tests}
use Rattle.std.specs.List.{list_any}
use Rattle.std.specs.Ordering.{nat_cmp}
use Rattle.fs_cred.specs.declared.errno.Errno.TheVariants.{ESRCH, EBADF, EIO, ENOMEM, EAGAIN}
use Rattle.fs_cred.specs.declared.refusal.Refusal.TheVariants.{Failed}
use Rattle.fs_cred.specs.Credentials.{Credential}
use Rattle.fs_layout.specs.Maps.{get, with_entry}
use Rattle.fs_model.specs.declared.reply.Reply.{Reply}
use Rattle.fs_model.specs.declared.reply.Reply.TheVariants.{Done, Pid, Space, Refused}
use Rattle.fs_model.specs.declared.event.Event.{Event}
use Rattle.fs_model.specs.declared.event.Event.TheVariants.{Call as Calls, CallAt, Spawn, Exit, CallBy, Stamp, Clock, Fsync, Sync, Statfs, Arm, Restart}
use Rattle.fs_model.specs.Trees.{Tree, free_inodes}
use Rattle.fs_model.specs.Processes.{Process, ProcessTable, Descriptor, users, new_process, IsNewPid, descriptor, is_open}
use Rattle.fs_model.specs.TreeChanges.{Same, swept}
use Rattle.fs_model.specs.States.{State, IsState, MayBeFree}
use Rattle.fs_model.specs.Steps.{Step, Choice, After, HasNewNumber, HasNewPid, HasNewHandle, Acts, is_of_machine, firm_refusal, other_refusal, after, tree_after}
use Rattle.fs_model.specs.Steps as step
use Rattle.fs_model.specs.Stops.{asks_stable}
use Rattle.fs_model.proofs.Unchanged.{open_stays}
use Rattle.open_files.proofs.Slots.{absent, any_with_entry}
use Rattle.call_parts.proofs.ByDescriptor.{has_open}

-- ---- a machine that is halted

pub halted_answers : (s : State) (e : Event) → IsTrue (is_of_machine e) → IsTrue s.halted → Step s e (Refused (Failed EIO)) s
halted_answers s e machine halted = (machine, step.is_halted halted refl refl)

-- ---- where nothing refuses, and no node changes

-- what was open is still open
abbrev pub StaysOpen : ProcessTable → ProcessTable → Type 0
StaysOpen old new = (n : ℕ) → IsTrue (is_open old n) → IsTrue (is_open new n)

module _ (s : State) (is : IsState s) (up : IsFalse s.halted) where
  -- what has no name is open, so that none is dropped
  none_dropped : (processes : ProcessTable) → StaysOpen (users s.processes s.openings) (users processes s.openings) → swept s.tree (users processes s.openings) ≡ s.tree
  none_dropped processes still = open_stays s.room s.tree s.processes s.openings (users processes s.openings) is.tree (is.processes up) still

  abbrev pub choice_of : ℕ → Choice
  choice_of pid = record { ino = 0; pid = pid; handle = 0; free = s.free }

  module _ (e : Event) (pid : ℕ) (reply : Reply) (processes : ProcessTable) (time : ℕ) (still : StaysOpen (users s.processes s.openings) (users processes s.openings)) (machine : IsTrue (is_of_machine e))
      (firm : firm_refusal s e ≡ None) (other : other_refusal s e ≡ None)
      (does : after s e (record { ino = 0; pid = pid; handle = 0; free = s.free }) ≡ record { change = Same; processes = processes; openings = s.openings; reply = reply; now = time }) (new : HasNewPid s e pid)
      (fresh : HasNewHandle s e 0) where
    same_tree : tree_after s (after s e (choice_of pid)) ≡ s.tree
    same_tree = ap (tree_after s) does ∙ none_dropped processes still

    acting : Acts s e (choice_of pid)
    acting = record {
      running = up;
      early = firm;
      late = other;
      allowed = record {
        number = subst (λ (a : After). HasNewNumber s a.change) (sym does) tt;
        pid = new;
        handle = fresh;
        free = subst (λ (t : Tree). MayBeFree s.room t s.free) (sym same_tree) is.free;
      };
    }

    pub acts_alone : Step s e reply (record s { processes = processes; now = time })
    acts_alone = (
      machine,
      step.acts (choice_of pid) acting
          (sym (ap (λ (a : After). a.reply) does))
          (sym (ap (λ (t : Tree). record s { tree = t; processes = (after s e (choice_of pid)).processes; openings = (after s e (choice_of pid)).openings; free = s.free; now = (after s e (choice_of pid)).now }) same_tree
          ∙ ap (λ (a : After). record s { processes = a.processes; openings = a.openings; now = a.now }) does)),
    )

    -- a write or a sync fails
    pub halts_alone : Step s e (Refused (Failed EIO)) (record s { halted = true })
    halts_alone = (machine, step.write_fails (choice_of pid) acting refl s.processes s.openings (inl (refl, refl)) refl)

-- ---- spawn

module _ (s : State) (up : IsFalse s.halted) (cred : Credential) where
  spawn_firm : length s.processes < 64 → firm_refusal s (Spawn cred) ≡ None
  unfolding firm_refusal
  spawn_firm few = let t : nat_le 64 (length s.processes) ≡ false = grind (arith, nat_tests) in rw t refl

  spawn_other : other_refusal s (Spawn cred) ≡ None
  unfolding other_refusal
  spawn_other = refl

  spawn_after : (pid : ℕ) → after s (Spawn cred) (record { ino = 0; pid = pid; handle = 0; free = s.free })
      ≡ record { change = Same; processes = with_entry nat_cmp s.processes pid (new_process cred); openings = s.openings; reply = Pid pid; now = s.now }
  unfolding after
  spawn_after pid = refl

  -- a new process has nothing open
  spawn_stays : IsState s → (pid : ℕ) → get nat_cmp s.processes pid ≡ None → StaysOpen (users s.processes s.openings) (users (with_entry nat_cmp s.processes pid (new_process cred)) s.openings)
  spawn_stays is pid new n was =
      ap (λ (b : Bool). list_any (λ (d : ℕ × Descriptor). d.1.ino == n) s.openings || b)
      (any_with_entry (has_open n) s.processes pid (new_process cred) is.pids
      ∙ sym (ap (λ (d : ProcessTable). is_open d n) (absent s.processes pid is.pids new))) ∙ was

  pub spawns : (is : IsState s) (pid : ℕ) → IsNewPid s.processes pid → length s.processes < 64
      → Step s (Spawn cred) (Pid pid) (record s { processes = with_entry nat_cmp s.processes pid (new_process cred) })
  spawns is pid new few =
      acts_alone s is up (Spawn cred) pid (Pid pid) (with_entry nat_cmp s.processes pid (new_process cred)) s.now (spawn_stays is pid new.2) refl
      (spawn_firm few) spawn_other (spawn_after pid) new tt

  full : 64 ≤ length s.processes → firm_refusal s (Spawn cred) ≡ Some (Failed EAGAIN)
  unfolding firm_refusal
  full many = let t : nat_le 64 (length s.processes) ≡ true = grind (arith, nat_tests) in rw t refl

  pub spawn_full : 64 ≤ length s.processes → Step s (Spawn cred) (Refused (Failed EAGAIN)) s
  spawn_full many = (refl, step.refuses_early up (Failed EAGAIN) (full many) refl refl)

  pub spawn_unmade : length s.processes < 64 → Step s (Spawn cred) (Refused (Failed ENOMEM)) s
  spawn_unmade few = (refl, step.lacks_memory up (spawn_firm few) refl refl refl)

-- ---- sync and fsync

-- what holds of both events that make all stable
flush_case : (P : Event → Type 0) → ((pid fd : ℕ) → P (Fsync pid fd)) → P Sync → (e : Event) → IsTrue (asks_stable e) → P e
flush_case P one all (Fsync pid fd) asks = one pid fd
flush_case P one all Sync asks = all
flush_case P one all (Calls pid call) asks = absurd cc
flush_case P one all (CallAt v call) asks = absurd cc
flush_case P one all (Spawn cred) asks = absurd cc
flush_case P one all (Exit pid) asks = absurd cc
flush_case P one all (CallBy handle call) asks = absurd cc
flush_case P one all (Stamp n atime mtime ctime) asks = absurd cc
flush_case P one all (Clock time) asks = absurd cc
flush_case P one all Statfs asks = absurd cc
flush_case P one all (Arm k) asks = absurd cc
flush_case P one all (Restart bytes arm) asks = absurd cc

pub flush_machine : (e : Event) → IsTrue (asks_stable e) → IsTrue (is_of_machine e)
flush_machine = flush_case (λ e. IsTrue (is_of_machine e)) (λ pid fd. refl) refl

module _ (s : State) where
  flush_other : (e : Event) → IsTrue (asks_stable e) → other_refusal s e ≡ None
  unfolding other_refusal
  flush_other = flush_case (λ e. other_refusal s e ≡ None) (λ pid fd. refl) refl

  flush_after : (e : Event) → IsTrue (asks_stable e) → after s e (record { ino = 0; pid = 0; handle = 0; free = s.free }) ≡ record { change = Same; processes = s.processes; openings = s.openings; reply = Done; now = s.now }
  unfolding after
  flush_after =
      flush_case (λ e. after s e (record { ino = 0; pid = 0; handle = 0; free = s.free }) ≡ record { change = Same; processes = s.processes; openings = s.openings; reply = Done; now = s.now }) (λ pid fd. refl) refl

  flush_handle : (e : Event) → IsTrue (asks_stable e) → HasNewHandle s e 0
  flush_handle = flush_case (λ e. HasNewHandle s e 0) (λ pid fd. tt) tt

  flush_pid : (e : Event) → IsTrue (asks_stable e) → HasNewPid s e 0
  flush_pid = flush_case (λ e. HasNewPid s e 0) (λ pid fd. tt) tt

  module _ (is : IsState s) (up : IsFalse s.halted) (e : Event) (asks : IsTrue (asks_stable e)) (firm : firm_refusal s e ≡ None) where
    pub flushes : Step s e Done s
    flushes = acts_alone s is up e 0 Done s.processes s.now (λ n still. still) (flush_machine e asks) firm (flush_other e asks) (flush_after e asks) (flush_pid e asks) (flush_handle e asks)

    pub flush_halts : Step s e (Refused (Failed EIO)) (record s { halted = true })
    flush_halts = halts_alone s is up e 0 Done s.processes s.now (λ n still. still) (flush_machine e asks) firm (flush_other e asks) (flush_after e asks) (flush_pid e asks) (flush_handle e asks)

  pub sync_firm : firm_refusal s Sync ≡ None
  unfolding firm_refusal
  sync_firm = refl

  module _ (pid fd : ℕ) (p : Process) (there : get nat_cmp s.processes pid ≡ Some p) where
    pub fsync_firm : IsTrue (is_some (descriptor p fd)) → firm_refusal s (Fsync pid fd) ≡ None
    unfolding firm_refusal
    fsync_firm opened = rw there (rw opened refl)

    fsync_bad : IsFalse (is_some (descriptor p fd)) → firm_refusal s (Fsync pid fd) ≡ Some (Failed EBADF)
    unfolding firm_refusal
    fsync_bad closed = rw there (rw closed refl)

    pub fsync_closed : IsFalse s.halted → IsFalse (is_some (descriptor p fd)) → Step s (Fsync pid fd) (Refused (Failed EBADF)) s
    fsync_closed up closed = (refl, step.refuses_early up (Failed EBADF) (fsync_bad closed) refl refl)

  module _ (pid fd : ℕ) (none : get nat_cmp s.processes pid ≡ None) where
    fsync_gone : firm_refusal s (Fsync pid fd) ≡ Some (Failed ESRCH)
    unfolding firm_refusal
    fsync_gone = rw none refl

    pub fsync_absent : IsFalse s.halted → Step s (Fsync pid fd) (Refused (Failed ESRCH)) s
    fsync_absent up = (refl, step.refuses_early up (Failed ESRCH) fsync_gone refl refl)

-- ---- the time that is told

module _ (s : State) (up : IsFalse s.halted) (time : ℕ) where
  time_firm : firm_refusal s (Clock time) ≡ None
  unfolding firm_refusal
  time_firm = refl

  time_other : other_refusal s (Clock time) ≡ None
  unfolding other_refusal
  time_other = refl

  time_after : after s (Clock time) (record { ino = 0; pid = 0; handle = 0; free = s.free }) ≡ record { change = Same; processes = s.processes; openings = s.openings; reply = Done; now = time }
  unfolding after
  time_after = refl

  pub tells_time : IsState s → Step s (Clock time) Done (record s { now = time })
  tells_time is = acts_alone s is up (Clock time) 0 Done s.processes time (λ n still. still) refl time_firm time_other time_after tt tt

-- ---- statfs

module _ (s : State) (up : IsFalse s.halted) where
  space_firm : firm_refusal s Statfs ≡ None
  unfolding firm_refusal
  space_firm = refl

  space_other : other_refusal s Statfs ≡ None
  unfolding other_refusal
  space_other = refl

  space_after : after s Statfs (record { ino = 0; pid = 0; handle = 0; free = s.free })
      ≡ record { change = Same; processes = s.processes; openings = s.openings; reply = Space s.free (free_inodes s.room s.tree); now = s.now }
  unfolding after
  space_after = refl

  pub tells_space : IsState s → Step s Statfs (Space s.free (free_inodes s.room s.tree)) s
  tells_space is =
      acts_alone s is up Statfs 0 (Space s.free (free_inodes s.room s.tree)) s.processes s.now (λ n still. still) refl space_firm space_other space_after tt tt

  pub space_unread : Step s Statfs (Refused (Failed EIO)) s
  space_unread = (refl, step.read_fails up space_firm refl refl)

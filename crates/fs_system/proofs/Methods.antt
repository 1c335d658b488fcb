-- What a file system's methods come to.
use Rattle.std.proofs.Common.{◌≡◌, ◌≤◌, ◌<◌, ℕ, length, true, false, Option, None, Some, Result, Ok, Err, IsTrue, refl, sym, ap, subst, ◌∙◌, arith, inl, inr}
use Rattle.std.specs.Prelude.{IsFalse, ◌^◌, ◌⊎◌, ◌↔◌, OnErr, IfOk, IfErr, is_some}
use Rattle.std.specs.Option.{ok_or}
use Rattle.std.specs.Ordering.{nat_cmp}
use Rattle.std.proofs.lemmas.Bool.{cases_lt}
use Rattle.sector_disk.specs.Disk.{DiskState, Image, IsImage, HasFailed, HasFailedToWrite}
use Rattle.fs_layout.specs.declared.geometry.Geometry.{Geometry}
use Rattle.fs_layout.specs.Bytes.{SectorMap}
use Rattle.fs_layout.specs.Maps.{get, with_entry}
use Rattle.fs_cred.specs.Credentials.{Credential, IsCredential}
use Rattle.fs_cred.specs.declared.errno.Errno.{Errno}
use Rattle.fs_cred.specs.declared.errno.Errno.TheVariants.{EIO, ESRCH, EBADF, EAGAIN, ENOMEM}
use Rattle.fs_cred.specs.declared.refusal.Refusal.TheVariants.{Failed}
use Rattle.redo_journal.specs.Meaning.{SameMap, EachReadsAs}
use Rattle.sector_txn.specs.Images.{LeavesOldOr}
use Rattle.sector_txn.specs.Stores.{StoreView, present, disk_after}
use Rattle.open_files.specs.Tables.{answer_of_found, open_at, open_in}
use Rattle.fs_model.specs.declared.reply.Reply.{Reply}
use Rattle.fs_model.specs.declared.reply.Reply.TheVariants.{Done, Refused}
use Rattle.fs_model.specs.declared.event.Event.{Event}
use Rattle.fs_model.specs.declared.event.Event.TheVariants.{Spawn, Clock, Fsync, Sync}
use Rattle.call_parts.specs.BothTables.{Tables, both, tables_in}
use Rattle.fs_model.specs.Processes.{Process, Openings, Descriptor, new_process, IsNewPid, descriptor, ProcessTable}
use Rattle.fs_model.specs.States.{State, IsState}
use Rattle.fs_model.specs.Steps.{Step, is_of_machine, firm_refusal}
use Rattle.fs_model.specs.Stops.{is_io_error}
use Rattle.fs_model.proofs.StepsKeep.{steps_keep}
use Rattle.fs_system.specs.Doing.{Does, Happens, HappensLast, FlushesFor}
use Rattle.fs_system.specs.Mounting.{IsSystem, is_halted}
use Rattle.fs_system.specs.declared.base.Base.{Base}
use Rattle.fs_system.specs.declared.base.Base.TheVariants.{Running, Halted, Taken}
use Rattle.fs_system.specs.Running.{IsRunning}
use Rattle.fs_system.specs.Seen.{System, tables_on, base_left, disk_in, IsOn}
use Rattle.fs_images.specs.Standing.{EachStandsForSome}
use Rattle.fs_system.specs.Replies.{spawned, finished}
use Rattle.fs_system.proofs.Acting.{spawns, spawn_full, spawn_unmade, tells_time, flush_machine, fsync_firm, fsync_closed, fsync_absent, sync_firm}
use Rattle.fs_system.proofs.Ends.{does_nothing, does_halted, does_flush, does_flush_halt, mountable_then, flush_mountable, running_same, running_with, running_at}

-- ---- results

abbrev err_of : Result ℕ Errno → Errno
err_of (Ok pid) = EIO
err_of (Err errno) = errno

-- ---- from one system to the next

module _ {D : Type 0} (state : D → DiskState) where
  -- the file system is in some state again
  pub system_then : (old new : System D) (e : Event) (reply : Reply) → Happens state old new e reply → IsSystem state old
      → EachStandsForSome (disk_in state new.base) → IsSystem state new
  system_then old new e reply happens was may =
      let next = happens was.in_some.0 was.in_some.1 in
      record { in_some = (next.0, next.1); mountable = may }

  -- the disk of what an event leaves
  disk_left : (now : Result (StoreView D) D) → disk_in state (base_left now) ≡ state (disk_after now)
  disk_left (Ok store) = refl
  disk_left (Err broken) = refl

  -- what is so of what an event leaves is so of what stands in its place
  module _ (geometry : Geometry) (tables : Tables) (time : ℕ) {put left : Base D} (is : put ≡ left) where
    pub system_put : IsSystem state (record { base = left; geometry = geometry; processes = tables.processes; openings = tables.openings; time = time }) → IsSystem state (record { base = put; geometry = geometry; processes = tables.processes; openings = tables.openings; time = time })
    system_put was = subst (λ (b : Base D). IsSystem state (record { base = b; geometry = geometry; processes = tables.processes; openings = tables.openings; time = time })) (sym is) was

    pub happens_put : (old : System D) (e : Event) (reply : Reply) → Happens state old (record { base = left; geometry = geometry; processes = tables.processes; openings = tables.openings; time = time }) e reply
        → Happens state old (record { base = put; geometry = geometry; processes = tables.processes; openings = tables.openings; time = time }) e reply
    happens_put old e reply was = subst (λ (b : Base D). Happens state old (record { base = b; geometry = geometry; processes = tables.processes; openings = tables.openings; time = time }) e reply) (sym is) was

    pub flushes_put : (old : System D) (e : Event) (reply : Reply) → FlushesFor state old (record { base = left; geometry = geometry; processes = tables.processes; openings = tables.openings; time = time }) e reply
        → FlushesFor state old (record { base = put; geometry = geometry; processes = tables.processes; openings = tables.openings; time = time }) e reply
    flushes_put old e reply was = subst (λ (b : Base D). FlushesFor state old (record { base = b; geometry = geometry; processes = tables.processes; openings = tables.openings; time = time }) e reply) (sym is) was

  module _ (only_now : (disk : D) (image : Image) → (state disk).left_since (state disk).moment image → IsImage (state disk) image) where
    -- ---- a halted one

    pub halted_happens : (fs : System D) (e : Event) → is_halted fs.base ≡ true → IsTrue (is_of_machine e) → Happens state fs fs e (Refused (Failed EIO))
    halted_happens fs e halted machine s here = go fs.base halted here
      where
        go : (b : Base D) → is_halted b ≡ true → IsOn state fs.geometry fs.time (tables_on fs) b s
            → (t : State) × IsOn state fs.geometry fs.time (tables_on fs) b t × Does (disk_in state b) (disk_in state b) s e (Refused (Failed EIO)) t
        go Taken is on = absurd cc
        go (Running store) is on = absurd cc
        go (Halted broken) is on = (s, on, does_halted (state broken) (only_now broken) s e machine on)

    pub halted_replies : (fs : System D) (e : Event) → is_halted fs.base ≡ true → IsTrue (is_of_machine e) → (reply : Reply) → reply ≡ Refused (Failed EIO)
        → Happens state fs fs e reply
    halted_replies fs e halted machine reply told = subst (λ (q : Reply). Happens state fs fs e q) (sym told) (halted_happens fs e halted machine)

    pub halted_flushes : (fs : System D) (e : Event) → is_halted fs.base ≡ true → FlushesFor state fs fs e (Refused (Failed EIO))
    halted_flushes fs e halted asks s r firm = halted_happens fs e halted (flush_machine e asks) s r

    -- ---- events that change the tables alone, or the time

    module _ (fs : System D) (up : is_halted fs.base ≡ false) (tables : Tables) (time : ℕ) (e : Event) (reply : Reply) where
      -- a step of the running state is one of the file system
      pub moves : ((s : State) → IsState s → IsFalse s.halted → tables_in s ≡ tables_on fs → s.now ≡ fs.time → (size : ℕ) (map : SectorMap) → IsRunning size fs.geometry map (tables_on fs) s
          → (t : State) × (IsRunning size fs.geometry map tables t × (t.now ≡ time)) × ((disk : D) → Does (state disk) (state disk) s e reply t))
          → Happens state fs (record fs { processes = tables.processes; openings = tables.openings; time = time }) e reply
      moves does s here = go fs.base up here
        where
          go : (b : Base D) → is_halted b ≡ false → IsOn state fs.geometry fs.time (tables_on fs) b s
              → (t : State) × IsOn state fs.geometry time tables b t × Does (disk_in state b) (disk_in state b) s e reply t
          go Taken is on = absurd on
          go (Halted broken) is on = absurd cc
          go (Running store) is on =
              let next = does s on.0.state_of.is_state on.0.state_of.up on.0.state_of.same_tables on.1 (state store.disk).size (present state store) on.0 in
              (next.0, next.1, next.2 store.disk)

    -- ---- spawn

    module _ (fs : System D) (up : is_halted fs.base ≡ false) (cred : Credential) (valid : IsCredential cred) (processes : ProcessTable) (few : length fs.processes < 64) where
      pub spawn_made : (pid : ℕ) → IsNewPid fs.processes pid → processes ≡ with_entry nat_cmp fs.processes pid (new_process cred)
          → Happens state fs (record fs { processes = processes }) (Spawn cred) (spawned (Ok pid))
      spawn_made pid new is =
          moves fs up (both processes fs.openings) fs.time (Spawn cred) (spawned (Ok pid))
          (λ s is_state runs same told size map on.
          let unused : IsNewPid s.processes pid = subst (λ (d : Tables). IsNewPid d.processes pid) (sym same) new in
          let less : length s.processes < 64 = (let count : length s.processes ≡ length fs.processes = ap (λ (d : Tables). length d.processes) same in omega (arith, count, few)) in
          let step = spawns s runs cred is_state pid unused less in
          let t : State = record s { processes = with_entry nat_cmp s.processes pid (new_process cred) } in
          let t_is : IsState t = steps_keep s t (Spawn cred) (spawned (Ok pid)) is_state valid step in (
            t,
            (
              running_same size size fs.geometry map map (both (with_entry nat_cmp s.processes pid (new_process cred)) s.openings) (both processes fs.openings) t refl (λ n part. refl)
                  (ap (λ (d : ProcessTable). both d fs.openings) is
                  ∙ sym (ap (λ (d : Tables). both (with_entry nat_cmp d.processes pid (new_process cred)) d.openings) same))
                  (running_with size fs.geometry map (tables_on fs) (both (with_entry nat_cmp s.processes pid (new_process cred)) s.openings) s t_is on),
              told,
            ),
            λ disk. does_nothing (state disk) (only_now disk) s t (Spawn cred) (spawned (Ok pid)) runs runs step refl refl,
          ))

      pub spawn_lacks : processes ≡ fs.processes → Happens state fs (record fs { processes = processes }) (Spawn cred) (spawned (Err ENOMEM))
      spawn_lacks same_processes =
          moves fs up (both processes fs.openings) fs.time (Spawn cred) (spawned (Err ENOMEM))
          (λ s is_state runs same told size map on.
          let less : length s.processes < 64 = (let count : length s.processes ≡ length fs.processes = ap (λ (d : Tables). length d.processes) same in omega (arith, count, few)) in (
            s,
            (running_same size size fs.geometry map map (tables_on fs) (both processes fs.openings) s refl (λ n part. refl) (ap (λ (d : ProcessTable). both d fs.openings) same_processes) on, told),
            λ disk. does_nothing (state disk) (only_now disk) s s (Spawn cred) (spawned (Err ENOMEM)) runs runs (spawn_unmade s runs cred less) refl refl,
          ))

    pub spawn_refused : (fs : System D) (up : is_halted fs.base ≡ false) (cred : Credential) (processes : ProcessTable) → 64 ≤ length fs.processes → processes ≡ fs.processes
        → Happens state fs (record fs { processes = processes }) (Spawn cred) (spawned (Err EAGAIN))
    spawn_refused fs up cred processes many same_processes =
        moves fs up (both processes fs.openings) fs.time (Spawn cred) (spawned (Err EAGAIN))
        (λ s is_state runs same told size map on.
        let more : 64 ≤ length s.processes = (let count : length s.processes ≡ length fs.processes = ap (λ (d : Tables). length d.processes) same in omega (arith, count, many)) in (
          s,
          (running_same size size fs.geometry map map (tables_on fs) (both processes fs.openings) s refl (λ n part. refl) (ap (λ (d : ProcessTable). both d fs.openings) same_processes) on, told),
          λ disk. does_nothing (state disk) (only_now disk) s s (Spawn cred) (spawned (Err EAGAIN)) runs runs (spawn_full s runs cred more) refl refl,
        ))

    -- whatever the table of processes answers
    pub spawn_happens : (fs : System D) → is_halted fs.base ≡ false → (cred : Credential) → IsCredential cred → (processes : ProcessTable) (result : Result ℕ Errno)
        → IfOk result (λ pid. IsNewPid fs.processes pid)
        → IfOk result (λ pid. processes ≡ with_entry nat_cmp fs.processes pid (new_process cred))
        → (result ≡ Err EAGAIN) ↔ (64 ≤ length fs.processes)
        → IfErr result (λ errno. (errno ≡ EAGAIN) ⊎ (errno ≡ ENOMEM))
        → OnErr result (processes ≡ fs.processes) → Happens state fs (record fs { processes = processes }) (Spawn cred) (spawned result)
    spawn_happens fs up cred valid processes (Ok pid) number added full refused same = elim (cases_lt (length fs.processes) 64) [
      | inl few ↦ spawn_made fs up cred valid processes few pid number added
      | inr many ↦ absurd (let c = full.1 many in cc)
    ]
    spawn_happens fs up cred valid processes (Err errno) number added full refused same = elim refused [
      | inl again ↦
          let many : 64 ≤ length fs.processes = full.0 (ap (λ (x : Errno). Err x) again) in
          subst (λ (x : Errno). Happens state fs (record fs { processes = processes }) (Spawn cred) (spawned (Err x))) (sym again) (spawn_refused fs up cred processes many same)
      | inr memory ↦ elim (cases_lt (length fs.processes) 64) [
        | inl few ↦
            subst (λ (x : Errno). Happens state fs (record fs { processes = processes }) (Spawn cred) (spawned (Err x))) (sym memory) (spawn_lacks fs up cred valid processes few same)
        | inr many ↦ absurd (let c = full.1 many in let d : ENOMEM ≡ EAGAIN = sym memory ∙ ap err_of c in cc)
      ]
    ]

    -- ---- the time that is told

    pub time_told : (fs : System D) → is_halted fs.base ≡ false → (time : ℕ) → time < 2 ^ 64 → Happens state fs (record fs { time = time }) (Clock time) Done
    time_told fs up time small =
        moves fs up (tables_on fs) time (Clock time) Done
        (λ s is_state runs same told size map on.
        let step = tells_time s runs time is_state in
        let t : State = record s { now = time } in
        let t_is : IsState t = steps_keep s t (Clock time) Done is_state small step in (
          t,
          (running_at size fs.geometry map (tables_on fs) time s t_is on, refl),
          λ disk. does_nothing (state disk) (only_now disk) s t (Clock time) Done runs runs step refl refl,
        ))

    -- ---- fsync, where nothing is open there

    pub fsync_refused : (fs : System D) → is_halted fs.base ≡ false → (pid fd : ℕ) (errno : Errno) → open_in fs.processes pid fd ≡ Err errno
        → Happens state fs fs (Fsync pid fd) (finished (Err errno))
    fsync_refused fs up pid fd errno closed =
        moves fs up (tables_on fs) fs.time (Fsync pid fd) (Refused (Failed errno))
        (λ s is_state runs same told size map on. (
          s,
          (on, told),
          λ disk. does_nothing (state disk) (only_now disk) s s (Fsync pid fd) (Refused (Failed errno)) runs runs
              (go s runs (get nat_cmp s.processes pid) refl (ap (λ (d : Tables). open_in d.processes pid fd) same ∙ closed)) refl (no_fault s (get nat_cmp s.processes pid) (ap (λ (d : Tables). open_in d.processes pid fd) same ∙ closed)),
        ))
      where
        bad : (s : State) (p : Process) → get nat_cmp s.processes pid ≡ Some p → IsFalse s.halted → (o : Option Descriptor) → descriptor p fd ≡ o
            → ok_or o EBADF ≡ Err errno → Step s (Fsync pid fd) (Refused (Failed errno)) s
        bad s p there runs None e is = subst (λ (x : Errno). Step s (Fsync pid fd) (Refused (Failed x)) s) (let same : EBADF ≡ errno = cc in same) (fsync_closed s pid fd p there runs (ap is_some e))
        bad s p there runs (Some d) e is = absurd cc

        go : (s : State) → IsFalse s.halted → (o : Option Process) → get nat_cmp s.processes pid ≡ o → answer_of_found (open_at fd) o ≡ Err errno
            → Step s (Fsync pid fd) (Refused (Failed errno)) s
        go s runs None e is = subst (λ (x : Errno). Step s (Fsync pid fd) (Refused (Failed x)) s) (let same : ESRCH ≡ errno = cc in same) (fsync_absent s pid fd e runs)
        go s runs (Some p) e is = bad s p e runs (descriptor p fd) refl is

        spared : (o : Option Descriptor) → ok_or o EBADF ≡ Err errno → is_io_error (Refused (Failed errno)) ≡ false
        spared None is = ap (λ (x : Errno). is_io_error (Refused (Failed x))) (let same : errno ≡ EBADF = cc in same)
        spared (Some d) is = absurd cc

        no_fault : (s : State) (o : Option Process) → answer_of_found (open_at fd) o ≡ Err errno → is_io_error (Refused (Failed errno)) ≡ false
        no_fault s None is = ap (λ (x : Errno). is_io_error (Refused (Failed x))) (let same : errno ≡ ESRCH = cc in same)
        no_fault s (Some p) is = spared (descriptor p fd) is

    -- what is open there
    pub open_firm : (s : State) (processes : ProcessTable) (pid fd : ℕ) (d : Descriptor) → s.processes ≡ processes → open_in processes pid fd ≡ Ok d → firm_refusal s (Fsync pid fd) ≡ None
    open_firm s processes pid fd d same opened = go (get nat_cmp s.processes pid) refl (ap (λ t. open_in t pid fd) same ∙ opened)
      where
        found : (p : Process) → get nat_cmp s.processes pid ≡ Some p → (o : Option Descriptor) → descriptor p fd ≡ o → ok_or o EBADF ≡ Ok d → firm_refusal s (Fsync pid fd) ≡ None
        found p there None e is = absurd cc
        found p there (Some x) e is = fsync_firm s pid fd p there (ap is_some e)

        go : (o : Option Process) → get nat_cmp s.processes pid ≡ o → answer_of_found (open_at fd) o ≡ Ok d → firm_refusal s (Fsync pid fd) ≡ None
        go None e is = absurd cc
        go (Some p) e is = found p e (descriptor p fd) refl is

    -- ---- sync and fsync

    module _ (geometry : Geometry) (tables : Tables) (time : ℕ) (e : Event) where
      pub flush_done : (before after : StoreView D) → SameMap (present state after) (present state before)
          → LeavesOldOr (present state before) (state before.disk) (state after.disk) → EachReadsAs (present state before) (state after.disk)
          → (state before.disk).failures ≤ (state after.disk).failures → (state after.disk).failed_writes ≡ (state before.disk).failed_writes
          → FlushesFor state (record { base = Running before; geometry = geometry; processes = tables.processes; openings = tables.openings; time = time }) (record { base = Running after; geometry = geometry; processes = tables.processes; openings = tables.openings; time = time }) e Done
      flush_done before after same run lasting later quiet asks s on firm = (
        s,
        (running_same (state before.disk).size (state after.disk).size geometry (present state before) (present state after) tables tables s run.size same refl on.0, on.1),
        does_flush (state before.disk) (state after.disk) geometry (present state before) tables s on.0 run later e asks firm lasting quiet,
      )

      pub flush_broke : (before : StoreView D) (broken : D) → LeavesOldOr (present state before) (state before.disk) (state broken)
          → (state before.disk).failures ≤ (state broken).failures → HasFailed (state before.disk) (state broken) → HasFailedToWrite (state before.disk) (state broken)
          → FlushesFor state (record { base = Running before; geometry = geometry; processes = tables.processes; openings = tables.openings; time = time }) (record { base = Halted broken; geometry = geometry; processes = tables.processes; openings = tables.openings; time = time }) e
          (Refused (Failed EIO))
      flush_broke before broken run later failed unwritten asks s on firm = (
        record s { halted = true },
        refl,
        does_flush_halt (state before.disk) (state broken) geometry (present state before) tables s on.0 run later e asks firm failed unwritten,
      )

    -- ---- as methods do it: of the parts of a file system, which is seen so

    module _ (base : Base D) (geometry : Geometry) (procs : Tables) (time : ℕ) (fs : System D) (view_is : record { base = base; geometry = geometry; processes = procs.processes; openings = procs.openings; time = time } ≡ fs) where
      abbrev inside : System D
      inside = record { base = base; geometry = geometry; processes = procs.processes; openings = procs.openings; time = time }

      module _ (up : is_halted fs.base ≡ false) where
        up_inside : is_halted base ≡ false
        up_inside = ap (λ (x : System D). is_halted x.base) view_is ∙ up

        -- the store is there
        pub store_there : IsSystem state inside → (store : StoreView D) × base ≡ Running store
        store_there was = go base up_inside was.in_some.0 was.in_some.1
          where
            go : (b : Base D) → is_halted b ≡ false → (s : State) → IsOn state geometry time procs b s → (store : StoreView D) × b ≡ Running store
            go Taken running s on = absurd on
            go (Running store) running s on = (store, refl)
            go (Halted broken) running s on = absurd cc

        -- fsync
        pub fsync_unopened : (pid fd : ℕ) (errno : Errno) → open_in procs.processes pid fd ≡ Err errno → Happens state fs fs (Fsync pid fd) (finished (Err errno))
        fsync_unopened pid fd errno closed =
            subst (λ (x : System D). Happens state x x (Fsync pid fd) (finished (Err errno))) view_is (fsync_refused inside up_inside pid fd errno closed)

        pub fsync_flushed : (pid fd : ℕ) (d : Descriptor) → open_in procs.processes pid fd ≡ Ok d → (new : System D) (reply : Reply)
            → FlushesFor state fs new (Fsync pid fd) reply → Happens state fs new (Fsync pid fd) reply
        fsync_flushed pid fd d opened new reply flushes =
            λ s on. flushes refl s on
            (open_firm s fs.processes pid fd d (ap (λ (d : Tables). d.processes) (go fs.base up s on)) (ap (λ (x : System D). open_in x.processes pid fd) (sym view_is) ∙ opened))
          where
            go : (b : Base D) → is_halted b ≡ false → (s : State) → IsOn state fs.geometry fs.time (tables_on fs) b s → tables_in s ≡ tables_on fs
            go Taken running s on = absurd on
            go (Running store) running s on = on.0.state_of.same_tables
            go (Halted broken) running s on = absurd cc

        -- the time
        pub time_returns : (now : ℕ) → now < 2 ^ 64 → Happens state fs (record { base = base; geometry = geometry; processes = procs.processes; openings = procs.openings; time = now }) (Clock now) Done
        time_returns now small =
            subst (λ (x : System D). Happens state x (record { base = base; geometry = geometry; processes = procs.processes; openings = procs.openings; time = now }) (Clock now) Done) view_is
            (time_told inside up_inside now small)

        pub time_system : (now : ℕ) → now < 2 ^ 64 → IsSystem state (record { base = base; geometry = geometry; processes = procs.processes; openings = procs.openings; time = time })
            → IsSystem state (record { base = base; geometry = geometry; processes = procs.processes; openings = procs.openings; time = now })
        time_system now small was =
            system_then inside (record { base = base; geometry = geometry; processes = procs.processes; openings = procs.openings; time = now }) (Clock now) Done (time_told inside up_inside now small)
            was was.mountable

        -- spawn
        module _ (cred : Credential) (valid : IsCredential cred) (processes : ProcessTable) (result : Result ℕ Errno)
            (number : IfOk result (λ pid. IsNewPid procs.processes pid))
            (added : IfOk result (λ pid. processes ≡ with_entry nat_cmp procs.processes pid (new_process cred)))
            (full : (result ≡ Err EAGAIN) ↔ (64 ≤ length procs.processes))
            (refused : IfErr result (λ errno. (errno ≡ EAGAIN) ⊎ (errno ≡ ENOMEM)))
            (same : OnErr result (processes ≡ procs.processes)) where
          pub spawn_returns : Happens state fs (record { base = base; geometry = geometry; processes = processes; openings = procs.openings; time = time }) (Spawn cred) (spawned result)
          spawn_returns =
              subst (λ (x : System D). Happens state x (record { base = base; geometry = geometry; processes = processes; openings = procs.openings; time = time }) (Spawn cred) (spawned result)) view_is
              (spawn_happens inside up_inside cred valid processes result number added full refused same)

          pub spawn_system : IsSystem state (record { base = base; geometry = geometry; processes = procs.processes; openings = procs.openings; time = time }) → IsSystem state (record { base = base; geometry = geometry; processes = processes; openings = procs.openings; time = time })
          spawn_system was =
              system_then inside (record { base = base; geometry = geometry; processes = processes; openings = procs.openings; time = time }) (Spawn cred) (spawned result)
              (spawn_happens inside up_inside cred valid processes result number added full refused same) was was.mountable

      -- where a commit has failed
      pub last_halted : (broken : D) → base ≡ Halted broken → (disk : D) → disk ≡ broken → HappensLast state fs disk Sync (Refused (Failed EIO))
      last_halted broken is disk here =
          subst (λ (d : D). HappensLast state fs d Sync (Refused (Failed EIO))) (sym here)
          (subst (λ (x : System D). HappensLast state x broken Sync (Refused (Failed EIO)))
          (ap (λ (b : Base D). record { base = b; geometry = geometry; processes = procs.processes; openings = procs.openings; time = time }) (sym is) ∙ view_is)
          (λ s r. (s, does_halted (state broken) (only_now broken) s Sync refl r)))

      -- with a store
      module _ (before : StoreView D) (is : base ≡ Running before) where
        seen_so : record { base = Running before; geometry = geometry; processes = procs.processes; openings = procs.openings; time = time } ≡ fs
        seen_so = ap (λ (b : Base D). record { base = b; geometry = geometry; processes = procs.processes; openings = procs.openings; time = time }) (sym is) ∙ view_is

        -- the file system goes on in some state
        pub store_runs : IsSystem state (record { base = base; geometry = geometry; processes = procs.processes; openings = procs.openings; time = time })
            → (s : State) × IsRunning (state before.disk).size geometry (present state before) procs s
        store_runs was =
            let here = (subst (λ (b : Base D). IsSystem state (record { base = b; geometry = geometry; processes = procs.processes; openings = procs.openings; time = time })) is was).in_some in
            (here.0, here.1.0)

        -- an event that was performed
        module _ (now : Result (StoreView D) D) (tables : Tables) (e : Event) (reply : Reply)
            (does : (s : State) → IsRunning (state before.disk).size geometry (present state before) procs s → s.now ≡ time
            → (t : State) × IsOn state geometry s.now tables (base_left now) t × Does (state before.disk) (state (disk_after now)) s e reply t) where
          at_time : (s : State) → IsOn state geometry time procs (Running before) s
              → (t : State) × IsOn state geometry time tables (base_left now) t × Does (state before.disk) (disk_in state (base_left now)) s e reply t
          at_time s on =
              let next = does s on.0 on.1 in (
                next.0,
                subst (λ (k : ℕ). IsOn state geometry k tables (base_left now) next.0) on.1 next.1,
                subst (λ (d : DiskState). Does (state before.disk) d s e reply next.0) (sym (disk_left now)) next.2,
              )

          pub kept_returns : Happens state fs (record { base = base_left now; geometry = geometry; processes = tables.processes; openings = tables.openings; time = time }) e reply
          kept_returns = subst (λ (x : System D). Happens state x (record { base = base_left now; geometry = geometry; processes = tables.processes; openings = tables.openings; time = time }) e reply) seen_so at_time

          pub kept_system : ((t : ℕ) (image : Image) → t ≤ (state (disk_after now)).moment → IsImage (state (disk_after now)) image → (state (disk_after now)).left_since t image)
              → IsSystem state (record { base = base; geometry = geometry; processes = procs.processes; openings = procs.openings; time = time }) → IsSystem state (record { base = base_left now; geometry = geometry; processes = tables.processes; openings = tables.openings; time = time })
          kept_system counts_now was =
              let here = subst (λ (b : Base D). IsSystem state (record { base = b; geometry = geometry; processes = procs.processes; openings = procs.openings; time = time })) is was in
              let next = at_time here.in_some.0 here.in_some.1 in
              let done = (does here.in_some.0 here.in_some.1.0 here.in_some.1.1).2 in
              record {
                in_some = (next.0, next.1);
                mountable = subst EachStandsForSome (sym (disk_left now))
                    (mountable_then (state before.disk) (state (disk_after now)) here.in_some.0 done.added counts_now here.mountable done.images);
              }

        module _ (after : StoreView D) (same : SameMap (present state after) (present state before))
            (run : LeavesOldOr (present state before) (state before.disk) (state after.disk)) (lasting : EachReadsAs (present state before) (state after.disk))
            (later : (state before.disk).failures ≤ (state after.disk).failures) (quiet : (state after.disk).failed_writes ≡ (state before.disk).failed_writes) where
          pub flush_returns : (e : Event) → FlushesFor state fs (record { base = Running after; geometry = geometry; processes = procs.processes; openings = procs.openings; time = time }) e Done
          flush_returns e =
              subst (λ (x : System D). FlushesFor state x (record { base = Running after; geometry = geometry; processes = procs.processes; openings = procs.openings; time = time }) e Done) seen_so
              (flush_done geometry procs time e before after same run lasting later quiet)

        -- the disk is handed back
        pub last_closed : (disk : D) → LeavesOldOr (present state before) (state before.disk) (state disk) → EachReadsAs (present state before) (state disk)
            → (state before.disk).failures ≤ (state disk).failures → (state disk).failed_writes ≡ (state before.disk).failed_writes → HappensLast state fs disk Sync Done
        last_closed disk run lasting later quiet =
            subst (λ (x : System D). HappensLast state x disk Sync Done) seen_so
            (λ s on. (s, does_flush (state before.disk) (state disk) geometry (present state before) procs s on.0 run later Sync refl (sync_firm s) lasting quiet))

        module _ (broken : D) (run : LeavesOldOr (present state before) (state before.disk) (state broken)) (later : (state before.disk).failures ≤ (state broken).failures)
            (failed : HasFailed (state before.disk) (state broken)) (unwritten : HasFailedToWrite (state before.disk) (state broken)) where
          pub break_returns : (e : Event) → FlushesFor state fs (record { base = Halted broken; geometry = geometry; processes = procs.processes; openings = procs.openings; time = time }) e (Refused (Failed EIO))
          break_returns e =
              subst (λ (x : System D). FlushesFor state x (record { base = Halted broken; geometry = geometry; processes = procs.processes; openings = procs.openings; time = time }) e (Refused (Failed EIO))) seen_so
              (flush_broke geometry procs time e before broken run later failed unwritten)

          pub last_broken : (disk : D) → disk ≡ broken → HappensLast state fs disk Sync (Refused (Failed EIO))
          last_broken disk here =
              subst (λ (d : D). HappensLast state fs d Sync (Refused (Failed EIO))) (sym here)
              (subst (λ (x : System D). HappensLast state x broken Sync (Refused (Failed EIO))) seen_so
              (λ s on. let done = flush_broke geometry procs time Sync before broken run later failed unwritten refl s on (sync_firm s) in (done.0, done.2)))

        -- what is left may be mounted
        pub flush_leaves : (disk : D) → ((t : ℕ) (image : Image) → t ≤ (state disk).moment → IsImage (state disk) image → (state disk).left_since t image)
            → LeavesOldOr (present state before) (state before.disk) (state disk) → IsSystem state (record { base = base; geometry = geometry; processes = procs.processes; openings = procs.openings; time = time })
            → EachStandsForSome (state disk)
        flush_leaves disk counts_now run was =
            let here = subst (λ (b : Base D). IsSystem state (record { base = b; geometry = geometry; processes = procs.processes; openings = procs.openings; time = time })) is was in
            flush_mountable (state before.disk) (state disk) geometry (present state before) procs here.in_some.0 here.in_some.1.0 run counts_now here.mountable

        pub flush_system : (after : StoreView D) → ((t : ℕ) (image : Image) → t ≤ (state after.disk).moment → IsImage (state after.disk) image → (state after.disk).left_since t image)
            → SameMap (present state after) (present state before) → LeavesOldOr (present state before) (state before.disk) (state after.disk)
            → IsSystem state (record { base = base; geometry = geometry; processes = procs.processes; openings = procs.openings; time = time }) → IsSystem state (record { base = Running after; geometry = geometry; processes = procs.processes; openings = procs.openings; time = time })
        flush_system after counts_now same run was =
            let here = subst (λ (b : Base D). IsSystem state (record { base = b; geometry = geometry; processes = procs.processes; openings = procs.openings; time = time })) is was in
            record {
              in_some = (
                here.in_some.0,
                (
                  running_same (state before.disk).size (state after.disk).size geometry (present state before) (present state after) procs procs here.in_some.0 run.size
                      same refl here.in_some.1.0,
                  here.in_some.1.1,
                ),
              );
              mountable = flush_leaves after.disk counts_now run was;
            }

        pub break_system : (broken : D) → ((t : ℕ) (image : Image) → t ≤ (state broken).moment → IsImage (state broken) image → (state broken).left_since t image)
            → LeavesOldOr (present state before) (state before.disk) (state broken)
            → IsSystem state (record { base = base; geometry = geometry; processes = procs.processes; openings = procs.openings; time = time }) → IsSystem state (record { base = Halted broken; geometry = geometry; processes = procs.processes; openings = procs.openings; time = time })
        break_system broken counts_now run was =
            let here = subst (λ (b : Base D). IsSystem state (record { base = b; geometry = geometry; processes = procs.processes; openings = procs.openings; time = time })) is was in
            record { in_some = (record here.in_some.0 { halted = true }, refl); mountable = flush_leaves broken counts_now run was }

-- ---- an event that happens to the store, which is taken for it

module _ {D : Type 0} {state : D → DiskState} {base : Base D} {geometry : Geometry} {procs : ProcessTable} {openings : Openings} {time : ℕ} {fs : System D}
    (only_now : (disk : D) (image : Image) → (state disk).left_since (state disk).moment image → IsImage (state disk) image)
    (was : IsSystem state (record { base = base; geometry = geometry; processes = procs; openings = openings; time = time })) (view_is : record { base = base; geometry = geometry; processes = procs; openings = openings; time = time } ≡ fs) where
  pub may_take : is_halted fs.base ≡ false → (store : StoreView D) × base ≡ Running store
  may_take up = store_there state only_now base geometry (both procs openings) time fs view_is up was

  module _ {before : StoreView D} (taken : base ≡ Running before) where
    pub taken_runs : (s : State) × IsRunning (state before.disk).size geometry (present state before) (both procs openings) s
    taken_runs = store_runs state only_now base geometry (both procs openings) time fs view_is before taken was

    module _ {put : Base D} (e : Event) (reply : Reply) (now : Result (StoreView D) D) (tables : Tables) (put_is : put ≡ base_left now)
        (does : (s : State) → IsRunning (state before.disk).size geometry (present state before) (both procs openings) s → s.now ≡ time
        → (t : State) × IsOn state geometry s.now tables (base_left now) t × Does (state before.disk) (state (disk_after now)) s e reply t) where
      pub event_happens : Happens state fs (record { base = put; geometry = geometry; processes = tables.processes; openings = tables.openings; time = time }) e reply
      event_happens =
          happens_put state geometry tables time put_is fs e reply
          (kept_returns state only_now base geometry (both procs openings) time fs view_is before taken now tables e reply does)

      pub event_system : ((t : ℕ) (image : Image) → t ≤ (state (disk_after now)).moment → IsImage (state (disk_after now)) image → (state (disk_after now)).left_since t image)
          → IsSystem state (record { base = put; geometry = geometry; processes = tables.processes; openings = tables.openings; time = time })
      event_system counts_now =
          system_put state geometry tables time put_is
          (kept_system state only_now base geometry (both procs openings) time fs view_is before taken now tables e reply does counts_now was)

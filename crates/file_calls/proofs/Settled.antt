-- Calls that need the table of processes alone.
--     settled_err        a refusal, passed on
--     with_umask, umask_absent, umask_settles        what umask answers
--     close_by        the row of close
--     umask_performs        umask in a transaction
use Rattle.call_parts.specs.Callers.{ByProcess, ByCaller, leaving}
use Rattle.std.specs.Prelude.{◌≡◌, ℕ, ◌%◌, ◌||◌, Option, None, Some, Result, Ok, Err, IsErr, IsErrAnd}
use Rattle.std.proofs.Common.{refl, sym, ap, subst, ◌∙◌}
use Rattle.std.specs.Ordering.{nat_cmp}
use Rattle.fs_cred.specs.declared.errno.Errno.{Errno}
use Rattle.fs_cred.specs.declared.errno.Errno.TheVariants.{ESRCH}
use Rattle.fs_cred.specs.declared.refusal.Refusal.{Refusal}
use Rattle.fs_cred.specs.declared.refusal.Refusal.TheVariants.{Failed}
use Rattle.fs_layout.specs.declared.geometry.Geometry.{Geometry}
use Rattle.fs_layout.specs.Bytes.{SectorMap}
use Rattle.fs_layout.specs.Maps.{get, with_entry}
use Rattle.sector_txn.specs.Sectors.{TxnState, IsUnchanged}
use Rattle.fs_model.specs.declared.call.Call.{Call}
use Rattle.fs_model.specs.declared.call.Call.TheVariants.{Umask, Close}
use Rattle.fs_model.specs.declared.event.Event.TheVariants.{Call as Calls}
use Rattle.fs_model.specs.declared.reply.Reply.{Reply}
use Rattle.fs_model.specs.declared.reply.Reply.TheVariants.{Mask}
use Rattle.fs_model.specs.AttributeCalls.{umask_row}
use Rattle.fs_model.specs.TreeChanges.{Same, swept}
use Rattle.fs_model.specs.DescriptorCalls.{close_row, close_effect}
use Rattle.fs_model.specs.Processes.{Process, ProcessTable, Openings, process_holding, users, is_open}
use Rattle.fs_model.specs.declared.event.HandleCall.TheVariants.{Close as CloseBy}
use Rattle.fs_model.specs.HandleCalls.{handle_call_row}
use Rattle.call_parts.specs.BothTables.{Tables, both}
use Rattle.call_parts.specs.declared.reaching.OpenAt.{OpenAt}
use Rattle.call_parts.specs.declared.reaching.OpenAt.TheVariants.{Descriptor as AtDescriptor, Handle as AtHandle}
use Rattle.file_calls.specs.Places.{offset_at, close_through}
use Rattle.fs_model.specs.Rows.{row_of}
use Rattle.fs_model.specs.Scenes.{Row, nothing_asked}
use Rattle.fs_model.specs.Stands.{HoldsAll, placed}
use Rattle.fs_model.specs.States.{State}
use Rattle.fs_model.specs.Steps.{After, after, after_call, early_refusal, late_refusal, firm_refusal}
use Rattle.fs_model.specs.Trees.{Tree}
use Rattle.fs_model.proofs.Unchanged.{open_stays}
use Rattle.open_files.specs.Tables.{answer_of_found, answer_of, changed_where, with_changed, without_descriptor}
use Rattle.call_parts.specs.Performing.{IsStateOf, IsDone, Performs, chosen}
use Rattle.call_parts.specs.Performing as why
use Rattle.call_parts.proofs.Calling.{early_is, late_is, after_is}
use Rattle.path_walk.proofs.Kept.{is_err, same_map}
use Rattle.file_calls.specs.Settling.{IsSettled, Settles}
use Rattle.call_parts.specs.declared.reaching.OpenFor.TheVariants.{Anything}
use Rattle.call_parts.specs.Reaching.{fd_of, IsDoer, ActsOn, closed_in}
use Rattle.call_parts.proofs.ByDescriptor.{IsLeft, has_open, changed_there, still_open}

-- a refusal, passed on
pub settled_err : {pid : ℕ} {call : Call} {before now : ProcessTable} (r : Result Reply Refusal) (e : Refusal) → IsErr r → IsErrAnd r (λ y. y ≡ e) → now ≡ before
    → ((s : State) → s.processes ≡ before → firm_refusal s (Calls pid call) ≡ Some e) → Settles pid call before now r
settled_err {pid} {call} {before} {now} r e err and table each =
    subst (λ (x : Result Reply Refusal). Settles pid call before now x) (sym (is_err r e err and)) (record { table = table; each = each })

process_of : (s : State) {before : ProcessTable} → s.processes ≡ before → (pid : ℕ) (o : Option Process) → get nat_cmp before pid ≡ o → get nat_cmp s.processes pid ≡ o
process_of s same pid o at = ap (λ (d : ProcessTable). get nat_cmp d pid) same ∙ at

-- ---- umask

-- there is no such process
absent : (s : State) (pid mask : ℕ) → get nat_cmp s.processes pid ≡ None → firm_refusal s (Calls pid (Umask mask)) ≡ Some (Failed ESRCH)
unfolding firm_refusal
absent s pid mask e = rw e refl

umask_is : (mask : ℕ) → row_of (Umask mask) ≡ umask_row mask
unfolding row_of
umask_is mask = refl

abbrev pub with_umask : ℕ → Process → Process
with_umask mask p = record p { umask = mask % 512 }

abbrev umask_answer : Process → Result ℕ Errno
umask_answer p = Ok p.umask

pub umask_absent : (processes : ProcessTable) (pid mask : ℕ) (errno : Errno) → Err errno ≡ answer_of processes pid umask_answer
    → ((s : State) → s.processes ≡ processes → firm_refusal s (Calls pid (Umask mask)) ≡ Some (Failed errno)) × (with_changed processes pid (with_umask mask) ≡ processes)
umask_absent processes pid mask errno e = go (get nat_cmp processes pid) refl e
  where
    go : (o : Option Process) → get nat_cmp processes pid ≡ o → Err errno ≡ answer_of_found umask_answer o
        → ((s : State) → s.processes ≡ processes → firm_refusal s (Calls pid (Umask mask)) ≡ Some (Failed errno)) × (with_changed processes pid (with_umask mask) ≡ processes)
    go None at e =
        let no : ESRCH ≡ errno = cc in (
          λ s same. absent s pid mask (process_of s same pid None at) ∙ ap (λ (x : Errno). Some (Failed x)) no,
          ap (changed_where processes pid (with_umask mask)) at,
        )
    go (Some q) at e = absurd (cc)

module _ (s : State) (pid mask : ℕ) (q : Process) (there : get nat_cmp s.processes pid ≡ Some q) where
  umask_after : after s (Calls pid (Umask mask)) (chosen 0 0 0) ≡ leaving s (both (with_entry nat_cmp s.processes pid (with_umask mask q)) s.openings) Same (Mask q.umask)
  umask_after = after_is s pid q (Umask mask) there (chosen 0 0 0) ∙ ap (λ (x : Row). after_call s pid x 0 (Some q)) (umask_is mask)

  umask_done : (now : ProcessTable) (old : ℕ) → with_entry nat_cmp s.processes pid (with_umask mask q) ≡ now → q.umask ≡ old → IsSettled s pid (Umask mask) now (Mask old)
  umask_done now old is same = record {
    early = early_is s pid q (Umask mask) there ∙ ap (early_refusal q) (umask_is mask);
    late = late_is s pid q (Umask mask) there ∙ ap (late_refusal s q) (umask_is mask);
    effect = umask_after
        ∙ ap (λ (d : ProcessTable). leaving s (both d s.openings) Same (Mask q.umask)) is
        ∙ ap (λ (m : ℕ). leaving s (both now s.openings) Same (Mask m)) same;
  }

pub umask_settles : (processes now : ProcessTable) (pid mask old : ℕ) → Ok old ≡ answer_of processes pid umask_answer → now ≡ with_changed processes pid (with_umask mask)
    → Settles pid (Umask mask) processes now (Ok (Mask old))
umask_settles processes now pid mask old e is = go (get nat_cmp processes pid) refl e
  where
    go : (o : Option Process) → get nat_cmp processes pid ≡ o → Ok old ≡ answer_of_found umask_answer o → Settles pid (Umask mask) processes now (Ok (Mask old))
    go None at e = absurd (cc)
    go (Some q) at e =
        let same : q.umask ≡ old = cc in
        record {
          table = tt;
          each = λ s processes_are. umask_done s pid mask q (process_of s processes_are pid (Some q) at) now old
              (ap (λ (d : ProcessTable). with_entry nat_cmp d pid (with_umask mask q)) processes_are ∙ sym (changed_there processes pid q (with_umask mask) at) ∙ sym is) same;
        }

-- ---- close

close_is : (fd : ℕ) → row_of (Close fd) ≡ close_row fd
unfolding row_of
close_is fd = refl

close_by_handle : handle_call_row CloseBy ≡ close_row 0
unfolding handle_call_row
close_by_handle = refl

pub close_by : (place : OpenAt) → offset_at place ≡ 0 → ActsOn place (close_through place) Anything nothing_asked (close_effect (fd_of place))
close_by (AtDescriptor pid fd) start = record { asked = refl; row = close_is fd }
close_by (AtHandle handle offset) start = record { asked = (refl, sym start); row = close_by_handle }

-- what is left then
pub closed_left : (tables : Tables) (place : OpenAt) (q : Process) → IsDoer tables place q → IsLeft tables place (close_through place) (without_descriptor q (fd_of place)) (closed_in tables place)
closed_left tables (AtDescriptor pid fd) q there = ap (λ (m : ProcessTable). both m tables.openings) (changed_there tables.processes pid q (λ k. without_descriptor k fd) there)
closed_left tables (AtHandle handle offset) q there = refl

-- ---- in a transaction

settled_performs : {p : Geometry} {time pid : ℕ} {call : Call} {old new : TxnState} {before now : ProcessTable} {openings : Openings} (result : Result Reply Refusal) → IsUnchanged old new
    → Settles pid call before now result
    → ((s : State) → IsStateOf p old.sectors (both before openings) s → (reply : Reply) → IsSettled s pid call now reply → swept s.tree (users now openings) ≡ s.tree)
    → Performs p time (ByCaller (ByProcess pid) call) old new (both before openings) (both now openings) result
settled_performs {p} {time} {pid} {call} {old} {new} {before} {now} {openings} (Ok reply) same settles stays = record {
  store = same.store;
  super = same.sectors 0;
  table = tt;
  each = λ s at.
      let is = settles.each s (ap (λ (t : Tables). t.processes) at.same_tables) in
      record {
        early = is.early;
        late = is.late;
        number = 0;
        handle = 0;
        change = Same;
        effect = is.effect ∙ ap (λ (t : Tables). leaving s (both now t.openings) Same reply) at.same_tables;
        new_number = tt;
        new_handle = tt;
        holds = subst (λ (t : Tree). HoldsAll p new.sectors (placed t)) (sym (stays s at reply is))
            (subst (λ m. HoldsAll p m (placed s.tree)) (sym (same_map same)) at.holds);
      };
}
settled_performs {p} {time} {pid} {call} {old} {new} {before} {now} {openings} (Err r) same settles stays = record {
  store = same.store;
  super = tt;
  table = ap (λ (m : ProcessTable). both m openings) settles.table;
  each = λ s at. why.early (settles.each s (ap (λ (t : Tables). t.processes) at.same_tables));
}

umask_stays : (s : State) (pid mask : ℕ) (now : ProcessTable) (openings : Openings) (reply : Reply) {p : Geometry} {map : SectorMap} {before : ProcessTable} → IsStateOf p map (both before openings) s
    → IsSettled s pid (Umask mask) now reply → swept s.tree (users now openings) ≡ s.tree
umask_stays s pid mask now openings reply at is = go (get nat_cmp s.processes pid) refl
  where
    go : (o : Option Process) → get nat_cmp s.processes pid ≡ o → swept s.tree (users now openings) ≡ s.tree
    go None none =
        let both : Some (Failed ESRCH) ≡ None = sym (absent s pid mask none) ∙ is.early in
        absurd (cc)
    go (Some q) there =
        let entered : with_entry nat_cmp s.processes pid (with_umask mask q) ≡ now = ap (λ (x : After). x.processes) (sym (umask_after s pid mask q there) ∙ is.effect) in
        let same : s.openings ≡ openings = ap (λ (t : Tables). t.openings) at.same_tables in
        open_stays s.room s.tree s.processes s.openings (users now openings) at.is_state.tree (at.is_state.processes at.up)
        (λ n was.
        ap (λ (o : Openings). is_open (users now o) n) (sym same)
        ∙ ap (λ b. has_open n (process_holding s.openings) || b) (ap (λ (x : ProcessTable). is_open x n) (sym entered) ∙ still_open s.processes pid q (with_umask mask q) at.is_state.pids there n refl)
        ∙ was)

pub umask_performs : {p : Geometry} {time pid mask : ℕ} {old new : TxnState} {before now : ProcessTable} (openings : Openings) (result : Result Reply Refusal) → IsUnchanged old new
    → Settles pid (Umask mask) before now result → Performs p time (ByCaller (ByProcess pid) (Umask mask)) old new (both before openings) (both now openings) result
umask_performs {p} {time} {pid} {mask} {old} {new} {before} {now} openings result same settles =
    settled_performs result same settles (λ s at reply is. umask_stays s pid mask now openings reply at is)

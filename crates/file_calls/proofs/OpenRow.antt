-- The exits of open.
--     open_firm, open_late, open_after        what its row asks and leaves
--     slot_absent, slot_refused, slot_full, slot_lacks, not_placed        it is refused before its walk
--     walk_refuses, demands_refuse        or then
--     found_in        what its walk has found
--     opens        it is done
use Rattle.std.specs.Prelude.{false}
use Rattle.call_parts.specs.BothTables.{Tables, both, tables_in, tables_of, users_of}
use Rattle.call_parts.specs.declared.reaching.Caller.{Caller}
use Rattle.std.specs.Prelude.{◌<◌}
use Rattle.call_parts.specs.Callers.{Who, ByProcess, ByActor, ByCaller, event, who_of, IsJudgedAs, first_start, path_asked, starts_asked, left_by, leaving}
use Rattle.fs_model.specs.declared.event.Actor.{Actor}
use Rattle.fs_model.specs.Actors.{judged_as, checks_from, start_demands, start_of_walk}
use Rattle.fs_model.specs.TreeChanges.{Change}
use Rattle.fs_cred.specs.Credentials.{IsCredential}
use Rattle.fs_layout.specs.Bytes.{SectorMap}
use Rattle.std.specs.List.{flat_map}
use Rattle.file_calls.specs.declared.opening.Slot.{Slot}
use Rattle.file_calls.specs.declared.opening.Slot.TheVariants as slots
use Rattle.file_calls.specs.Opens.{opened_so, IsSlotFree, IsSlotChosen, MayFillSlot, IsSlotFilled, IsSlotRefused, is_refused, has_no_memory}
use Rattle.std.specs.Prelude.{◌≡◌, ℕ, ◌==◌, nat_le, Bool, true, false, not, ◌&&◌, ◌||◌, cond, List, [], ◌∷◌, ◌++◌, length, Option, None, Some, IsTrue, Result, Ok, Err, IsErr, IsErrAnd}
use Rattle.std.proofs.Common.{refl, sym, ap, subst, ◌∙◌, inl, inr}
use Rattle.std.specs.List.{list_any}
use Rattle.std.specs.Option.{ok_or}
use Rattle.std.specs.Ordering.{nat_cmp, eq_by_cmp, is_eq}
use Rattle.sector_disk.specs.Disk.{DiskState}
use Rattle.fs_cred.specs.declared.errno.Errno.{Errno}
use Rattle.fs_cred.specs.declared.errno.Errno.TheVariants.{EISDIR, EMFILE, ENOMEM, ESRCH}
use Rattle.fs_cred.specs.declared.refusal.Refusal.{Refusal}
use Rattle.fs_cred.specs.declared.refusal.Refusal.TheVariants.{Failed}
use Rattle.fs_layout.specs.declared.geometry.Geometry.{Geometry}
use Rattle.fs_layout.specs.Bytes.{IsBytes}
use Rattle.fs_layout.specs.Maps.{get, with_entry, without, IsMap}
use Rattle.fs_layout.proofs.FirstEntries.{tied}
use Rattle.fs_layout.proofs.MapLaws.{same_map}
use Rattle.sector_txn.specs.Sectors.{TxnState, SameStore, IsUnchanged}
use Rattle.sector_txn.proofs.TransactionRuns.{store_joined}
use Rattle.fs_model.specs.declared.call.Call.TheVariants.{Open}
use Rattle.fs_model.specs.declared.call.Flags.{Flags}
use Rattle.fs_model.specs.declared.reply.Reply.{Reply}
use Rattle.fs_model.specs.declared.reply.Reply.TheVariants.{Fd, Opened as OpenedAs}
use Rattle.fs_model.specs.declared.walk.Form.{Form}
use Rattle.fs_model.specs.declared.walk.Found.{Found}
use Rattle.fs_model.specs.Demands.{Demand, refuse, or_else, first_of}
use Rattle.fs_model.specs.Limits.{descriptors_limit}
use Rattle.fs_model.specs.OpenCall.{open_row, open_arguments, open_form, open_demands, open_change, open_effect, open_process}
use Rattle.fs_model.specs.Parts.{path_checks, ends_with_slash}
use Rattle.fs_model.specs.Processes.{Process, ProcessTable, Openings, process_holding, users, Descriptor, descriptor, with_descriptor, least_unused, is_open}
use Rattle.fs_model.specs.Rows.{row_of}
use Rattle.fs_model.specs.Scenes.{Row, Effect}
use Rattle.fs_model.specs.States.{State}
use Rattle.fs_model.specs.Steps.{HasNewHandle, after, after_call, after_effect, after_call_at, late_call_at, actor_scene, walk_refusals, early_refusal, late_refusal, firm_refusal, other_refusal, found_by, trail_in}
use Rattle.fs_model.specs.Walks.{first_refusal}
use Rattle.fs_model.proofs.StepsDemands.{first_met, then_met}
use Rattle.fs_model.proofs.StepsProcesses.{without-IsMap}
use Rattle.fs_model.proofs.Swept.{kept as kept_entry, get-filter}
use Rattle.open_files.specs.Tables.{answer_of_found, slot_in, lowest_slot, with_changed, IsTable, IsUnused}
use Rattle.open_files.proofs.Slots.{any_with_entry}
use Rattle.path_walk.specs.Answers.{refused_or, IsAnswered}
use Rattle.call_parts.specs.Paths.{scene_at, walk_by, HasFound}
use Rattle.call_parts.specs.Performing.{IsStateOf, IsRefused, Performs, chosen}
use Rattle.call_parts.specs.Performing as why
use Rattle.call_parts.proofs.ByPath.{refused_performs}
use Rattle.call_parts.proofs.Calling.{first_of-append, refused_err, met_ok, resolved, state_kept, same_caller, early_is, late_is, after_is, answered_refused, answered_later, interrupted_refused}
use Rattle.file_calls.specs.Openings.{open_asked, FindsIn, IsRefusedOpen, Reaches}
use Rattle.call_parts.proofs.ByDescriptor.{changed_there, entry_again}

-- ---- what its row asks and leaves

open_is : (path : List ℕ) (f : Flags) (mode : ℕ) → row_of (Open path f mode) ≡ open_row path f mode
unfolding row_of
open_is path f mode = refl

abbrev full : Process → Demand
full q = refuse EMFILE (nat_le descriptors_limit (length q.descriptors))

joined : (a b c : Demand) → or_else a (or_else b (or_else c None)) ≡ or_else (or_else a (or_else b None)) (or_else c None)
joined None None c = refl
joined None (Some r) c = refl
joined (Some r) b c = refl

or_else-none : (a : Demand) → or_else a None ≡ a
or_else-none None = refl
or_else-none (Some r) = refl

-- nothing is open of an actor
actor_full : (v : Actor) (q : Process) → q ≡ judged_as v → full q ≡ None
actor_full v q is = ap full is

firm_joined : (some checks : List Demand) (slash last : Demand)
    → first_of (some ++ (checks ++ []) ++ slash ∷ last ∷ []) ≡ or_else (first_of ((some ++ checks) ++ slash ∷ [])) last
firm_joined some checks slash last =
    first_of-append (some ++ (checks ++ [])) (slash ∷ last ∷ [])
    ∙ ap (λ (d : Demand). or_else d (or_else slash (or_else last None)))
    (first_of-append some (checks ++ []) ∙ ap (or_else (first_of some)) (first_of-append checks [] ∙ or_else-none (first_of checks)) ∙ sym (first_of-append some checks))
    ∙ joined (first_of (some ++ checks)) slash last
    ∙ ap (λ (d : Demand). or_else d (or_else last None)) (sym (first_of-append (some ++ checks) (slash ∷ [])))
    ∙ ap (or_else (first_of ((some ++ checks) ++ slash ∷ []))) (or_else-none last)

module _ (s : State) (q : Process) (path : List ℕ) (f : Flags) (mode : ℕ) where
  abbrev found_from : Who → Found
  found_from who = found_by s.room s.tree (first_start who q) (open_form f, path)

  abbrev starts : Who → Demand
  starts who = first_of (starts_asked s.tree who false path)

  abbrev walk_asked : Who → Demand
  walk_asked who = first_refusal s.tree q.cred 1 (open_form f) (trail_in s.room s.tree (first_start who q) (open_form f, path))

  pub open_firm : (who : Who) → IsJudgedAs s.processes who q → firm_refusal s (event who (Open path f mode)) ≡ or_else (first_of (open_asked who f mode path)) (full q)
  unfolding firm_refusal
  open_firm (ByProcess pid) there =
      early_is s pid q (Open path f mode) there ∙ ap (early_refusal q) (open_is path f mode)
      ∙ firm_joined (open_arguments f mode) (path_checks path) (refuse EISDIR (f.create && ends_with_slash path)) (full q)
  open_firm (ByActor v) there =
      ap (λ (r : Row). first_of (r.arguments ++ flat_map (λ walk. checks_from walk.1) r.walks ++ r.early (judged_as v))) (open_is path f mode)
      ∙ firm_joined (open_arguments f mode) (checks_from path) (refuse EISDIR (f.create && ends_with_slash path)) (full (judged_as v))
      ∙ ap (λ (k : Process). or_else (first_of (open_asked (ByActor v) f mode path)) (full k)) (sym there.is)

  pub open_late : (who : Who) → IsJudgedAs s.processes who q → other_refusal s (event who (Open path f mode))
      ≡ or_else (starts who) (or_else (walk_asked who) (first_of (open_demands f (scene_at s q (found_from who)))))
  unfolding other_refusal
  open_late (ByProcess pid) there = late_is s pid q (Open path f mode) there ∙ ap (late_refusal s q) (open_is path f mode)
  open_late (ByActor v) there =
      ap (late_call_at s v (Open path f mode)) (open_is path f mode)
      ∙ first_of-append (start_demands s.tree v (Open path f mode) ((open_form f, path) ∷ [])) (walk_refusals s.room s.tree v.cred (start_of_walk v) 1 ((open_form f, path) ∷ []) ++ open_demands f (actor_scene s v (open_row path f mode)))
      ∙ ap (λ (k : Process). or_else (starts (ByActor v))
      (or_else (first_refusal s.tree k.cred 1 (open_form f) (trail_in s.room s.tree v.start (open_form f, path))) (first_of (open_demands f (scene_at s k (found_by s.room s.tree v.start (open_form f, path))))))) (sym there.is)

  pub open_after : (who : Who) → IsJudgedAs s.processes who q → (found : Found) → found ≡ found_from who → (n handle : ℕ)
      → after s (event who (Open path f mode)) (chosen n handle 0) ≡ left_by who s (Open path f mode) (chosen n handle 0) (open_effect f mode (scene_at s q found) n)
  unfolding after
  open_after (ByProcess pid) there found is n handle =
      after_is s pid q (Open path f mode) there (chosen n handle 0)
      ∙ ap (λ (x : Row). after_call s pid x n (Some q)) (open_is path f mode)
      ∙ ap (λ (g : Found). after_effect s pid (open_effect f mode (scene_at s q g) n)) (sym is)
  open_after (ByActor v) there found is n handle =
      ap (λ (r : Row). after_call_at s (Open path f mode) (chosen n handle 0) (r.effect (actor_scene s v r) n)) (open_is path f mode)
      ∙ ap (λ (k : Process). after_call_at s (Open path f mode) (chosen n handle 0) (open_effect f mode (scene_at s k (found_by s.room s.tree v.start (open_form f, path))) n)) (sym there.is)
      ∙ ap (λ (g : Found). after_call_at s (Open path f mode) (chosen n handle 0) (open_effect f mode (scene_at s q g) n)) (sym is)

-- ---- one more descriptor

without_absent : {X : Type 0} (m : List (ℕ × X)) (k : ℕ) → IsMap nat_cmp m → get nat_cmp m k ≡ None → without nat_cmp m k ≡ m
without_absent {X} m k h none =
    same_map (without nat_cmp m k) m (without-IsMap m k h) h
    (λ q. get-filter (λ e. not (eq_by_cmp nat_cmp k e.0)) m h q ∙ go q (get nat_cmp m q) refl)
  where
    go : (q : ℕ) (o : Option X) → get nat_cmp m q ≡ o → kept_entry (λ e. not (eq_by_cmp nat_cmp k e.0)) q o ≡ o
    go q None at = refl
    go q (Some x) at = apart (is_eq (nat_cmp k q)) refl
      where
        apart : (b : Bool) → is_eq (nat_cmp k q) ≡ b → cond (not b) (Some x) None ≡ Some x
        apart true e = let both : None ≡ Some x = sym none ∙ ap (get nat_cmp m) (tied k q e) ∙ at in absurd (cc)
        apart false e = refl

abbrev has_open : ℕ → Process → Bool
has_open n q = list_any (λ d. d.1.ino == n) q.descriptors

or_second : (a b : Bool) → b ≡ true → (a || b) ≡ true
or_second true b e = refl
or_second false b e = e

or_first : (a b c : Bool) → (a ≡ true → b ≡ true) → (a || c) ≡ true → (b || c) ≡ true
or_first true b c h e = ap (λ (x : Bool). x || c) (h refl)
or_first false b c h e = or_second b c e

or_second_true : (a b c : Bool) → (b ≡ true → c ≡ true) → (a || b) ≡ true → (a || c) ≡ true
or_second_true true b c h e = refl
or_second_true false b c h e = h e

again : {X : Type 0} (test : X → Bool) (m : List (ℕ × X)) (k : ℕ) (x : X) → IsMap nat_cmp m → get nat_cmp m k ≡ Some x
    → list_any (λ (e : ℕ × X). test e.1) m ≡ (test x || list_any (λ (e : ℕ × X). test e.1) (without nat_cmp m k))
again {X} test m k x h there =
    ap (λ (l : List (ℕ × X)). list_any (λ (e : ℕ × X). test e.1) l) (sym (entry_again m k x h there)) ∙ any_with_entry test m k x h

-- what was open is still open
opened_too : (processes : ProcessTable) (pid : ℕ) (q : Process) (fd : ℕ) (d : Descriptor) (n : ℕ) → IsMap nat_cmp processes → get nat_cmp processes pid ≡ Some q
    → IsMap nat_cmp q.descriptors → descriptor q fd ≡ None → IsTrue (is_open processes n) → IsTrue (is_open (with_entry nat_cmp processes pid (with_descriptor q fd d)) n)
opened_too processes pid q fd d n h there rising none was =
    any_with_entry (has_open n) processes pid (with_descriptor q fd d) h
    ∙ or_first (has_open n q) (has_open n (with_descriptor q fd d)) (list_any (λ (e : ℕ × Process). has_open n e.1) (without nat_cmp processes pid))
    (λ e. any_with_entry (λ (x : Descriptor). x.ino == n) q.descriptors fd d rising
    ∙ or_second (d.ino == n) (list_any (λ (e : ℕ × Descriptor). e.1.ino == n) (without nat_cmp q.descriptors fd))
    (ap (λ (l : List (ℕ × Descriptor)). list_any (λ (e : ℕ × Descriptor). e.1.ino == n) l) (without_absent q.descriptors fd rising none) ∙ e))
    (sym (again (has_open n) processes pid q h there) ∙ was)

-- also by a new handle
opened_by_handle : (openings : Openings) (processes : ProcessTable) (handle : ℕ) (d : Descriptor) (n : ℕ) → IsMap nat_cmp openings → get nat_cmp openings handle ≡ None
    → IsTrue (is_open (users processes openings) n) → IsTrue (is_open (users processes (with_entry nat_cmp openings handle d)) n)
opened_by_handle openings processes handle d n rising none was =
    or_first (has_open n (process_holding openings)) (has_open n (process_holding (with_entry nat_cmp openings handle d))) (is_open processes n)
    (λ e. any_with_entry (λ (x : Descriptor). x.ino == n) openings handle d rising
    ∙ or_second (d.ino == n) (list_any (λ (e : ℕ × Descriptor). e.1.ino == n) (without nat_cmp openings handle))
    (ap (λ (l : List (ℕ × Descriptor)). list_any (λ (e : ℕ × Descriptor). e.1.ino == n) l) (without_absent openings handle rising none) ∙ e)) was

-- ---- the least unused descriptor

slot_of : (processes : ProcessTable) (pid : ℕ) (q : Process) → get nat_cmp processes pid ≡ Some q → slot_in processes pid ≡ lowest_slot q
slot_of processes pid q there = ap (answer_of_found lowest_slot) there

full_if : (q : Process) (errno : Errno) → lowest_slot q ≡ Err errno → full q ≡ Some (Failed errno)
full_if q errno e = go (nat_le descriptors_limit (length q.descriptors)) e
  where
    go : (b : Bool) → ok_or (cond b None (Some (least_unused 0 q.descriptors))) EMFILE ≡ Err errno → refuse EMFILE b ≡ Some (Failed errno)
    go true e = let is : EMFILE ≡ errno = cc in ap (λ (x : Errno). Some (Failed x)) is
    go false e = absurd (cc)

slot_if : (q : Process) (fd : ℕ) → lowest_slot q ≡ Ok fd → (full q ≡ None) × (fd ≡ least_unused 0 q.descriptors)
slot_if q fd e = go (nat_le descriptors_limit (length q.descriptors)) e
  where
    go : (b : Bool) → ok_or (cond b None (Some (least_unused 0 q.descriptors))) EMFILE ≡ Ok fd → (refuse EMFILE b ≡ None) × (fd ≡ least_unused 0 q.descriptors)
    go true e = absurd (cc)
    go false e = (refl, cc)

-- ---- where it is put

-- nobody has such a process, the call or its path is refused, or all descriptors are used
module _ (p : Process) (who : Who) (path : List ℕ) (f : Flags) (mode : ℕ) (s : State) (there : IsJudgedAs s.processes who p) where
  pub asked_firm : (e : Refusal) → first_of (open_asked who f mode path) ≡ Some e → firm_refusal s (event who (Open path f mode)) ≡ Some e
  asked_firm e asked = open_firm s p path f mode who there ∙ ap (λ (d : Demand). or_else d (full p)) asked

  pub full_firm : (e : Refusal) → first_of (open_asked who f mode path) ≡ None → full p ≡ Some e → firm_refusal s (event who (Open path f mode)) ≡ Some e
  full_firm e asked is = open_firm s p path f mode who there ∙ ap (λ (d : Demand). or_else d (full p)) asked ∙ is

-- there is room for what is opened
free_full : (tables : Tables) (who : Who) (q : Process) (slot : Slot) → IsJudgedAs tables.processes who q → IsSlotFree tables who slot → full q ≡ None
free_full tables (ByProcess pid) q (slots.Descriptor owner fd) there free = (slot_if q fd (sym (free.1 ∙ slot_of tables.processes pid q there))).0
free_full tables (ByProcess pid) q slots.Handle there free = absurd free
free_full tables (ByActor v) q (slots.Descriptor owner fd) there free = absurd free
free_full tables (ByActor v) q slots.Handle there free = actor_full v q there.is

-- ---- exits

path_checked : (who : Who) (path : List ℕ) (f : Flags) (mode : ℕ) → first_of (open_asked who f mode path) ≡ None → first_of (path_asked who path) ≡ None
path_checked who path f mode asked =
    let some = open_arguments f mode ++ path_asked who path in
    let slash = refuse EISDIR (f.create && ends_with_slash path) in
    let both = first_met (first_of some) (first_of (slash ∷ [])) (sym (first_of-append some (slash ∷ [])) ∙ asked) in
    then_met (first_of (open_arguments f mode)) (first_of (path_asked who path)) (sym (first_of-append (open_arguments f mode) (path_asked who path)) ∙ both)

or_assoc : (a b c : Demand) → or_else a (or_else b c) ≡ or_else (or_else a b) c
or_assoc None b c = refl
or_assoc (Some r) b c = refl

-- what is left, where it was opened
module _ {p : Geometry} {map : SectorMap} {tables : Tables} {s : State} (at : IsStateOf p map tables s) (q : Process) (path : List ℕ) (f : Flags) (mode n : ℕ) (change : Change) where
  -- the handle that is new, if one is
  abbrev new_handle_of : (slot : Slot) (now : Tables) (reply : Reply) → IsSlotFilled tables slot (opened_so n f) now reply → ℕ
  new_handle_of (slots.Descriptor owner fd) now reply put = 0
  new_handle_of slots.Handle now reply put = put.0

  put_handle : (who : Who) (slot : Slot) (now : Tables) (reply : Reply) → IsSlotFree tables who slot → (put : IsSlotFilled tables slot (opened_so n f) now reply)
      → HasNewHandle s (event who (Open path f mode)) (new_handle_of slot now reply put)
  put_handle (ByProcess pid) (slots.Descriptor owner fd) now reply free put = tt
  put_handle (ByProcess pid) slots.Handle now reply free put = absurd free
  put_handle (ByActor v) (slots.Descriptor owner fd) now reply free put = absurd free
  put_handle (ByActor v) slots.Handle now reply free put = ap (λ (t : Tables). get nat_cmp t.openings put.0) at.same_tables ∙ put.1

  abbrev effect_of : Process → Effect
  effect_of r = record { change = change; process = open_process r f n; reply = Fd (least_unused 0 r.descriptors) }

  put_left : (who : Who) (slot : Slot) (now : Tables) (reply : Reply) → IsJudgedAs tables.processes who q → (free : IsSlotFree tables who slot) → (put : IsSlotFilled tables slot (opened_so n f) now reply)
      → left_by who s (Open path f mode) (chosen n (new_handle_of slot now reply put) 0) (effect_of q) ≡ leaving s now change reply
  put_left (ByProcess pid) (slots.Descriptor owner fd) now reply there free put =
      let least : fd ≡ least_unused 0 q.descriptors = (slot_if q fd (sym (free.1 ∙ slot_of tables.processes pid q there))).1 in
      ap (λ (k : ℕ). leaving s (both (with_entry nat_cmp s.processes pid (with_descriptor q k (opened_so n f))) s.openings) change (Fd k)) (sym least)
      ∙ ap (λ (t : Tables). leaving s (both (with_entry nat_cmp t.processes pid (with_descriptor q fd (opened_so n f))) t.openings) change (Fd fd)) at.same_tables
      ∙ ap (λ (m : ProcessTable). leaving s (both m tables.openings) change (Fd fd)) (sym (changed_there tables.processes pid q (λ x. with_descriptor x fd (opened_so n f)) there))
      ∙ ap (λ (k : ℕ). leaving s (both (with_changed tables.processes k (λ x. with_descriptor x fd (opened_so n f))) tables.openings) change (Fd fd)) (sym free.0)
      ∙ ap (λ (t : Tables). leaving s t change (Fd fd)) (sym put.0) ∙ ap (leaving s now change) (sym put.1)
  put_left (ByProcess pid) slots.Handle now reply there free put = absurd free
  put_left (ByActor v) (slots.Descriptor owner fd) now reply there free put = absurd free
  put_left (ByActor v) slots.Handle now reply there free put =
      ap (λ (r : Process). after_call_at s (Open path f mode) (chosen n put.0 0) (effect_of r)) there.is
      ∙ ap (λ (t : Tables). leaving s (both t.processes (with_entry nat_cmp t.openings put.0 (opened_so n f))) change (OpenedAs put.0 n)) at.same_tables
      ∙ ap (λ (t : Tables). leaving s t change (OpenedAs put.0 n)) (sym put.2) ∙ ap (leaving s now change) (sym put.3)

  -- and what was open is open
  put_open : (who : Who) (slot : Slot) (now : Tables) (reply : Reply) → IsTable tables.processes → IsJudgedAs tables.processes who q → IsSlotFree tables who slot → IsSlotFilled tables slot (opened_so n f) now reply
      → (k : ℕ) → IsTrue (is_open (users_of (tables_in s)) k) → IsTrue (is_open (users_of now) k)
  put_open (ByProcess pid) (slots.Descriptor owner fd) now reply table there free put k was =
      ap (λ (t : Tables). is_open (users_of t) k) put.0
      ∙ ap (λ (o : ℕ). is_open (users (with_changed tables.processes o (λ x. with_descriptor x fd (opened_so n f))) tables.openings) k) free.0
      ∙ ap (λ (m : ProcessTable). is_open (users m tables.openings) k) (changed_there tables.processes pid q (λ x. with_descriptor x fd (opened_so n f)) there)
      ∙ or_second_true (has_open k (process_holding tables.openings)) (is_open tables.processes k) (is_open (with_entry nat_cmp tables.processes pid (with_descriptor q fd (opened_so n f))) k)
      (opened_too tables.processes pid q fd (opened_so n f) k table.rising there (table.each pid q there).descriptors.rising (unused_here free.2))
      (ap (λ (t : Tables). is_open (users_of t) k) (sym at.same_tables) ∙ was)
    where
      unused_here : IsUnused tables.processes pid fd → descriptor q fd ≡ None
      unused_here u =
          let two : Some u.process ≡ Some q = sym u.is_there ∙ there in
          let same : u.process ≡ q = cc in
          ap (λ (y : Process). descriptor y fd) (sym same) ∙ u.unused
  put_open (ByProcess pid) slots.Handle now reply table there free put k was = absurd free
  put_open (ByActor v) (slots.Descriptor owner fd) now reply table there free put k was = absurd free
  put_open (ByActor v) slots.Handle now reply table there free put k was =
      let rising = subst (λ (t : Tables). IsMap nat_cmp t.openings) at.same_tables at.is_state.handles in
      ap (λ (t : Tables). is_open (users_of t) k) put.2
      ∙ opened_by_handle tables.openings tables.processes put.0 (opened_so n f) k rising put.1 (ap (λ (t : Tables). is_open (users_of t) k) (sym at.same_tables) ∙ was)

module _ {p : Geometry} (who : Who) (path : List ℕ) (f : Flags) (mode : ℕ) (old : TxnState) {tables : Tables} (q : Process) (there : IsJudgedAs tables.processes who q)
    (slot : Slot) (placed : IsSlotChosen tables who path f mode slot) where
  firm : (s : State) → IsStateOf p old.sectors tables s → firm_refusal s (event who (Open path f mode)) ≡ None
  firm s at =
      open_firm s q path f mode who (same_caller at who q there) ∙ ap (λ (d : Demand). or_else d (full q)) placed.asked ∙ free_full tables who q slot there placed.free

  module _ (mid : TxnState) (same : IsUnchanged old mid) where
    -- the walk of the open is refused
    pub walk_refuses : {time : ℕ} (r : Result Reply Refusal) (e : Refusal) → IsErr r → IsErrAnd r (λ y. y ≡ e)
        → ((s : State) → IsStateOf p old.sectors tables s → IsAnswered old.disk mid.disk (walk_by s who q false (open_form f) path) (Err e))
        → Performs p time (ByCaller who (Open path f mode)) old mid tables tables r
    walk_refuses r e err and walks = refused_performs r e err and same.store (λ s at. elim (walks s at) [
      | inl is ↦ why.late (firm s at)
          (open_late s q path f mode who (same_caller at who q there)
          ∙ or_assoc (starts s q path f mode who) (walk_asked s q path f mode who) (first_of (open_demands f (scene_at s q (found_from s q path f mode who))))
          ∙ ap (λ x. or_else x (first_of (open_demands f (scene_at s q (found_from s q path f mode who)))))
          (refused_err (or_else (starts s q path f mode who) (walk_asked s q path f mode who)) (found_from s q path f mode who) e is))
      | inr way ↦ interrupted_refused old.disk mid.disk s (ByCaller who (Open path f mode)) (firm s at) refl e way
    ])

    module _ (found : Found) (walks : (s : State) → IsStateOf p old.sectors tables s → IsAnswered old.disk mid.disk (walk_by s who q false (open_form f) path) (Ok found)) where
      pub open_found : (s : State) → IsStateOf p old.sectors tables s → HasFound s who q false (open_form f) path found
      open_found s at = resolved old.disk mid.disk found (same_caller at who q there) (path_checked who path f mode placed.asked) (walks s at)

      pub found_in : IsBytes path → (s : State) → IsStateOf p old.sectors tables s → FindsIn p mid.sectors f q found s
      found_in bytes s at = record { tables = tables; who = who; path = path; bytes = bytes; is_state = state_kept same at; found = open_found s at }

      late_is_asked : (s : State) → IsStateOf p old.sectors tables s → other_refusal s (event who (Open path f mode)) ≡ first_of (open_demands f (scene_at s q found))
      late_is_asked s at =
          let has = open_found s at in
          open_late s q path f mode who (same_caller at who q there)
          ∙ ap (λ x. or_else x (or_else (walk_asked s q path f mode who) (first_of (open_demands f (scene_at s q (found_from s q path f mode who)))))) has.started
          ∙ ap (λ x. or_else x (first_of (open_demands f (scene_at s q (found_from s q path f mode who))))) has.unrefused
          ∙ ap (λ (g : Found). first_of (open_demands f (scene_at s q g))) (sym has.is)

      -- what it asks of what was found is refused
      pub demands_refuse : {time : ℕ} (bytes : IsBytes path) (new : TxnState) (r : Result Reply Refusal) (e : Refusal) → IsErr r → IsErrAnd r (λ y. y ≡ e) → SameStore mid new
          → ((s : State) → FindsIn p mid.sectors f q found s → IsRefusedOpen mid.disk new.disk f q found s e)
          → Performs p time (ByCaller who (Open path f mode)) old new tables tables r
      demands_refuse bytes new r e err and store refused = refused_performs r e err and (store_joined same.store store)
          (λ s at. answered_refused old.disk new.disk s (ByCaller who (Open path f mode)) (firm s at) refl e {A = ℕ} (first_of (open_demands f (scene_at s q found))) 0
          (late_is_asked s at) (answered_later new.disk same (refused s (found_in bytes s at))))

      -- or it is done
      pub opens : {time : ℕ} (bytes : IsBytes path) (table : IsTable tables.processes) (new : TxnState) (now : Tables) (reply : Reply) → SameStore mid new → new.sectors 0 ≡ mid.sectors 0 → (n : ℕ)
          → IsSlotFilled tables slot (opened_so n f) now reply
          → ((s : State) → FindsIn p mid.sectors f q found s → Reaches p time new.sectors f mode q found s n)
          → Performs p time (ByCaller who (Open path f mode)) old new tables now (Ok reply)
      opens bytes table new now reply store super n put reaches = record {
        store = store_joined same.store store;
        super = super ∙ same.sectors 0;
        table = tt;
        each = λ s at.
            let x = reaches s (found_in bytes s at) in
            let change = open_change f mode (scene_at s q found) n in
            let handle = new_handle_of at q path f mode n change slot now reply put in
            record {
              early = firm s at;
              late = late_is_asked s at ∙ x.met;
              number = n;
              handle = handle;
              change = change;
              effect = open_after s q path f mode who (same_caller at who q there) found (open_found s at).is n handle
                  ∙ ap (λ (k : ℕ). left_by who s (Open path f mode) (chosen n handle 0) (record { change = change; process = open_process q f k; reply = Fd (least_unused 0 q.descriptors) })) x.number
                  ∙ put_left at q path f mode n change who slot now reply there placed.free put;
              new_number = x.new_number;
              new_handle = put_handle at q path f mode n change who slot now reply placed.free put;
              holds = x.holds (users_of now) (put_open at q path f mode n change who slot now reply table there placed.free put);
            };
      }

-- ---- what was asked of the call and of its path

pub asked_met : (who : Who) (path : List ℕ) (f : Flags) (mode : ℕ) → refused_or {A = Unit {0}} (first_of (open_asked who f mode path)) (Ok tt) ≡ Ok tt → first_of (open_asked who f mode path) ≡ None
asked_met who path f mode is = (met_ok {A = Unit {0}} (first_of (open_asked who f mode path)) tt tt is).0

pub asked_some : (who : Who) (path : List ℕ) (f : Flags) (mode : ℕ) (e : Refusal) → refused_or {A = Unit {0}} (first_of (open_asked who f mode path)) (Ok tt) ≡ Err e
    → first_of (open_asked who f mode path) ≡ Some e
asked_some who path f mode e is = refused_err {A = Unit {0}} (first_of (open_asked who f mode path)) tt e is

-- ---- why it isn't put anywhere

-- there is no such process
pub slot_absent : (pid : ℕ) (path : List ℕ) (f : Flags) (mode : ℕ) (s : State) (errno : Errno) {tables : Tables} → tables_in s ≡ tables
    → (errno ≡ ESRCH) × (get nat_cmp tables.processes pid ≡ None) → IsSlotRefused s (ByProcess pid) path f mode (Failed errno)
unfolding firm_refusal
slot_absent pid path f mode s errno same none =
    let e = ap (λ (t : Tables). get nat_cmp t.processes pid) same ∙ none.1 in
    subst (λ (x : Errno). IsSlotRefused s (ByProcess pid) path f mode (Failed x)) (sym none.0) (is_refused (rw e refl))

pub process_in : {tables : Tables} (pid : ℕ) (q : Process) (s : State) → tables_in s ≡ tables → get nat_cmp tables.processes pid ≡ Some q → get nat_cmp s.processes pid ≡ Some q
process_in pid q s same there = ap (λ (t : Tables). get nat_cmp t.processes pid) same ∙ there

-- the call or its path is refused, for a process and for an actor
pub slot_refused : (who : Who) (path : List ℕ) (f : Flags) (mode : ℕ) (q : Process) (s : State) (e : Refusal) → IsJudgedAs s.processes who q
    → first_of (open_asked who f mode path) ≡ Some e → IsSlotRefused s who path f mode e
slot_refused who path f mode q s e there asked = is_refused (asked_firm q who path f mode s there e asked)

-- all descriptors are used
pub slot_full : (pid : ℕ) (path : List ℕ) (f : Flags) (mode : ℕ) (q : Process) (s : State) (errno : Errno) (processes : ProcessTable) → get nat_cmp s.processes pid ≡ Some q
    → get nat_cmp processes pid ≡ Some q → first_of (open_asked (ByProcess pid) f mode path) ≡ None → Err errno ≡ slot_in processes pid
    → IsSlotRefused s (ByProcess pid) path f mode (Failed errno)
slot_full pid path f mode q s errno processes there here asked slot =
    is_refused (full_firm q (ByProcess pid) path f mode s there (Failed errno) asked (full_if q errno (sym (slot ∙ slot_of processes pid q here))))

-- or there is no memory for a handle
pub slot_lacks : (v : Actor) (path : List ℕ) (f : Flags) (mode : ℕ) (s : State) (errno : Errno) → IsCredential v.cred → errno ≡ ENOMEM
    → first_of (open_asked (ByActor v) f mode path) ≡ None → IsSlotRefused s (ByActor v) path f mode (Failed errno)
slot_lacks v path f mode s errno cred memory asked =
    let firm = open_firm s (judged_as v) path f mode (ByActor v) (record { is = refl; cred = cred }) ∙ ap (λ (x : Demand). or_else x (full (judged_as v))) asked in
    has_no_memory firm (ap (λ (x : Errno). Failed x) memory)

-- so it is refused
pub not_placed : (old new : DiskState) (s : State) (who : Who) (path : List ℕ) (f : Flags) (mode : ℕ) (e : Refusal) → IsSlotRefused s who path f mode e
    → IsRefused old new s (ByCaller who (Open path f mode)) e
not_placed old new s who path f mode e (is_refused firm) = why.early firm
not_placed old new s who path f mode e (has_no_memory firm memory) = why.lacks_memory firm refl memory

-- where there is room for it, it may be put
pub may_put : (tables : Tables) (who : Who) (slot : Slot) (room : ℕ) → IsSlotFree tables who slot → (slot ≡ slots.Handle → 0 < room) → MayFillSlot tables.processes room slot
may_put tables (ByProcess pid) (slots.Descriptor owner fd) room free some = subst (λ (k : ℕ). IsUnused tables.processes k fd) (sym free.0) free.2
may_put tables (ByProcess pid) slots.Handle room free some = absurd free
may_put tables (ByActor v) (slots.Descriptor owner fd) room free some = absurd free
may_put tables (ByActor v) slots.Handle room free some = some refl

-- the walk, of each state of the map and the tables
pub walks_as : (old mid : TxnState) (q : Process) (r : Result Found Refusal) (caller : Caller) (p : Geometry) (tables : Tables) (who : Who) (path : List ℕ) (f : Flags) (mode : ℕ) (form : Form)
    → caller.geometry ≡ p → tables_of caller ≡ tables → who_of caller.by ≡ who → form ≡ open_form f → first_of (open_asked who f mode path) ≡ None
    → (first_of (path_asked (who_of caller.by) path) ≡ None → (s : State) → IsStateOf caller.geometry old.sectors (tables_of caller) s
    → IsAnswered old.disk mid.disk (walk_by s (who_of caller.by) q false form path) r)
    → (s : State) → IsStateOf p old.sectors tables s → IsAnswered old.disk mid.disk (walk_by s who q false (open_form f) path) r
walks_as old mid q r caller p tables who path f mode form same_geometry same_tables same_who same_form asked each s at =
    subst (λ (k : Form). IsAnswered old.disk mid.disk (walk_by s who q false k path) r) same_form
    (subst (λ (k : Who). IsAnswered old.disk mid.disk (walk_by s k q false form path) r) same_who
    (each (subst (λ (k : Who). first_of (path_asked k path) ≡ None) (sym same_who) (path_checked who path f mode asked)) s
    (subst (λ (k : Geometry). IsStateOf k old.sectors (tables_of caller) s) (sym same_geometry) (subst (λ (t : Tables). IsStateOf p old.sectors t s) (sym same_tables) at))))

-- The exits of what is asked by a descriptor or by a handle.
--     open_scene        what it finds
--     opened, opened_ok, open_as, reached_as, handle_entry        what is open there
--     IsOpenNode, open_fits, open_there, open_below, open_node, open_kind, open_used        in a state it is there
--     bad_closed, bad_open        whether it is open for that
--     open_firm, open_late, open_after        what the row of such a request asks and leaves
--     has_open, still_open        what a process that changes still has open
--     IsLeft, moved_left, still_moved        the tables that are left
--     closed_open, unfit_open, not_open, unread_open, fit_open        its process, what is open or its inode refuse, or it is open
--     closed_refused, open_refused        that is passed on
--     asked_performs, unread_performs, interrupted_performs        it is refused after that
--     told        it answers, and changes nothing
--     changed_tree, broken_later, changed_one        it has changed the tree, or an offset alone
use Rattle.call_parts.specs.Callers.{ByProcess, ByActor, AnyCall, ByCaller, ByHandle, event_of, row_asked, asks_of, left_of, leaving}
use Rattle.call_parts.specs.BothTables.{Tables, both, tables_in, users_of}
use Rattle.fs_model.specs.declared.event.HandleCall.{HandleCall}
use Rattle.fs_model.specs.HandleCalls.{doer_with, doer, offset_of_call, handle_call_row, kept_by}
use Rattle.open_files.specs.Handles.{with_start}
use Rattle.call_parts.specs.declared.reaching.OpenAt.{OpenAt}
use Rattle.call_parts.specs.declared.reaching.OpenAt.TheVariants as places
use Rattle.std.specs.Prelude.{◌≡◌, ◌≢◌, ℕ, ◌<◌, ◌==◌, Bool, true, false, cond, not, is_some, List, [], ◌∷◌, Option, None, Some, unwrap_or, ◌⊎◌, ◌||◌, IsTrue, IsFalse, Result, Ok, Err, IsOk, IsErr, IsErrAnd}
use Rattle.std.proofs.Common.{refl, sym, ap, subst, ◌∙◌, inl, inr}
use Rattle.std.specs.List.{list_any}
use Rattle.std.specs.Option.{ok_or, option_map}
use Rattle.std.specs.Ordering.{nat_cmp, is_eq}
use Rattle.sector_disk.specs.Disk.{DiskState}
use Rattle.sector_disk.proofs.Moments.{failed_later}
use Rattle.fs_cred.specs.declared.errno.Errno.{Errno}
use Rattle.fs_cred.specs.declared.errno.Errno.TheVariants.{ESRCH, EBADF}
use Rattle.fs_cred.specs.declared.refusal.Refusal.{Refusal}
use Rattle.fs_cred.specs.declared.refusal.Refusal.TheVariants.{Failed}
use Rattle.fs_layout.specs.declared.inode.Inode.{Inode}
use Rattle.fs_layout.specs.declared.inode.Kind.TheVariants as kinds
use Rattle.fs_layout.specs.declared.geometry.Geometry.{Geometry}
use Rattle.fs_layout.specs.Bytes.{SectorMap}
use Rattle.fs_layout.specs.Images.{inode_at}
use Rattle.fs_layout.specs.Maps.{get, with_entry, without, IsMap}
use Rattle.fs_layout.proofs.FirstEntries.{tied}
use Rattle.fs_layout.proofs.MapLaws.{get-with_entry, with_entry-IsMap, same_map}
use Rattle.sector_txn.specs.Sectors.{TxnState, SameStore, IsUnchanged}
use Rattle.sector_txn.proofs.TransactionRuns.{store_same, store_joined}
use Rattle.fs_model.specs.declared.reply.Reply.{Reply}
use Rattle.fs_model.specs.declared.touch.Touch.{Touch}
use Rattle.fs_model.specs.TreeChanges.{Same}
use Rattle.fs_model.specs.Demands.{Demand, refuse, first_of}
use Rattle.fs_model.specs.Processes.{Descriptor, Process, ProcessTable, Openings, process_holding, descriptor, the_descriptor, no_descriptor, with_offset, is_open}
use Rattle.fs_model.specs.Births.{the_node}
use Rattle.fs_model.specs.Nodes.{Node, is_directory, is_link}
use Rattle.fs_model.specs.Rules.{is_directory_kind}
use Rattle.fs_model.specs.Scenes.{Scene, Effect, Row, node_open, answers, with_process, by_descriptor}
use Rattle.fs_model.specs.Stands.{HoldsAll, placed}
use Rattle.fs_model.specs.States.{State, IsDescriptor}
use Rattle.fs_model.specs.Steps.{HasNewHandle, after, after_call, after_handle_call, scene_of, early_refusal, late_refusal, firm_refusal, other_refusal, nothing_found}
use Rattle.block_map.proofs.Runs.{unchanged_joined}
use Rattle.fs_model.specs.Trees.{Tree, node_at}
use Rattle.fs_model.proofs.Unchanged.{open_stays, same_process_stays}
use Rattle.open_files.specs.Tables.{answer_of_found, open_at, changed_where, with_changed, IsTable}
use Rattle.open_files.proofs.Slots.{any_with_entry}
use Rattle.path_walk.specs.Answers.{FailsToRead, Interrupts}
use Rattle.path_walk.specs.HeldTrees.{IsThere}
use Rattle.call_parts.specs.Paths.{scene_at}
use Rattle.call_parts.specs.Performing.{IsStateOf, IsRefused, Performs, chosen}
use Rattle.call_parts.specs.Performing as why
use Rattle.call_parts.specs.declared.reaching.OpenFor.{OpenFor}
use Rattle.call_parts.specs.declared.reaching.OpenFor.TheVariants.{Anything, Reading, Writing}
use Rattle.call_parts.specs.Reaching.{fd_of, IsDoer, IsAskedAt, bad_for, opens_for, ActsOn, IsNotOpen, RefusesOpen, IsOpened, IsOpenFor, HasOpened, opened_in, moved_in}
use Rattle.path_walk.proofs.HeldNodes.{is_there, number_below, held_kind}
use Rattle.path_walk.proofs.Kept.{same_map as map_kept, interrupts_later}
use Rattle.call_parts.proofs.Calling.{or_else-none, state_kept, state_tree, state_process, early_is, late_is, after_is, interrupted_refused, told_performs}
use Rattle.call_parts.proofs.ByPath.{refused_performs}
use Rattle.call_parts.specs.Times.{MovesTimes}
use Rattle.call_parts.proofs.Changed.{IsChange, times_moved, none_moved}
use Rattle.call_parts.proofs.Shown.{the_node_is, is_used}

-- a call by a descriptor has no path, and so no find
abbrev pub open_scene : State → Process → Scene
open_scene s q = scene_at s q nothing_found

-- ---- what is open

some_if_ok : (o : Option Descriptor) (e : Errno) (d : Descriptor) → ok_or o e ≡ Ok d → o ≡ Some d
some_if_ok None e d h = absurd (cc)
some_if_ok (Some x) e d h = cc

none_if_err : (o : Option Descriptor) (e errno : Errno) → ok_or o e ≡ Err errno → (o ≡ None) × (errno ≡ e)
none_if_err None e errno h = (refl, cc)
none_if_err (Some x) e errno h = absurd (cc)

opened_there : (tables : Tables) (pid fd : ℕ) (d : Descriptor) (o : Option Process) → get nat_cmp tables.processes pid ≡ o → answer_of_found (open_at fd) o ≡ Ok d → IsOpened tables (places.Descriptor pid fd) d
opened_there tables pid fd d None at e = absurd (cc)
opened_there tables pid fd d (Some q) at e = record { process = q; there = at; at = some_if_ok (descriptor q fd) EBADF d e }

opened_by_handle : (tables : Tables) (handle offset : ℕ) (d : Descriptor) (o : Option Descriptor) → get nat_cmp tables.openings handle ≡ o → ok_or (option_map (with_start offset) o) EBADF ≡ Ok d
    → IsOpened tables (places.Handle handle offset) d
opened_by_handle tables handle offset d None at e = absurd (cc)
opened_by_handle tables handle offset d (Some x) at e = record {
  process = process_holding ((0, with_start offset x) ∷ []);
  there = sym (ap (doer_with offset) at);
  at = some_if_ok (Some (with_start offset x)) EBADF d e;
}

pub opened : (tables : Tables) (place : OpenAt) (d : Descriptor) → opened_in tables place ≡ Ok d → IsOpened tables place d
opened tables (places.Descriptor pid fd) d e = opened_there tables pid fd d (get nat_cmp tables.processes pid) refl e
opened tables (places.Handle handle offset) d e = opened_by_handle tables handle offset d (get nat_cmp tables.openings handle) refl e

-- what the handle is for
pub handle_entry : (openings : Openings) (handle offset : ℕ) (q : Process) (d : Descriptor) → q ≡ doer_with offset (get nat_cmp openings handle) → descriptor q 0 ≡ Some d
    → (x : Descriptor) × (get nat_cmp openings handle ≡ Some x) × (with_start offset x ≡ d)
handle_entry openings handle offset q d there at = go (get nat_cmp openings handle) refl
  where
    go : (o : Option Descriptor) → get nat_cmp openings handle ≡ o → (x : Descriptor) × (get nat_cmp openings handle ≡ Some x) × (with_start offset x ≡ d)
    go None e = absurd (let no : Some d ≡ None = sym at ∙ ap (λ (k : Process). descriptor k 0) (there ∙ ap (doer_with offset) e) in cc)
    go (Some x) e =
        let both : Some d ≡ Some (with_start offset x) = sym at ∙ ap (λ (k : Process). descriptor k 0) (there ∙ ap (doer_with offset) e) in
        (x, e, (let same : d ≡ with_start offset x = cc in sym same))

open_is_ok : (tables : Tables) (place : OpenAt) (d : Descriptor) → IsOpened tables place d → IsOk (opened_in tables place)
open_is_ok tables (places.Descriptor pid fd) d o =
    subst (λ (x : Option Process). IsOk (answer_of_found (open_at fd) x)) (sym o.there) (subst (λ (x : Option Descriptor). IsOk (ok_or x EBADF)) (sym o.at) refl)
open_is_ok tables (places.Handle handle offset) d o =
    let e = handle_entry tables.openings handle offset o.process d o.there o.at in
    subst (λ (x : Option Descriptor). IsOk (ok_or (option_map (with_start offset) x) EBADF)) (sym e.1) refl

pub opened_ok : {tables : Tables} {place : OpenAt} {d : Descriptor} → IsOpened tables place d → IsOk (opened_in tables place)
opened_ok {tables} {place} {d} o = open_is_ok tables place d o

-- under another name
pub open_as : {tables : Tables} {place : OpenAt} {purpose : OpenFor} {d e : Descriptor} → e ≡ d → IsOpenFor tables place purpose d → IsOpenFor tables place purpose e
open_as {tables} {place} {purpose} same o = subst (IsOpenFor tables place purpose) (sym same) o

pub reached_as : {p : Geometry} {txn : TxnState} {tables : Tables} {place : OpenAt} {purpose : OpenFor} {d e : Descriptor} {v : Inode} → e ≡ d
    → HasOpened p txn tables place purpose d v → HasOpened p txn tables place purpose e v
reached_as {p} {txn} {tables} {place} {purpose} {v = v} same o = subst (λ (x : Descriptor). HasOpened p txn tables place purpose x v) (sym same) o

pub the_opened : {tables : Tables} {place : OpenAt} {d : Descriptor} → (o : IsOpened tables place d) → the_descriptor o.process (fd_of place) ≡ d
the_opened o = ap (λ (x : Option Descriptor). unwrap_or x no_descriptor) o.at

-- what an open file is for is there: a file or a directory, and a directory isn't written
pub record IsOpenNode (t : Tree) (d : Descriptor) : Type 0 where
  pub node : Node
  pub is_there : node_at t d.ino ≡ Some node
  pub no_link : IsFalse (is_link node.body)
  pub no_writes : IsTrue (is_directory node.body) → IsFalse d.write

pub node_opened : {t : Tree} {fd : ℕ} {d : Descriptor} → IsDescriptor t fd d → IsOpenNode t d
node_opened x = record { node = x.node; is_there = x.is_there; no_link = x.no_link; no_writes = x.no_writes }

fits_at : {p : Geometry} {map : SectorMap} {tables : Tables} (place : OpenAt) (d : Descriptor) (o : IsOpened tables place d) (s : State) → IsStateOf p map tables s → IsOpenNode s.tree d
fits_at (places.Descriptor pid fd) d o s at = node_opened ((state_process at pid o.process o.there).each fd d o.at)
fits_at {tables = tables} (places.Handle handle offset) d o s at =
    let e = handle_entry tables.openings handle offset o.process d o.there o.at in
    let x = (at.is_state.processes at.up).each_opening handle e.0 (ap (λ (t : Tables). get nat_cmp t.openings handle) at.same_tables ∙ e.1) in
    subst (IsOpenNode s.tree) e.2 (record { node = x.node; is_there = x.is_there; no_link = x.no_link; no_writes = x.no_writes })

-- in a state it is there
module _ {p : Geometry} {map : SectorMap} {tables : Tables} {place : OpenAt} {d : Descriptor} (o : IsOpened tables place d) (s : State) (at : IsStateOf p map tables s) where
  pub open_fits : IsOpenNode s.tree d
  open_fits = fits_at place d o s at

  pub open_there : IsThere s.tree d.ino
  open_there = is_there s.tree d.ino open_fits.node open_fits.is_there

  pub open_below : d.ino < p.inodes
  open_below = number_below (state_tree at) d.ino open_there

  pub open_node : node_open (open_scene s o.process) (fd_of place) ≡ open_fits.node
  open_node = ap (λ (x : Descriptor). the_node s.tree x.ino) (the_opened o) ∙ the_node_is s.tree d.ino open_fits.node open_fits.is_there

  pub open_kind : (v : Inode) → v ≡ inode_at p map d.ino → is_directory (node_open (open_scene s o.process) (fd_of place)).body ≡ is_directory_kind v.kind
  open_kind v is =
      ap (λ (n : Node). is_directory n.body) open_node
      ∙ sym (held_kind (state_tree at) d.ino open_fits.node open_fits.is_there)
      ∙ ap (λ (w : Inode). is_directory_kind w.kind) (sym is)

-- the inode of what was reached is used
pub open_used : {p : Geometry} {txn : TxnState} {tables : Tables} {place : OpenAt} {purpose : OpenFor} {d : Descriptor} {v : Inode}
    → HasOpened p txn tables place purpose d v → v.kind ≢ kinds.Free
open_used {d = d} x =
    let at = x.ready.is_state in
    subst (λ (u : Inode). u.kind ≢ kinds.Free) (sym x.inode) (is_used (state_tree at) d.ino (open_there x.is_open.opened x.ready.state at))

-- ---- a row

bad_closed : (purpose : OpenFor) (fd : ℕ) (q : Process) → descriptor q fd ≡ None → bad_for purpose fd q ≡ Some (Failed EBADF)
bad_closed Anything fd q none = ap (λ (o : Option Descriptor). refuse EBADF (not (is_some o))) none
bad_closed Reading fd q none = ap (λ (o : Option Descriptor). refuse EBADF (not (unwrap_or o no_descriptor).read)) none
bad_closed Writing fd q none = ap (λ (o : Option Descriptor). refuse EBADF (not (unwrap_or o no_descriptor).write)) none

bad_open : (purpose : OpenFor) (fd : ℕ) (q : Process) (d : Descriptor) → descriptor q fd ≡ Some d → bad_for purpose fd q ≡ refuse EBADF (not (opens_for purpose d))
bad_open Anything fd q d at = ap (λ (o : Option Descriptor). refuse EBADF (not (is_some o))) at
bad_open Reading fd q d at = ap (λ (o : Option Descriptor). refuse EBADF (not (unwrap_or o no_descriptor).read)) at
bad_open Writing fd q d at = ap (λ (o : Option Descriptor). refuse EBADF (not (unwrap_or o no_descriptor).write)) at

-- there is no such process
absent_firm : (s : State) (pid fd : ℕ) (r : AnyCall) → IsAskedAt (places.Descriptor pid fd) r → get nat_cmp s.processes pid ≡ None → firm_refusal s (event_of r) ≡ Some (Failed ESRCH)
unfolding firm_refusal
absent_firm s pid fd (ByCaller (ByProcess asker) call) asked e = rw (ap (get nat_cmp s.processes) asked ∙ e) refl
absent_firm s pid fd (ByCaller (ByActor v) call) asked e = absurd asked
absent_firm s pid fd (ByHandle handle call) asked e = absurd asked

-- who has just what the handle is for open
doing : (s : State) (handle offset : ℕ) (asked : ℕ) (call : HandleCall) (q : Process) → (asked ≡ handle) × (offset_of_call call ≡ offset) → IsDoer (tables_in s) (places.Handle handle offset) q
    → doer s.openings asked call ≡ q
doing s handle offset asked call q same there =
    ap (λ n. doer_with n (get nat_cmp s.openings asked)) same.1 ∙ ap (λ h. doer_with offset (get nat_cmp s.openings h)) same.0 ∙ sym there

module _ (s : State) (q : Process) (purpose : OpenFor) (demands : Scene → List Demand) (effect : Scene → Effect) where
  firm_at : (place : OpenAt) (r : AnyCall) → IsAskedAt place r → row_asked r ≡ by_descriptor (bad_for purpose (fd_of place)) demands effect → IsDoer (tables_in s) place q
      → firm_refusal s (event_of r) ≡ bad_for purpose (fd_of place) q
  unfolding firm_refusal
  firm_at (places.Descriptor pid fd) (ByCaller (ByProcess asker) call) asked row there =
      early_is s asker q call (ap (get nat_cmp s.processes) asked ∙ there) ∙ ap (early_refusal q) row ∙ or_else-none (bad_for purpose fd q)
  firm_at (places.Descriptor pid fd) (ByCaller (ByActor v) call) asked row there = absurd asked
  firm_at (places.Descriptor pid fd) (ByHandle handle call) asked row there = absurd asked
  firm_at (places.Handle handle offset) (ByCaller who call) asked row there = absurd asked
  firm_at (places.Handle handle offset) (ByHandle other call) asked row there =
      ap (λ (k : Process). early_refusal k (handle_call_row call)) (doing s handle offset other call q asked there)
      ∙ ap (early_refusal q) row ∙ or_else-none (bad_for purpose 0 q)

  late_at : (place : OpenAt) (r : AnyCall) → IsAskedAt place r → row_asked r ≡ by_descriptor (bad_for purpose (fd_of place)) demands effect → IsDoer (tables_in s) place q
      → other_refusal s (event_of r) ≡ first_of (demands (open_scene s q))
  unfolding other_refusal
  late_at (places.Descriptor pid fd) (ByCaller (ByProcess asker) call) asked row there =
      late_is s asker q call (ap (get nat_cmp s.processes) asked ∙ there) ∙ ap (late_refusal s q) row
  late_at (places.Descriptor pid fd) (ByCaller (ByActor v) call) asked row there = absurd asked
  late_at (places.Descriptor pid fd) (ByHandle handle call) asked row there = absurd asked
  late_at (places.Handle handle offset) (ByCaller who call) asked row there = absurd asked
  late_at (places.Handle handle offset) (ByHandle other call) asked row there =
      ap (λ (k : Process). late_refusal s k (handle_call_row call)) (doing s handle offset other call q asked there) ∙ ap (late_refusal s q) row

  after_at : (place : OpenAt) (r : AnyCall) → IsAskedAt place r → row_asked r ≡ by_descriptor (bad_for purpose (fd_of place)) demands effect → IsDoer (tables_in s) place q
      → after s (event_of r) (chosen 0 0 0) ≡ left_of r s (chosen 0 0 0) (effect (open_scene s q))
  unfolding after
  after_at (places.Descriptor pid fd) (ByCaller (ByProcess asker) call) asked row there =
      after_is s asker q call (ap (get nat_cmp s.processes) asked ∙ there) (chosen 0 0 0) ∙ ap (λ (x : Row). after_call s asker x 0 (Some q)) row
  after_at (places.Descriptor pid fd) (ByCaller (ByActor v) call) asked row there = absurd asked
  after_at (places.Descriptor pid fd) (ByHandle handle call) asked row there = absurd asked
  after_at (places.Handle handle offset) (ByCaller who call) asked row there = absurd asked
  after_at (places.Handle handle offset) (ByHandle other call) asked row there =
      ap (λ (k : Process). after_handle_call s other call ((handle_call_row call).effect (scene_of s k (handle_call_row call)) 0)) (doing s handle offset other call q asked there)
      ∙ ap (λ (x : Row). after_handle_call s other call (x.effect (scene_of s q x) 0)) row

handle_at : (s : State) (place : OpenAt) (r : AnyCall) → IsAskedAt place r → HasNewHandle s (event_of r) 0
handle_at s (places.Descriptor pid fd) (ByCaller (ByProcess asker) call) asked = tt
handle_at s (places.Descriptor pid fd) (ByCaller (ByActor v) call) asked = absurd asked
handle_at s (places.Descriptor pid fd) (ByHandle handle call) asked = absurd asked
handle_at s (places.Handle handle offset) (ByCaller who call) asked = absurd asked
handle_at s (places.Handle handle offset) (ByHandle other call) asked = tt

module _ (s : State) (place : OpenAt) (q : Process) {r : AnyCall} {purpose : OpenFor} {demands : Scene → List Demand} {effect : Scene → Effect}
    (is : ActsOn place r purpose demands effect) (there : IsDoer (tables_in s) place q) where
  open_firm : firm_refusal s (event_of r) ≡ bad_for purpose (fd_of place) q
  open_firm = firm_at s q purpose demands effect place r is.asked is.row there

  open_late : other_refusal s (event_of r) ≡ first_of (demands (open_scene s q))
  open_late = late_at s q purpose demands effect place r is.asked is.row there

  open_after : after s (event_of r) (chosen 0 0 0) ≡ left_of r s (chosen 0 0 0) (effect (open_scene s q))
  open_after = after_at s q purpose demands effect place r is.asked is.row there

-- ---- tables

-- a value that stands at a number stands there again
pub entry_again : {X : Type 0} (m : List (ℕ × X)) (k : ℕ) (x : X) → IsMap nat_cmp m → get nat_cmp m k ≡ Some x → with_entry nat_cmp m k x ≡ m
entry_again {X} m k x h there = same_map (with_entry nat_cmp m k x) m (with_entry-IsMap m k x h) h
    (λ q. get-with_entry m k x q ∙ at q (is_eq (nat_cmp q k)) refl)
  where
    at : (q : ℕ) (b : Bool) → is_eq (nat_cmp q k) ≡ b → cond b (Some x) (get nat_cmp m q) ≡ get nat_cmp m q
    at q true t = sym (ap (get nat_cmp m) (tied q k t) ∙ there)
    at q false f = refl

-- another value of which the same is said
any_kept : {X : Type 0} (test : X → Bool) (m : List (ℕ × X)) (k : ℕ) (x y : X) → IsMap nat_cmp m → get nat_cmp m k ≡ Some x → test y ≡ test x
    → list_any (λ (e : ℕ × X). test e.1) (with_entry nat_cmp m k y) ≡ list_any (λ (e : ℕ × X). test e.1) m
any_kept {X} test m k x y h there same =
    any_with_entry test m k y h
    ∙ ap (λ (b : Bool). b || list_any (λ (e : ℕ × X). test e.1) (without nat_cmp m k)) same
    ∙ sym (any_with_entry test m k x h)
    ∙ ap (λ (l : List (ℕ × X)). list_any (λ (e : ℕ × X). test e.1) l) (entry_again m k x h there)

abbrev pub has_open : ℕ → Process → Bool
has_open n q = list_any (λ d. d.1.ino == n) q.descriptors

-- what a process that changes still has open, is still open
pub still_open : (processes : ProcessTable) (pid : ℕ) (q r : Process) → IsMap nat_cmp processes → get nat_cmp processes pid ≡ Some q → (n : ℕ) → has_open n r ≡ has_open n q
    → is_open (with_entry nat_cmp processes pid r) n ≡ is_open processes n
still_open processes pid q r h there n same = any_kept (has_open n) processes pid q r h there same

offset_keeps : (q : Process) (fd offset : ℕ) (d : Descriptor) → IsMap nat_cmp q.descriptors → descriptor q fd ≡ Some d → (n : ℕ)
    → has_open n (with_offset q fd offset) ≡ has_open n q
offset_keeps q fd offset d h at n =
    any_kept (λ (x : Descriptor). x.ino == n) q.descriptors fd d (record (the_descriptor q fd) { offset = offset }) h at
    (ap (λ (x : Option Descriptor). (unwrap_or x no_descriptor).ino == n) at)

pub changed_there : (processes : ProcessTable) (pid : ℕ) (q : Process) (f : Process → Process) → get nat_cmp processes pid ≡ Some q
    → with_changed processes pid f ≡ with_entry nat_cmp processes pid (f q)
changed_there processes pid q f there = ap (changed_where processes pid f) there

-- ---- what is left

abbrev pub kept_of : AnyCall → Openings → Openings
kept_of (ByCaller who call) openings = openings
kept_of (ByHandle handle call) openings = kept_by call handle openings

-- it closes no handle
abbrev pub KeepsHandles : AnyCall → Type 0
KeepsHandles r = (openings : Openings) → kept_of r openings ≡ openings

-- the process is another one then; of who asks by a handle nothing is left but the handles
abbrev pub IsLeft : Tables → OpenAt → AnyCall → Process → Tables → Type 0
IsLeft tables (places.Descriptor pid fd) r q now = now ≡ both (with_entry nat_cmp tables.processes pid q) tables.openings
IsLeft tables (places.Handle handle offset) r q now = now ≡ both tables.processes (kept_of r tables.openings)

-- the process as it was
pub same_left : (tables : Tables) (place : OpenAt) (r : AnyCall) (q : Process) → IsMap nat_cmp tables.processes → IsDoer tables place q → KeepsHandles r → IsLeft tables place r q tables
same_left tables (places.Descriptor pid fd) r q rising there keeps = ap (λ (m : ProcessTable). both m tables.openings) (sym (same_process_stays tables.processes pid q rising there))
same_left tables (places.Handle handle offset) r q rising there keeps = ap (both tables.processes) (sym (keeps tables.openings))

-- its offset has moved
pub moved_left : (tables : Tables) (place : OpenAt) (r : AnyCall) (q : Process) → IsDoer tables place q → KeepsHandles r → (to : ℕ)
    → IsLeft tables place r (with_offset q (fd_of place) to) (moved_in tables place to)
moved_left tables (places.Descriptor pid fd) r q there keeps to = ap (λ (m : ProcessTable). both m tables.openings) (changed_there tables.processes pid q (λ k. with_offset k fd to) there)
moved_left tables (places.Handle handle offset) r q there keeps to = ap (both tables.processes) (sym (keeps tables.openings))

-- and all that was open is open
moved_open : (tables : Tables) (place : OpenAt) (d : Descriptor) → IsOpened tables place d → IsTable tables.processes → (to n : ℕ)
    → is_open (users_of (moved_in tables place to)) n ≡ is_open (users_of tables) n
moved_open tables (places.Descriptor pid fd) d o table to n =
    ap (λ b. has_open n (process_holding tables.openings) || b)
    (ap (λ (m : ProcessTable). is_open m n) (changed_there tables.processes pid o.process (λ k. with_offset k fd to) o.there)
    ∙ still_open tables.processes pid o.process (with_offset o.process fd to) table.rising o.there n
    (offset_keeps o.process fd to d (table.each pid o.process o.there).descriptors.rising o.at n))
moved_open tables (places.Handle handle offset) d o table to n = refl

pub still_moved : {p : Geometry} {map : SectorMap} {tables : Tables} {place : OpenAt} {d : Descriptor} → IsOpened tables place d → IsTable tables.processes → (s : State) → IsStateOf p map tables s → (to n : ℕ)
    → IsTrue (is_open (users_of (tables_in s)) n) → IsTrue (is_open (users_of (moved_in tables place to)) n)
still_moved {tables = tables} {place} {d} o table s at to n was =
    moved_open tables place d o table to n ∙ ap (λ (t : Tables). is_open (users_of t) n) (sym at.same_tables) ∙ was

left_is : {p : Geometry} {map : SectorMap} {tables : Tables} {s : State} (at : IsStateOf p map tables s) (place : OpenAt) (r : AnyCall) → IsAskedAt place r → (now : Tables) (effect : Effect)
    → IsLeft tables place r effect.process now → left_of r s (chosen 0 0 0) effect ≡ leaving s now effect.change effect.reply
left_is {s = s} at (places.Descriptor pid fd) (ByCaller (ByProcess asker) call) asked now effect left =
    ap (λ k. leaving s (both (with_entry nat_cmp s.processes k effect.process) s.openings) effect.change effect.reply) asked
    ∙ ap (λ (t : Tables). leaving s (both (with_entry nat_cmp t.processes pid effect.process) t.openings) effect.change effect.reply) at.same_tables
    ∙ ap (λ (t : Tables). leaving s t effect.change effect.reply) (sym left)
left_is at (places.Descriptor pid fd) (ByCaller (ByActor v) call) asked now effect left = absurd asked
left_is at (places.Descriptor pid fd) (ByHandle handle call) asked now effect left = absurd asked
left_is at (places.Handle handle offset) (ByCaller who call) asked now effect left = absurd asked
left_is {s = s} at (places.Handle handle offset) (ByHandle other call) asked now effect left =
    ap (λ (t : Tables). leaving s (both t.processes (kept_by call other t.openings)) effect.change effect.reply) at.same_tables
    ∙ ap (λ (t : Tables). leaving s t effect.change effect.reply) (sym left)

-- ---- each request that acts so is refused

not_found : (s : State) (place : OpenAt) (purpose : OpenFor) (tables : Tables) → tables_in s ≡ tables → (errno : Errno) → opened_in tables place ≡ Err errno → IsNotOpen s place purpose (Failed errno)
not_found s (places.Descriptor pid fd) purpose tables same errno e = go (get nat_cmp tables.processes pid) refl e
  where
    go : (o : Option Process) → get nat_cmp tables.processes pid ≡ o → answer_of_found (open_at fd) o ≡ Err errno → IsNotOpen s (places.Descriptor pid fd) purpose (Failed errno)
    go None at e =
        let no : ESRCH ≡ errno = cc in
        record { each = λ r demands effect is. absent_firm s pid fd r is.asked (ap (λ (t : Tables). get nat_cmp t.processes pid) same ∙ at) ∙ ap (λ (x : Errno). Some (Failed x)) no }
    go (Some q) at e =
        let none = none_if_err (descriptor q fd) EBADF errno e in
        record {
          each = λ r demands effect is.
              open_firm s (places.Descriptor pid fd) q is (ap (λ (t : Tables). get nat_cmp t.processes pid) same ∙ at) ∙ bad_closed purpose fd q none.0 ∙ ap (λ (x : Errno). Some (Failed x)) (sym none.1);
        }
not_found s (places.Handle handle offset) purpose tables same errno e = go_handle (get nat_cmp tables.openings handle) refl e
  where
    go_handle : (o : Option Descriptor) → get nat_cmp tables.openings handle ≡ o → ok_or (option_map (with_start offset) o) EBADF ≡ Err errno → IsNotOpen s (places.Handle handle offset) purpose (Failed errno)
    go_handle None at e =
        let no : EBADF ≡ errno = cc in
        record {
          each = λ r demands effect is.
              open_firm s (places.Handle handle offset) (process_holding []) is (sym (ap (doer_with offset) (ap (λ (t : Tables). get nat_cmp t.openings handle) same ∙ at)))
              ∙ bad_closed purpose 0 (process_holding []) refl ∙ ap (λ (x : Errno). Some (Failed x)) no;
        }
    go_handle (Some x) at e = absurd (cc)

module _ (s : State) (place : OpenAt) (purpose : OpenFor) {tables : Tables} (same : tables_in s ≡ tables) where
  here_too : (q : Process) → IsDoer tables place q → IsDoer (tables_in s) place q
  here_too q there = subst (λ (t : Tables). IsDoer t place q) (sym same) there

  -- there is no such process, or it has nothing open there, or there is no such handle
  pub closed_open : (errno : Errno) → opened_in tables place ≡ Err errno → IsNotOpen s place purpose (Failed errno)
  closed_open errno e = not_found s place purpose tables same errno e

  module _ {d : Descriptor} (o : IsOpened tables place d) where
    -- what is there isn't open for that
    pub unfit_open : not (opens_for purpose d) ≡ true → IsNotOpen s place purpose (Failed EBADF)
    unfit_open unfit = record {
      each = λ r demands effect is.
          open_firm s place o.process is (here_too o.process o.there) ∙ bad_open purpose (fd_of place) o.process d o.at ∙ ap (refuse EBADF) unfit;
    }

  module _ (old new : DiskState) where
    pub not_open : {e : Refusal} → IsNotOpen s place purpose e → RefusesOpen old new s place purpose e
    not_open refuses = record { each = λ r demands effect is. why.early (refuses.each r demands effect is) }

    -- the inode of what is open can't be read
    pub unread_open : {d : Descriptor} (e : Refusal) → IsOpenFor tables place purpose d → FailsToRead old new e → RefusesOpen old new s place purpose e
    unread_open e w fails = record {
      each = λ r demands effect is.
          why.read_fails (open_firm s place w.opened.process is (here_too w.opened.process w.opened.there) ∙ w.fine) fails.1 fails.0;
    }

pub fit_open : {tables : Tables} {place : OpenAt} {d : Descriptor} (purpose : OpenFor) → IsOpened tables place d → not (opens_for purpose d) ≡ false → IsOpenFor tables place purpose d
fit_open {place = place} {d = d} purpose o fit = record { opened = o; fine = bad_open purpose (fd_of place) o.process d o.at ∙ ap (refuse EBADF) fit }

-- ---- a request that acts so

module _ {place : OpenAt} {request : AnyCall} {purpose : OpenFor} {demands : Scene → List Demand} {effect : Scene → Effect}
    (is : ActsOn place request purpose demands effect) {p : Geometry} where
  -- the refusal of what is open is passed on
  pub closed_refused : {time : ℕ} {txn : TxnState} {tables : Tables} (r : Result Reply Refusal) (e : Refusal) → IsErr r → IsErrAnd r (λ y. y ≡ e)
      → ((s : State) → tables_in s ≡ tables → IsNotOpen s place purpose e) → Performs p time request txn txn tables tables r
  closed_refused r e err and refuses = refused_performs r e err and store_same (λ s at. why.early ((refuses s at.same_tables).each request demands effect is))

  pub open_refused : {time : ℕ} {old new : TxnState} {tables : Tables} (r : Result Reply Refusal) (e : Refusal) → IsErr r → IsErrAnd r (λ y. y ≡ e) → SameStore old new
      → ((s : State) → IsStateOf p old.sectors tables s → RefusesOpen old.disk new.disk s place purpose e) → Performs p time request old new tables tables r
  open_refused r e err and store refuses = refused_performs r e err and store (λ s at. (refuses s at).each request demands effect is)

  module _ {old mid : TxnState} (same : IsUnchanged old mid) {tables : Tables} {d : Descriptor} (w : IsOpenFor tables place purpose d) where
    module _ (s : State) (at : IsStateOf p old.sectors tables s) where
      here : IsDoer (tables_in s) place w.opened.process
      here = here_too s place purpose at.same_tables w.opened.process w.opened.there

      firm : firm_refusal s (event_of request) ≡ None
      firm = open_firm s place w.opened.process is here ∙ w.fine

      late : other_refusal s (event_of request) ≡ first_of (demands (open_scene s w.opened.process))
      late = open_late s place w.opened.process is here

    module _ (new : TxnState) (r : Result Reply Refusal) (e : Refusal) (err : IsErr r) (and : IsErrAnd r (λ y. y ≡ e)) (store : SameStore mid new) where
      -- what it asks of what is open refuses, or a read fails
      pub unread_performs : {time : ℕ} → ((s : State) → IsStateOf p mid.sectors tables s → (first_of (demands (open_scene s w.opened.process)) ≡ Some e) ⊎ FailsToRead mid.disk new.disk e)
          → Performs p time request old new tables tables r
      unread_performs asked = refused_performs r e err and (store_joined same.store store)
          (λ s at. elim (asked s (state_kept same at)) [
            | inl refuses ↦ why.late (firm s at) (late s at ∙ refuses)
            | inr read ↦ why.read_fails (firm s at) (failed_later old.disk mid.disk new.disk same.store.reads.failures read.1) read.0
          ])

      pub asked_performs : {time : ℕ} → ((s : State) → IsStateOf p mid.sectors tables s → first_of (demands (open_scene s w.opened.process)) ≡ Some e) → Performs p time request old new tables tables r
      asked_performs asked = unread_performs (λ s at. inl (asked s at))

      -- or memory is lacking
      pub interrupted_performs : {time : ℕ} → IsTrue (asks_of request) → Interrupts mid.disk new.disk e → Performs p time request old new tables tables r
      interrupted_performs asks way = refused_performs r e err and (store_joined same.store store)
          (λ s at. interrupted_refused old.disk new.disk s request (firm s at) asks e (interrupts_later new.disk same way))

    pub told : {time : ℕ} → KeepsHandles request → (new : TxnState) → IsUnchanged mid new → (reply : Reply)
        → ((s : State) → IsStateOf p mid.sectors tables s → (first_of (demands (open_scene s w.opened.process)) ≡ None) × (effect (open_scene s w.opened.process) ≡ answers (open_scene s w.opened.process) reply))
        → Performs p time request old new tables tables (Ok reply)
    told keeps new later reply says = told_performs (Ok reply) (unchanged_joined same later)
        (λ s at.
        let t = says s (state_kept same at) in
        let rising = subst (λ (t : Tables). IsMap nat_cmp t.processes) at.same_tables at.is_state.pids in
        let left = same_left tables place request w.opened.process rising w.opened.there keeps in (
          firm s at,
          late s at ∙ t.0,
          handle_at s place request is.asked,
          open_after s place w.opened.process is (here s at) ∙ ap (left_of request s (chosen 0 0 0)) t.1
              ∙ left_is at place request is.asked tables (answers (open_scene s w.opened.process) reply) left
              ∙ ap (λ (t : Tables). leaving s t Same reply) (sym at.same_tables),
        ))

    -- or a fault, after it has changed the tree
    pub broken_later : {time : ℕ} {last : TxnState} (new : TxnState) (r : Result Reply Refusal) (e : Refusal) → IsErr r × IsErrAnd r (λ y. y ≡ e) → SameStore mid last → SameStore last new
        → FailsToRead last.disk new.disk e → Performs p time request old new tables tables r
    broken_later {last} new r e err first store fault = unread_performs new r e err.0 err.1 (store_joined first store)
        (λ s at. inr (fault.0, failed_later mid.disk last.disk new.disk first.reads.failures fault.1))

    -- it has changed the tree, then its times have moved, and then the tables have changed
    pub changed_tree : {time : ℕ} (last : TxnState) {new : TxnState} {touches : List (ℕ × Touch)} (now : Tables) → SameStore mid last → last.sectors 0 ≡ mid.sectors 0
        → MovesTimes p time touches last new → (q : Process) (reply : Reply) → IsLeft tables place request q now
        → ((s : State) → IsStateOf p mid.sectors tables s
        → IsChange p last.sectors now s q (demands (open_scene s w.opened.process)) (λ k. effect (open_scene s w.opened.process)) reply touches)
        → Performs p time request old new tables now (Ok reply)
    changed_tree last now store super moved q reply left says = record {
      store = store_joined same.store (store_joined store moved.store);
      super = moved.super ∙ super ∙ same.sectors 0;
      table = tt;
      each = λ s at.
          let t = says s (state_kept same at) in
          record {
            early = firm s at;
            late = late s at ∙ t.met;
            number = 0;
            handle = 0;
            change = t.change;
            effect = open_after s place w.opened.process is (here s at) ∙ ap (left_of request s (chosen 0 0 0)) t.is
                ∙ left_is at place request is.asked now (record { change = t.change; process = q; reply = reply }) left;
            new_number = t.new_number;
            new_handle = handle_at s place request is.asked;
            holds = times_moved at t moved;
          };
    }

    -- its offset alone has moved
    pub changed_one : {time : ℕ} → KeepsHandles request → (new : TxnState) (now : Tables) → IsUnchanged mid new → IsTable tables.processes → (to : ℕ) (reply : Reply) → now ≡ moved_in tables place to
        → ((s : State) → IsStateOf p mid.sectors tables s
        → (first_of (demands (open_scene s w.opened.process)) ≡ None) × (effect (open_scene s w.opened.process) ≡ with_process (with_offset w.opened.process (fd_of place) to) reply))
        → Performs p time request old new tables now (Ok reply)
    changed_one {time} keeps new now later table to reply is_now says =
        subst (λ (t : Tables). Performs p time request old new tables t (Ok reply)) (sym is_now)
        (changed_tree new (moved_in tables place to) later.store (later.sectors 0) (none_moved new) (with_offset w.opened.process (fd_of place) to) reply
        (moved_left tables place request w.opened.process w.opened.there keeps to)
        (λ s at.
        let t = says s at in
        record {
          met = t.0;
          number = 0;
          change = Same;
          is = t.1;
          new_number = tt;
          times = refl;
          holds = subst (λ (x : Tree). HoldsAll p new.sectors (placed x))
              (sym (open_stays s.room s.tree s.processes s.openings (users_of (moved_in tables place to)) at.is_state.tree (at.is_state.processes at.up) (still_moved w.opened table s at to)))
              (subst (λ m. HoldsAll p m (placed s.tree)) (sym (map_kept later)) at.holds);
        }))

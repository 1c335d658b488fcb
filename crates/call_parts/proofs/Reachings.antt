-- Exits of a call that reaches what it acts on by one path.
--     absent_walk, unchecked_walk, walk_denied        its process, its arguments, its path or its walk refuse
--     walk_found        its walk finds something
--     walk_reaches, unreached        nothing is there
--     walk_refused, reach_refused        that is passed on
--     reach_owns, unowned, owned_refused        it isn't the caller's
--     asked_refused, asked_broken, broken_later        what it asks of what was found refuses, or the disk fails
--     told, changed, process_changed        it answers, or has changed the tree, or its process alone
--     ready_kept, walk_kept, inode_later, walked_below, reached_below, reached_there, reached_used, reached_access, reached_body        what is known then
use Rattle.std.specs.Prelude.{◌≡◌, ◌≢◌, ℕ, ◌<◌, ◌==◌, Bool, false, List, ◌∷◌, ◌||◌, None, Some, IsTrue, IsFalse, Result, Ok, Err, IsErr, IsErrAnd}
use Rattle.std.specs.List.{list_any}
use Rattle.std.specs.Ordering.{nat_cmp}
use Rattle.std.proofs.Common.{sym, ap, subst, ◌∙◌, inr}
use Rattle.sector_disk.specs.Disk.{DiskState}
use Rattle.sector_disk.proofs.Moments.{failed_later}
use Rattle.fs_cred.specs.declared.errno.Errno.{Errno}
use Rattle.fs_cred.specs.declared.errno.Errno.TheVariants.{ESRCH}
use Rattle.fs_cred.specs.declared.refusal.Refusal.{Refusal}
use Rattle.fs_cred.specs.declared.refusal.Refusal.TheVariants.{Failed}
use Rattle.fs_layout.specs.declared.inode.Inode.{Inode}
use Rattle.fs_layout.specs.declared.inode.Kind.TheVariants as kinds
use Rattle.fs_layout.specs.declared.geometry.Geometry.{Geometry}
use Rattle.fs_layout.specs.Bytes.{SectorMap, IsBytes}
use Rattle.fs_layout.specs.Maps.{with_entry}
use Rattle.sector_txn.specs.Sectors.{TxnState, SameStore, IsUnchanged}
use Rattle.sector_txn.proofs.TransactionRuns.{store_joined}
use Rattle.bit_alloc.proofs.Transactions.{spare_unchanged, unchanged_nothing}
use Rattle.block_map.proofs.Runs.{unchanged_joined}
use Rattle.fs_model.specs.declared.call.Call.{Call}
use Rattle.fs_model.specs.declared.reply.Reply.{Reply}
use Rattle.fs_model.specs.declared.walk.Form.{Form}
use Rattle.fs_model.specs.declared.walk.Form.TheVariants.{Follow}
use Rattle.fs_model.specs.declared.walk.Found.{Found}
use Rattle.fs_model.specs.declared.touch.Touch.{Touch}
use Rattle.fs_model.specs.TreeChanges.{Same}
use Rattle.fs_model.specs.Demands.{Demand, or_else, first_of}
use Rattle.fs_model.specs.Processes.{Process, Descriptor, is_open}
use Rattle.call_parts.specs.BothTables.{Tables, both, tables_in, users_of}
use Rattle.fs_model.specs.Scenes.{Scene, Effect, answers, with_process, must_be_there, own_at_end}
use Rattle.fs_model.specs.Stands.{HoldsAll, placed}
use Rattle.fs_model.specs.States.{State}
use Rattle.fs_model.specs.Steps.{after_effect, firm_refusal, other_refusal}
use Rattle.fs_model.specs.Trees.{Tree}
use Rattle.fs_model.proofs.Unchanged.{open_stays}
use Rattle.path_walk.specs.Answers.{refused_or, FailsToRead, IsAnswered}
use Rattle.path_walk.specs.HeldTrees.{IsThere, HasAccess}
use Rattle.path_walk.proofs.HeldNodes.{number_below}
use Rattle.path_walk.proofs.Kept.{kept, kept_back, sound_kept, same_map, interrupts_later}
use Rattle.call_parts.specs.Asked.{own_asked}
use Rattle.call_parts.specs.Given.{HasBody}
use Rattle.call_parts.specs.Paths.{scene_at, walk_by, HasFound}
use Rattle.call_parts.specs.Performing.{IsStateOf, MayPerform, IsRefused, Performs, chosen}
use Rattle.call_parts.specs.Performing as why
use Rattle.call_parts.specs.Telling.{Checked, checked}
use Rattle.call_parts.specs.Reaching.{WalksPath, RefusesWalk, RefusesReach, RefusesOwned, HasWalked, IsInodeFound, HasReached}
use Rattle.call_parts.proofs.ByDescriptor.{still_open}
use Rattle.call_parts.proofs.ByPath.{refused_performs}
use Rattle.call_parts.specs.Callers.{Who, ByProcess, ByCaller, is_told, told_by, leaving, event, IsJudgedAs, IsAbsent, path_asked, left_by}
use Rattle.call_parts.proofs.Calling.{absent_refused, no_new_handle, quiet_told, refused_err, met_ok, path_firm, resolve_refused, found_firm, found_late, found_after, found_told, found_there, left_same, answered_refused, answered_later, first_asked, state_kept, state_tree, same_caller, resolved, told_performs}
use Rattle.call_parts.specs.Times.{MovesTimes}
use Rattle.call_parts.proofs.Changed.{IsChange, times_moved}
use Rattle.call_parts.proofs.Followed.{IsAccessed, followed_access, access_held, body_found_held}
use Rattle.call_parts.proofs.Ownership.{own_refused}
use Rattle.call_parts.proofs.Shown.{is_used}

-- reads leave a transaction in which calls may be performed
pub ready_kept : {p : Geometry} {old new : TxnState} {tables : Tables} → IsUnchanged old new → MayPerform p old tables → MayPerform p new tables
ready_kept {p} {old} {new} same ready = record {
  sound = sound_kept same ready.sound;
  spare = spare_unchanged p 47 old new ready.spare same;
  state = ready.state;
  is_state = state_kept same ready.is_state;
}

pub inode_later : {p : Geometry} {mid new : TxnState} {f : Found} {n : ℕ} {v : Inode} → IsUnchanged mid new → IsInodeFound p mid.sectors f n v → IsInodeFound p new.sectors f n v
inode_later {p} {mid} {new} {f} {n} {v} same i = kept (λ (m : SectorMap). IsInodeFound p m f n v) same i

-- ---- each call that walks so is refused

-- there is no such process
pub absent_walk : {p : Geometry} {map : SectorMap} {tables : Tables} {s : State} → IsStateOf p map tables s → (old new : DiskState) (who : Who) (checks : Checked) (links : Bool) (form : Form) (path : List ℕ)
    (errno : Errno) → (errno ≡ ESRCH) × IsAbsent tables.processes who → RefusesWalk old new s who checks links form path (Failed errno)
absent_walk at old new who checks links form path errno none = record { each = λ call demands effect w. absent_refused at old new who call errno none }

module _ (old new : DiskState) (s : State) (who : Who) (q : Process) (there : IsJudgedAs s.processes who q) (checks : Checked) (links : Bool) (form : Form) (path : List ℕ) (e : Refusal) where
  -- an argument is refused
  pub unchecked_walk : checks ≡ Err e → RefusesWalk old new s who checks links form path e
  unchecked_walk is = record {
    each = λ call demands effect w.
        why.early (path_firm s q call links form path w.arguments demands effect w.row who there w.may
        ∙ ap (λ (d : Demand). or_else d (first_of (path_asked who path))) (refused_err {A = Unit {0}} (first_of w.arguments) tt e (sym w.are_checked ∙ is)));
  }

  -- or the path, or its walk
  unwalked : checks ≡ Ok tt → ((x : Refusal) → first_of (path_asked who path) ≡ Some x → e ≡ x)
      → (first_of (path_asked who path) ≡ None → IsAnswered old new (walk_by s who q links form path) (Err e)) → RefusesWalk old new s who checks links form path e
  unwalked fine path_is walk_is = record {
    each = λ call demands effect w.
        resolve_refused s who q call links form path w.arguments demands effect w.row (met_ok {A = Unit {0}} (first_of w.arguments) tt tt (sym w.are_checked ∙ fine)).0
        w.may there old new e w.asks path_is walk_is;
  }

module _ {p : Geometry} (old new : TxnState) {tables : Tables} {who : Who} (q : Process) {checks : Checked} (there : IsJudgedAs tables.processes who q) (fine : checks ≡ Ok tt)
    (links : Bool) (form : Form) (path : List ℕ) where
  pub walk_denied : (e : Refusal) → ((x : Refusal) → first_of (path_asked who path) ≡ Some x → e ≡ x)
      → (first_of (path_asked who path) ≡ None → (s : State) → IsStateOf p old.sectors tables s → IsAnswered old.disk new.disk (walk_by s who q links form path) (Err e))
      → (s : State) → IsStateOf p old.sectors tables s → RefusesWalk old.disk new.disk s who checks links form path e
  walk_denied e unfit each s at =
      unwalked old.disk new.disk s who q (same_caller at who q there) checks links form path e fine unfit (λ fit. each fit s at)

  pub walk_found : {f : Found} → MayPerform p old tables → IsBytes path → IsUnchanged old new → first_of (path_asked who path) ≡ None
      → ((s : State) → IsStateOf p old.sectors tables s → IsAnswered old.disk new.disk (walk_by s who q links form path) (Ok f))
      → HasWalked p new tables who checks links form path q f
  walk_found {f} ready bytes same fit each = record {
    ready = ready_kept same ready;
    there = there;
    fine = fine;
    bytes = bytes;
    found = λ s at.
        let before = kept_back (λ (m : SectorMap). IsStateOf p m tables s) same at in
        resolved old.disk new.disk f (same_caller before who q there) fit (each s before);
  }

-- nothing is there
pub walk_reaches : {old new : DiskState} {s : State} {who : Who} {checks : Checked} {links : Bool} {form : Form} {path : List ℕ} {e : Refusal}
    → RefusesWalk old new s who checks links form path e → RefusesReach old new s who checks links form path e
walk_reaches refuses = record { each = λ call rest effect w. refuses.each call (λ x. must_be_there x.first ∷ rest x) effect w }

-- ---- a call that walks so

module _ {who : Who} {call : Call} {checks : Checked} {links : Bool} {form : Form} {path : List ℕ} {demands : Scene → List Demand} {effect : Scene → ℕ → Effect}
    (is : WalksPath who call checks links form path demands effect) {p : Geometry} where
  -- the refusal of the walk is passed on
  pub walk_refused : {time : ℕ} {old new : TxnState} {tables : Tables} (r : Result Reply Refusal) (e : Refusal) → IsErr r → IsErrAnd r (λ y. y ≡ e) → IsUnchanged old new
      → ((s : State) → IsStateOf p old.sectors tables s → RefusesWalk old.disk new.disk s who checks links form path e) → Performs p time (ByCaller who call) old new tables tables r
  walk_refused r e err and same refuses = refused_performs r e err and same.store (λ s at. (refuses s at).each call demands effect is)

  module _ {old mid : TxnState} (same : IsUnchanged old mid) {tables : Tables} {q : Process} {f : Found} (w : HasWalked p mid tables who checks links form path q f) where
    met : first_of is.arguments ≡ None
    met = (met_ok {A = Unit {0}} (first_of is.arguments) tt tt (sym is.are_checked ∙ w.fine)).0

    module _ (s : State) (at : IsStateOf p old.sectors tables s) where
      has : HasFound s who q links form path f
      has = w.found s (state_kept same at)

      here : IsJudgedAs s.processes who q
      here = same_caller at who q w.there

      pub firm : firm_refusal s (event who call) ≡ None
      firm = found_firm s who q call links form path is.arguments demands effect is.row met is.may here f has

      pub late : other_refusal s (event who call) ≡ first_of (demands (scene_at s q f))
      late = found_late s who q call links form path is.arguments demands effect is.row met is.may here f has

      refused_since : (new : DiskState) (e : Refusal) {A : Type 0} (x : A)
          → IsAnswered mid.disk new (refused_or (first_of (demands (scene_at s q f))) (Ok x)) (Err e) → IsRefused old.disk new s (ByCaller who call) e
      refused_since new e x h =
          answered_refused old.disk new s (ByCaller who call) firm is.asks e (first_of (demands (scene_at s q f))) x late (answered_later new same h)

    -- what it asks of what was found refuses
    pub asked_refused : {time : ℕ} (new : TxnState) (r : Result Reply Refusal) (e : Refusal) → IsErr r → IsErrAnd r (λ y. y ≡ e) → SameStore mid new → {A : Type 0} (x : A)
        → ((s : State) → HasFound s who q links form path f → IsStateOf p mid.sectors tables s
        → IsAnswered mid.disk new.disk (refused_or (first_of (demands (scene_at s q f))) (Ok x)) (Err e))
        → Performs p time (ByCaller who call) old new tables tables r
    asked_refused new r e err and store x asked = refused_performs r e err and (store_joined same.store store)
        (λ s at. refused_since s at new.disk e x (asked s (has s at) (state_kept same at)))

    -- or a fault, in what it does after that
    pub asked_broken : {time : ℕ} {last : TxnState} (new : TxnState) (r : Result Reply Refusal) (e : Refusal) → IsErr r × IsErrAnd r (λ y. y ≡ e) → IsUnchanged mid last → SameStore last new
        → FailsToRead last.disk new.disk e → Performs p time (ByCaller who call) old new tables tables r
    asked_broken {last} new r e err later store fault =
        asked_refused new r e err.0 err.1 (store_joined later.store store) {A = ℕ} 0 (λ s has at. inr (interrupts_later new.disk later (inr fault)))

    -- or a fault, after the call has changed the tree
    pub broken_later : {time : ℕ} {last : TxnState} (new : TxnState) (r : Result Reply Refusal) (e : Refusal) → IsErr r × IsErrAnd r (λ y. y ≡ e) → SameStore mid last → SameStore last new
        → FailsToRead last.disk new.disk e → Performs p time (ByCaller who call) old new tables tables r
    broken_later {last} new r e err first store fault = asked_refused new r e err.0 err.1 (store_joined first store) {A = ℕ} 0
        (λ s has at. inr (inr (fault.0, failed_later mid.disk last.disk new.disk first.reads.failures fault.1)))

    -- the call answers
    pub told : {time : ℕ} → IsFalse (is_told call) → (new : TxnState) → IsUnchanged mid new → (reply : Reply)
        → ((s : State) → HasFound s who q links form path f → IsStateOf p mid.sectors tables s
        → (first_of (demands (scene_at s q f)) ≡ None) × (effect (scene_at s q f) 0 ≡ answers (scene_at s q f) reply))
        → Performs p time (ByCaller who call) old new tables tables (Ok reply)
    told quiet new later reply says = told_performs (Ok reply) (unchanged_joined same later)
        (λ s at.
        let t = says s (has s at) (state_kept same at) in (
          firm s at,
          late s at ∙ t.0,
          no_new_handle s who call is.opens,
          found_told s who q call links form path is.arguments demands effect is.row met is.may (here s at) f (has s at) reply is.opens quiet at t.1,
        ))

    -- the call has changed the tree, and then its times have moved; the caller is told so, or also a number
    pub changed_told : {time : ℕ} (last : TxnState) {new : TxnState} {touches : List (ℕ × Touch)} → SameStore mid last → last.sectors 0 ≡ mid.sectors 0 → MovesTimes p time touches last new → (reply answer : Reply)
        → ((s : State) → HasFound s who q links form path f → IsStateOf p mid.sectors tables s
        → (c : IsChange p last.sectors tables s q (demands (scene_at s q f)) (effect (scene_at s q f)) reply touches) × (told_by who call c.number reply ≡ answer))
        → Performs p time (ByCaller who call) old new tables tables (Ok answer)
    changed_told last store super moved reply answer changes = record {
      store = store_joined same.store (store_joined store moved.store);
      super = moved.super ∙ super ∙ same.sectors 0;
      table = tt;
      each = λ s at.
          let both = changes s (has s at) (state_kept same at) in
          let c = both.0 in
          record {
            early = firm s at;
            late = late s at ∙ c.met;
            number = c.number;
            handle = 0;
            change = c.change;
            effect = found_after s who q call links form path is.arguments demands effect is.row met is.may (here s at) f (has s at) c.number 0
                ∙ ap (left_by who s call (chosen c.number 0 0)) c.is ∙ left_same at who q (here s at) call is.opens (chosen c.number 0 0) c.change reply
                ∙ ap (leaving s tables c.change) both.1;
            new_number = c.new_number;
            new_handle = no_new_handle s who call is.opens;
            holds = times_moved at c moved;
          };
    }

    pub changed : {time : ℕ} → IsFalse (is_told call) → (last : TxnState) {new : TxnState} {touches : List (ℕ × Touch)} → SameStore mid last → last.sectors 0 ≡ mid.sectors 0 → MovesTimes p time touches last new → (reply : Reply)
        → ((s : State) → HasFound s who q links form path f → IsStateOf p mid.sectors tables s
        → IsChange p last.sectors tables s q (demands (scene_at s q f)) (effect (scene_at s q f)) reply touches)
        → Performs p time (ByCaller who call) old new tables tables (Ok reply)
    changed quiet last store super moved reply changes = changed_told last store super moved reply reply
        (λ s has at. let c = changes s has at in (c, quiet_told who call quiet c.number reply))

-- the process of the call alone has changed, and what it has open stays
module _ {pid : ℕ} {call : Call} {checks : Checked} {links : Bool} {form : Form} {path : List ℕ} {demands : Scene → List Demand} {effect : Scene → ℕ → Effect}
    (is : WalksPath (ByProcess pid) call checks links form path demands effect) {p : Geometry} {old mid : TxnState} (same : IsUnchanged old mid) {tables : Tables} {q : Process} {f : Found}
    (w : HasWalked p mid tables (ByProcess pid) checks links form path q f) where
  pub process_changed : {time : ℕ} (new : TxnState) (now : Tables) → IsUnchanged mid new → (r : Process) (reply : Reply)
      → now ≡ both (with_entry nat_cmp tables.processes pid r) tables.openings → r.descriptors ≡ q.descriptors
      → ((s : State) → HasFound s (ByProcess pid) q links form path f → IsStateOf p mid.sectors tables s
      → (first_of (demands (scene_at s q f)) ≡ None) × (effect (scene_at s q f) 0 ≡ with_process r reply))
      → Performs p time (ByCaller (ByProcess pid) call) old new tables now (Ok reply)
  process_changed new now later r reply is_now descriptors says =
      let whole = unchanged_joined same later in
      record {
        store = whole.store;
        super = whole.sectors 0;
        table = tt;
        each = λ s at.
            let has = w.found s (state_kept same at) in
            let here = same_caller at (ByProcess pid) q w.there in
            let t = says s has (state_kept same at) in
            let of_state : both (with_entry nat_cmp s.processes pid r) s.openings ≡ now =
            ap (λ (d : Tables). both (with_entry nat_cmp d.processes pid r) d.openings) at.same_tables ∙ sym is_now in
            let still : (n : ℕ) → IsTrue (is_open (users_of (tables_in s)) n) → IsTrue (is_open (users_of now) n) = λ n was.
            ap (λ (d : Tables). is_open (users_of d) n) (sym of_state)
            ∙ ap (λ b. list_any (λ (d : ℕ × Descriptor). d.1.ino == n) s.openings || b)
            (still_open s.processes pid q r at.is_state.pids here n (ap (λ (l : List (ℕ × Descriptor)). list_any (λ (d : ℕ × Descriptor). d.1.ino == n) l) descriptors)) ∙ was in
            record {
              early = firm is same w s at;
              late = late is same w s at ∙ t.0;
              number = 0;
              handle = 0;
              change = Same;
              effect = found_after s (ByProcess pid) q call links form path is.arguments demands effect is.row (met is same w) is.may here f has 0 0
                  ∙ ap (after_effect s pid) t.1
                  ∙ ap (λ (d : Tables). leaving s d Same reply) of_state;
              new_number = tt;
              new_handle = tt;
              holds = subst (λ (x : Tree). HoldsAll p new.sectors (placed x))
                  (sym (open_stays s.room s.tree s.processes s.openings (users_of now) at.is_state.tree (at.is_state.processes at.up) still))
                  (subst (λ (m : SectorMap). HoldsAll p m (placed s.tree)) (sym (same_map whole)) at.holds);
            };
      }

-- ---- a call that asks that something is there

module _ {who : Who} {call : Call} {checks : Checked} {links : Bool} {form : Form} {path : List ℕ} {rest : Scene → List Demand} {effect : Scene → ℕ → Effect}
    (is : WalksPath who call checks links form path (λ x. must_be_there x.first ∷ rest x) effect) {p : Geometry} where
  pub reach_refused : {time : ℕ} {old new : TxnState} {tables : Tables} (r : Result Reply Refusal) (e : Refusal) → IsErr r → IsErrAnd r (λ y. y ≡ e) → IsUnchanged old new
      → ((s : State) → IsStateOf p old.sectors tables s → RefusesReach old.disk new.disk s who checks links form path e) → Performs p time (ByCaller who call) old new tables tables r
  reach_refused r e err and same refuses = refused_performs r e err and same.store (λ s at. (refuses s at).each call rest effect is)

module _ {p : Geometry} {tables : Tables} {who : Who} {checks : Checked} {links : Bool} {form : Form} {path : List ℕ} {q : Process} {f : Found} where
  -- nothing is there, or a read fails
  pub unreached : {old mid : TxnState} (new : DiskState) (e : Refusal) {A : Type 0} (x : A) → IsUnchanged old mid → HasWalked p mid tables who checks links form path q f
      → IsAnswered mid.disk new (refused_or (must_be_there f) (Ok x)) (Err e)
      → (s : State) → IsStateOf p old.sectors tables s → RefusesReach old.disk new s who checks links form path e
  unreached {old} {mid} new e x same w h s at = record {
    each = λ call rest effect is.
        refused_since is same w s at new e x (first_asked (must_be_there f) (rest (scene_at s q f)) x x e mid.disk new h);
  }

  -- ---- what is known once it was reached

  pub walk_kept : {mid new : TxnState} → IsUnchanged mid new → HasWalked p mid tables who checks links form path q f → HasWalked p new tables who checks links form path q f
  walk_kept {mid} {new} same w = record {
    ready = ready_kept same w.ready;
    there = w.there;
    fine = w.fine;
    bytes = w.bytes;
    found = λ s at. w.found s (kept_back (λ (m : SectorMap). IsStateOf p m tables s) same at);
  }

  pub walked_below : {mid : TxnState} → HasWalked p mid tables who checks links form path q f → (n : ℕ) → f.ino ≡ Some n → n < p.inodes
  walked_below w n is = let at = w.ready.is_state in number_below (state_tree at) n (found_there n at (w.found w.ready.state at) is)

  module _ {mid : TxnState} {n : ℕ} {v : Inode} (r : HasReached p mid tables who checks links form path q f n v) where
    pub reached_below : n < p.inodes
    reached_below = walked_below r.walked n r.inode.some

    -- what was found is there
    pub reached_there : (s : State) → IsStateOf p mid.sectors tables s → IsThere s.tree n
    reached_there s at = found_there n at (r.walked.found s at) r.inode.some

    pub reached_used : v.kind ≢ kinds.Free
    reached_used =
        let at = r.walked.ready.is_state in
        subst (λ (u : Inode). u.kind ≢ kinds.Free) (sym r.inode.inode) (is_used (state_tree at) n (reached_there r.walked.ready.state at))

-- ---- a call that asks that it is the caller's

module _ {who : Who} {call : Call} {checks : Checked} {links : Bool} {form : Form} {path : List ℕ} {rest : Scene → List Demand} {effect : Scene → ℕ → Effect}
    (is : WalksPath who call checks links form path (λ x. must_be_there x.first ∷ own_at_end x ∷ rest x) effect) {p : Geometry} where
  pub owned_refused : {time : ℕ} {old new : TxnState} {tables : Tables} (r : Result Reply Refusal) (e : Refusal) → IsErr r → IsErrAnd r (λ y. y ≡ e) → IsUnchanged old new
      → ((s : State) → IsStateOf p old.sectors tables s → RefusesOwned old.disk new.disk s who checks links form path e) → Performs p time (ByCaller who call) old new tables tables r
  owned_refused r e err and same refuses = refused_performs r e err and same.store (λ s at. (refuses s at).each call rest effect is)

pub reach_owns : {old new : DiskState} {s : State} {who : Who} {checks : Checked} {links : Bool} {form : Form} {path : List ℕ} {e : Refusal}
    → RefusesReach old new s who checks links form path e → RefusesOwned old new s who checks links form path e
reach_owns refuses = record { each = λ call rest effect w. refuses.each call (λ x. own_at_end x ∷ rest x) effect w }

-- what was found isn't the caller's
pub unowned : {p : Geometry} {old mid : TxnState} {tables : Tables} {who : Who} {checks : Checked} {links : Bool} {form : Form} {path : List ℕ} {q : Process} {f : Found} {n : ℕ} {v : Inode}
    (e : Refusal) → IsUnchanged old mid → HasReached p mid tables who checks links form path q f n v → checked (own_asked q.cred v.uid f.step) ≡ Err e
    → (s : State) → IsStateOf p old.sectors tables s → RefusesOwned old.disk mid.disk s who checks links form path e
unowned {p} {old} {mid} {tables} {who} {checks} {form} {path} {q} {f} {n} {v} e same r refuses s at = record {
  each = λ call rest effect is.
      let later = state_kept same at in
      refused_since is same r.walked s at mid.disk e {A = Unit {0}} tt
      (own_refused later (r.walked.found s later) r.inode {A = Unit {0}} (rest (scene_at s q f)) tt e mid.disk mid.disk refuses);
}

-- what a link at the end was followed to, as access to it is decided
module _ {p : Geometry} {tables : Tables} {who : Who} {checks : Checked} {path : List ℕ} {q : Process} {f : Found} {mid : TxnState} {n : ℕ} {v : Inode}
    (r : HasReached p mid tables who checks false Follow path q f n v) where
  abbrev pub accessed : IsAccessed r.walked.ready.state.tree n
  accessed = let at = r.walked.ready.is_state in followed_access n at (r.walked.found r.walked.ready.state at) r.inode.some

  pub reached_access : HasAccess mid.sectors v accessed.access
  reached_access = let at = r.walked.ready.is_state in access_held {mid = mid} {new = mid} at (r.walked.found r.walked.ready.state at) r.inode unchanged_nothing

  pub reached_body : HasBody p.version mid.sectors v accessed.node.body
  reached_body = let at = r.walked.ready.is_state in body_found_held {mid = mid} {new = mid} at (r.walked.found r.walked.ready.state at) r.inode unchanged_nothing

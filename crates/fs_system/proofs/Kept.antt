-- One event in a transaction that is begun on a store: its changes are kept, or dropped.
use Rattle.call_parts.specs.BothTables.{Tables}
use Rattle.std.proofs.Common.{◌≡◌, ◌≤◌, true, false, Result, Ok, Err, IsTrue, inl, inr, refl, sym, ap, subst, ◌∙◌, arith}
use Rattle.std.specs.Prelude.{IsFalse}
use Rattle.sector_disk.specs.Disk.{DiskState, Image, IsImage, OnlyReads, HasCause, HasFailed, HasFailedToWrite}
use Rattle.fs_layout.specs.declared.geometry.Geometry.{Geometry}
use Rattle.fs_cred.specs.declared.errno.Errno.TheVariants.{EIO}
use Rattle.fs_cred.specs.declared.refusal.Refusal.TheVariants.{Failed}
use Rattle.redo_journal.specs.Meaning.{SameMap}
use Rattle.fs_layout.specs.Header.{header_of, max_delta}
use Rattle.redo_journal.proofs.Meaning.{same_back, same_chain}
use Rattle.sector_txn.specs.Images.{LeavesOneOf}
use Rattle.sector_txn.specs.Sectors.{SameStore}
use Rattle.sector_txn.specs.Stores.{StoreView, TxnView, present, map_before, map_now, txn_state}
use Rattle.sector_txn.proofs.Images.{maps_same}
use Rattle.fs_model.specs.declared.event.Event.{Event}
use Rattle.fs_model.specs.declared.reply.Reply.{Reply}
use Rattle.fs_model.specs.declared.reply.Reply.TheVariants.{Refused}
use Rattle.fs_model.specs.States.{State}
use Rattle.fs_model.specs.Steps.{Step}
use Rattle.fs_model.specs.Stops.{makes_stable, is_io_error}
use Rattle.call_parts.specs.Performing.{MayPerform, IsStateOf}
use Rattle.fs_system.specs.Doing.{Does}
use Rattle.fs_system.specs.declared.base.Base.TheVariants.{Running, Halted}
use Rattle.fs_system.specs.Running.{IsRunning}
use Rattle.fs_system.specs.Seen.{IsOn}
use Rattle.fs_system.proofs.Endings.{IsPerformed, done_state}
use Rattle.fs_system.proofs.EventEnds.{begins_ready, event_runs, does_event, does_halt}
use Rattle.fs_system.proofs.Ends.{does_reading, running_same}

-- ---- what is so of the disk since the transaction began

module _ {D : Type 0} (state : D → DiskState) (store : StoreView D) (begun : TxnView D) (disk : begun.disk ≡ store.disk)
    (before : SameMap (map_before state begun) (present state store)) (last : TxnView D) (same : SameStore (txn_state state begun) (txn_state state last)) where
  pub only_read : OnlyReads (state store.disk) (state last.disk)
  only_read = subst (λ k. OnlyReads (state k) (state last.disk)) disk same.reads

  -- what a commit leaves, said of the store's map
  pub leaves_from : (new : DiskState) → LeavesOneOf (map_before state last) (map_now state last) (state last.disk) new
      → LeavesOneOf (present state store) (map_now state last) (state last.disk) new
  leaves_from new images = maps_same (λ n part. same.before n ∙ before n part) (λ n part. refl) images

  -- where nothing is kept, what was so meanwhile is so from store to store
  pub of_stores : (now : D) → now ≡ last.disk → (P : DiskState → DiskState → Type 0) → P (state begun.disk) (state last.disk) → P (state store.disk) (state now)
  of_stores now dropped P x = subst (λ k. P (state store.disk) (state k)) (sym dropped) (subst (λ k. P (state k) (state last.disk)) disk x)

  pub reads_alone : (now : D) → now ≡ last.disk → OnlyReads (state store.disk) (state now)
  reads_alone now dropped = of_stores now dropped OnlyReads same.reads

-- where a call after mere reads has a cause, it has one from before them on
pub cause_from : {T E : Type 0} {old mid new : DiskState} (result : Result T E) → OnlyReads old mid → HasCause mid new result → HasCause old new result
cause_from (Ok x) reads cause = let a = reads.failures in let b = cause.later in record { later = omega (arith, a, b); fault = tt }
cause_from (Err e) reads cause =
    let a = reads.failures in
    let b = cause.later in
    record {
      later = omega (arith, a, b);
      fault = elim cause.fault [
        | inl more ↦ inl (omega (arith, a, more))
        | inr full ↦ inr full
      ];
    }

-- ---- events

module _ {D : Type 0} (state : D → DiskState) (p : Geometry) (store : StoreView D) (tables : Tables) (begun : TxnView D) (disk : begun.disk ≡ store.disk)
    (map : SameMap (map_now state begun) (present state store)) (before : SameMap (map_before state begun) (present state store)) where
  -- the event may be performed
  pub begins : (s : State) → IsRunning (state store.disk).size p (present state store) tables s
      → (txn_state state begun).header ≡ header_of ((txn_state state begun).sectors 0) → (txn_state state begun).room ≡ max_delta (txn_state state begun).header
      → MayPerform p (txn_state state begun) tables
  begins s r header room =
      begins_ready p (txn_state state begun) tables s header room
      (running_same (state store.disk).size (state begun.disk).size p (present state store) (map_now state begun) tables tables s (ap (λ d. (state d).size) disk) map refl r)

  -- the map is of the state that the store was in
  pub state_begun : (s : State) → IsRunning (state store.disk).size p (present state store) tables s → IsStateOf p (map_now state begun) tables s
  state_begun s r =
      (running_same (state store.disk).size (state store.disk).size p (present state store) (map_now state begun) tables tables s refl map refl r).state_of

  module _ (last : TxnView D) (same : SameStore (txn_state state begun) (txn_state state last)) where
    -- the transaction began with the store's map
    before_is_store : SameMap (map_before state last) (present state store)
    before_is_store n part = same.before n ∙ before n part

    pub before_is_begun : SameMap (map_before state last) (map_now state begun)
    before_is_begun = same_chain (map_before state last) (present state store) (map_now state begun) before_is_store (same_back (map_now state begun) (present state store) map)

    -- one was performed
    module _ (s : State) (r : IsRunning (state store.disk).size p (present state store) tables s)
        (only_now : (image : Image) → (state store.disk).left_since (state store.disk).moment image → IsImage (state store.disk) image)
        (super : map_now state last 0 ≡ map_now state begun 0) (now : Tables) (e : Event) (reply : Reply)
        (performed : IsStateOf p (map_now state begun) tables s → IsPerformed p (map_now state last) now s e reply) where
      d : IsPerformed p (map_now state last) now s e reply
      d = performed (state_begun s r)

      reads : OnlyReads (state store.disk) (state last.disk)
      reads = only_read state store begun disk before last same

      run : (new : DiskState) → LeavesOneOf (map_before state last) (map_now state last) (state last.disk) new
          → LeavesOneOf (map_now state begun) (map_now state last) (state last.disk) new
      run new images = maps_same before_is_begun (λ n part. refl) images

      -- the changes of the transaction were kept
      pub kept_does : (after : StoreView D) → SameMap (present state after) (map_now state last)
          → LeavesOneOf (map_before state last) (map_now state last) (state last.disk) (state after.disk)
          → (state last.disk).failures ≤ (state after.disk).failures → (state after.disk).failed_writes ≡ (state last.disk).failed_writes
          → (t : State) × IsOn state p s.now now (Running after) t × Does (state store.disk) (state after.disk) s e reply t
      kept_does after alike images later quiet = (
        done_state (state_begun s r) d,
        (
          event_runs (state store.disk) only_now p (present state store) tables s r e (map_now state begun) (map_now state last) map super
              (state last.disk) (state after.disk) reads (run (state after.disk) images) later now reply (state_begun s r) d
              (state after.disk).size (present state after) (images.size ∙ reads.narrowed.size) alike,
          refl,
        ),
        does_event (state store.disk) only_now p (present state store) tables s r e (map_now state begun) (map_now state last) map super
            (state last.disk) (state after.disk) reads (run (state after.disk) images) later now reply (state_begun s r) d quiet,
      )

      -- a commit failed
      pub broken_does : (broken : D) → LeavesOneOf (map_before state last) (map_now state last) (state last.disk) (state broken)
          → (state last.disk).failures ≤ (state broken).failures → HasFailed (state last.disk) (state broken)
          → HasFailedToWrite (state last.disk) (state broken) → (told : Reply) → told ≡ Refused (Failed EIO)
          → (t : State) × IsOn state p s.now now (Halted broken) t × Does (state store.disk) (state broken) s e told t
      broken_does broken images later failed unwritten told is = (
        record s { processes = now.processes; openings = now.openings; halted = true },
        refl,
        subst (λ (q : Reply). Does (state store.disk) (state broken) s e q (record s { processes = now.processes; openings = now.openings; halted = true })) (sym is)
            (does_halt (state store.disk) only_now p (present state store) tables s r e (map_now state begun) (map_now state last) map super
            (state last.disk) (state broken) reads (run (state broken) images) later now reply (state_begun s r) d failed unwritten),
      )

    -- nothing was kept: it goes on in its state
    pub runs_on : (after : StoreView D) → after.disk ≡ last.disk → SameMap (present state after) (map_before state last) → (s : State)
        → IsRunning (state store.disk).size p (present state store) tables s → (now : Tables) → now ≡ tables
        → IsRunning (state after.disk).size p (present state after) now s
    runs_on after dropped back s r now tabled =
        running_same (state store.disk).size (state after.disk).size p (present state store) (present state after) tables now s
        (reads_alone state store begun disk before last same after.disk dropped).narrowed.size (same_chain (present state after) (map_before state last) (present state store) back before_is_store) tabled r

    -- it was refused, and why is said of the two disks
    pub refused_does : (after : StoreView D) → after.disk ≡ last.disk → SameMap (present state after) (map_before state last) → (s : State)
        → IsRunning (state store.disk).size p (present state store) tables s → (now : Tables) → now ≡ tables
        → ((image : Image) → (state store.disk).left_since (state store.disk).moment image → IsImage (state store.disk) image)
        → (P : DiskState → DiskState → Type 0) → (IsStateOf p (map_now state begun) tables s → P (state begun.disk) (state last.disk))
        → (e : Event) (reply : Reply) → ((old new : DiskState) → IsFalse s.halted → P old new → Step s e reply s) → makes_stable e reply ≡ false
        → ((old new : DiskState) → P old new → IsTrue (is_io_error reply) → HasFailed old new)
        → (t : State) × IsOn state p s.now now (Running after) t × Does (state store.disk) (state after.disk) s e reply t
    refused_does after dropped back s r now tabled only_now P said e reply steps unstable why =
        let old = state store.disk in
        let new = state after.disk in
        let refused : P old new = of_stores state store begun disk before last same after.disk dropped P (said (state_begun s r)) in (
          s,
          (runs_on after dropped back s r now tabled, refl),
          does_reading old new only_now (reads_alone state store begun disk before last same after.disk dropped) s s e reply r.state_of.up r.state_of.up
              (steps old new r.state_of.up refused) unstable (why old new refused),
        )

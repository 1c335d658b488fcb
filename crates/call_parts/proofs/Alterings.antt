-- What is left where the disk is altered.
--     fails, not_altered, not_altered_later, not_altered_then        it has failed
--     not_changed, not_changed_later        so it has, where the transaction would be changed
--     altered_after        since before a read
--     ready_later        since before reads, in which a call may be performed
--     altered        by one call after another
--     may_alter_then, may_alter_kept        what may be altered after a first call, and after reads
use Rattle.call_parts.specs.BothTables.{Tables}
use Rattle.std.specs.Prelude.{◌≡◌, ℕ, ◌+◌, ◌≤◌, IsErr, IsErrAnd, Result, Ok, Err}
use Rattle.std.proofs.Common.{arith}
use Rattle.fs_cred.specs.declared.refusal.Refusal.{Refusal}
use Rattle.fs_layout.specs.declared.geometry.Geometry.{Geometry}
use Rattle.fs_layout.specs.Bytes.{SectorMap}
use Rattle.sector_disk.proofs.Moments.{failed_later}
use Rattle.sector_txn.specs.Sectors.{TxnState, SameStore, IsUnchanged}
use Rattle.sector_txn.proofs.TransactionRuns.{store_joined}
use Rattle.bit_alloc.specs.Inodes.{IsSound}
use Rattle.bit_alloc.specs.Room.{TakesSpare}
use Rattle.bit_alloc.proofs.Transactions.{spare_unchanged}
use Rattle.fs_model.specs.States.{State}
use Rattle.path_walk.specs.Answers.{FailsToRead}
use Rattle.path_walk.proofs.Kept.{kept_back, sound_kept, on_err, if_err, failed_with}
use Rattle.call_parts.specs.Performing.{MayPerform}
use Rattle.call_parts.proofs.Calling.{state_kept}
use Rattle.call_parts.proofs.Removed.{taken_after, taken_joined}
use Rattle.call_parts.specs.Altering.{MayAlter, AltersDisk, AltersTransaction}

module _ {A : Type 0} {p : Geometry} {more : ℕ} {alteration : A → SectorMap → SectorMap → Type 0} where
  pub fails : {old new : TxnState} {e : Refusal} → SameStore old new → FailsToRead old.disk new.disk e → AltersDisk p more alteration old new (Err e)
  fails store fault = record { store = store; sound = tt; taken = tt; made = tt; fault = fault }

  pub not_altered : {old new : TxnState} (r : Result A Refusal) (e : Refusal) → IsErr r × IsErrAnd r (λ z. z ≡ e) → SameStore old new → FailsToRead old.disk new.disk e
      → AltersDisk p more alteration old new r
  not_altered {old} {new} r e err store fault = record {
    store = store;
    sound = on_err (IsSound p new) r err.0;
    taken = on_err (TakesSpare p more old new) r err.0;
    made = if_err (λ x. alteration x old.sectors new.sectors) r err.0;
    fault = failed_with r e (FailsToRead old.disk new.disk) err.0 err.1 fault;
  }

  pub not_altered_later : {old mid new : TxnState} (r : Result A Refusal) (e : Refusal) → IsErr r × IsErrAnd r (λ z. z ≡ e) → SameStore old mid → SameStore mid new
      → FailsToRead mid.disk new.disk e → AltersDisk p more alteration old new r
  not_altered_later {old} {mid} {new} r e err first then fault =
      not_altered r e err (store_joined first then) (fault.0, failed_later old.disk mid.disk new.disk first.reads.failures fault.1)

  -- by a later call, which would alter it so
  pub not_altered_then : {B : Type 0} {last : ℕ} {other : B → SectorMap → SectorMap → Type 0} {old mid new : TxnState} (r : Result A Refusal) (e : Refusal) → IsErr r × IsErrAnd r (λ z. z ≡ e)
      → SameStore old mid → AltersDisk p last other mid new (Err e) → AltersDisk p more alteration old new r
  not_altered_then r e err first then = not_altered_later r e err first then.store then.fault

  pub altered_after : {old mid new : TxnState} (r : Result A Refusal) → IsUnchanged old mid → AltersDisk p more alteration mid new r → AltersDisk p more alteration old new r
  altered_after {old} {mid} {new} (Ok x) same h = record {
    store = store_joined same.store h.store;
    sound = h.sound;
    taken = taken_after p more new same h.taken;
    made = kept_back (λ (m : SectorMap). alteration x m new.sectors) same h.made;
    fault = tt;
  }
  altered_after {old} {mid} {new} (Err e) same h = record {
    store = store_joined same.store h.store;
    sound = tt;
    taken = tt;
    made = tt;
    fault = (h.fault.0, failed_later old.disk mid.disk new.disk same.store.reads.failures h.fault.1);
  }

  -- by one call after another
  pub altered : {old mid new : TxnState} (x : A) (first then : ℕ) → first + then ≤ more → SameStore old mid → TakesSpare p first old mid → SameStore mid new → IsSound p new
      → TakesSpare p then mid new → alteration x old.sectors new.sectors → AltersDisk p more alteration old new (Ok x)
  altered {old} {mid} {new} x first then fits store taken next sound last made = record {
    store = store_joined store next;
    sound = sound;
    taken = taken_joined p first then more old mid new fits taken last;
    made = made;
    fault = tt;
  }

module _ {change : TxnState → TxnState → Type 0} where
  pub not_changed : {old new : TxnState} (r : Result (Unit {0}) Refusal) (e : Refusal) → IsErr r × IsErrAnd r (λ z. z ≡ e) → SameStore old new → FailsToRead old.disk new.disk e
      → AltersTransaction change old new r
  not_changed {old} {new} r e err store fault =
      record { store = store; made = on_err (change old new) r err.0; fault = failed_with r e (FailsToRead old.disk new.disk) err.0 err.1 fault }

  pub not_changed_later : {old mid new : TxnState} (r : Result (Unit {0}) Refusal) (e : Refusal) → IsErr r × IsErrAnd r (λ z. z ≡ e) → SameStore old mid → SameStore mid new
      → FailsToRead mid.disk new.disk e → AltersTransaction change old new r
  not_changed_later {old} {mid} {new} r e err first then fault =
      not_changed r e err (store_joined first then) (fault.0, failed_later old.disk mid.disk new.disk first.reads.failures fault.1)

pub ready_later : {p : Geometry} {old new : TxnState} {tables : Tables} → IsUnchanged old new → (ready : MayPerform p old tables) → (So : State → Type 0) → So ready.state
    → (now : MayPerform p new tables) × So now.state
ready_later {p} {old} {new} same ready So so = (
  record {
    sound = sound_kept same ready.sound;
    spare = spare_unchanged p 47 old new ready.spare same;
    state = ready.state;
    is_state = state_kept same ready.is_state;
  },
  so,
)

-- so many sectors may still be put
pub may_alter_then : {p : Geometry} {old mid : TxnState} {most : ℕ} (first then : ℕ) → first + then ≤ most → MayAlter p most old → TakesSpare p first old mid → IsSound p mid → MayAlter p then mid
may_alter_then first then fits ready taken sound = let spare = ready.spare in record { sound = sound; spare = omega (arith, fits, spare, taken) }

pub may_alter_kept : {p : Geometry} {more : ℕ} {old new : TxnState} → IsUnchanged old new → MayAlter p more old → MayAlter p more new
may_alter_kept {p} {more} {old} {new} same ready = record { sound = sound_kept same ready.sound; spare = spare_unchanged p more old new ready.spare same }

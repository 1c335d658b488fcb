-- What is said of a fault is said where it is passed on.
use Rattle.std.proofs.Common.{◌≡◌, Result, Ok, Err, sym, subst, IsErr, IfErr, arith}
use Rattle.std.specs.Prelude.{IsErrAnd}
use Rattle.sector_disk.specs.Disk.{DiskState, HasFailed, HasCause}
use Rattle.sector_disk.proofs.Moments.{failed_later}
use Rattle.sector_txn.specs.Sectors.{TxnState, SameStore}
use Rattle.bit_alloc.specs.Faults.{HasCauseOf}

-- what leaves by a `?`
pub through_try : {A E : Type 0} (Q : E → Type 0) (r : Result A E) (x : E) → IsErr r × IsErrAnd r (λ y. y ≡ x) → Q x → IfErr r Q
through_try Q (Ok a) x e q = absurd e.1
through_try Q (Err y) x e q = subst Q (sym e.1) q

-- the cause of a fault of a later call is its cause where it is passed on
pub cause_on : {T U E : Type 0} {fault e : E} {old mid : TxnState} {new : DiskState} → SameStore old mid → HasCauseOf {T = T} fault mid.disk new (Err e)
    → (r : Result U E) → IsErr r × IsErrAnd r (λ y. y ≡ e) → HasCauseOf fault old.disk new r
cause_on {fault = fault} {e} {old} {mid} {new} first cause r passed = record {
  later = let a = first.reads.failures in let b = cause.later in omega (arith, a, b);
  failed = through_try (λ y. y ≡ fault → HasFailed old.disk new) r e passed (λ is. failed_later old.disk mid.disk new first.reads.failures (cause.failed is));
}

-- ---- what a call tells of the disk
-- no fault
pub no_fault : {T E : Type 0} {x : T} {old new : TxnState} → SameStore old new → HasCause {T = T} {E = E} old.disk new.disk (Ok x)
no_fault store = record { later = store.reads.failures; fault = tt }

pub no_fault_of : {T E : Type 0} {fault : E} {x : T} {old new : TxnState} → SameStore old new → HasCauseOf fault old.disk new.disk (Ok x)
no_fault_of store = record { later = store.reads.failures; failed = tt }

-- a fault that needs no failure
pub not_of_disk : {T E : Type 0} {fault e : E} {old new : TxnState} → SameStore old new → (e ≡ fault → ⊥) → HasCauseOf {T = T} fault old.disk new.disk (Err e)
not_of_disk store ne = record { later = store.reads.failures; failed = λ is. absurd (ne is) }

-- that of a later call
pub fault_on : {T U E : Type 0} {e : E} {old mid : TxnState} {new : DiskState} → SameStore old mid → HasCause {T = T} mid.disk new (Err e)
    → (r : Result U E) → IsErr r × IsErrAnd r (λ y. y ≡ e) → HasCause old.disk new r
fault_on first cause (Ok x) passed = absurd passed.1
fault_on {old = old} {mid} {new} first cause (Err y) passed = record {
  later = let a = first.reads.failures in let b = cause.later in omega (arith, a, b);
  fault = failed_later old.disk mid.disk new first.reads.failures cause.fault;
}

-- that of a later call on the disk, as another fault
pub other_fault_on : {T U E F : Type 0} {fault : F} {e : E} {old mid : TxnState} {new : DiskState} → SameStore old mid → HasCause {T = T} {E = E} mid.disk new (Err e)
    → (r : Result U F) → IsErr r → HasCauseOf fault old.disk new r
other_fault_on first cause (Ok x) err = cc
other_fault_on {old = old} {mid} {new} first cause (Err y) err = record {
  later = let a = first.reads.failures in let b = cause.later in omega (arith, a, b);
  failed = λ is. failed_later old.disk mid.disk new first.reads.failures cause.fault;
}

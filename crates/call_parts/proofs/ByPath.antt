-- A refusal that a call passes on.
--     refused_performs, absent_performs        any; there is no such process
--     same_err        an error is one refusal
use Rattle.call_parts.specs.BothTables.{Tables}
use Rattle.call_parts.specs.Callers.{ByCaller, AnyCall}
use Rattle.call_parts.specs.Callers.{Who, IsAbsent}
use Rattle.std.specs.Prelude.{◌≡◌, ℕ, Result, Err, IsErr, IsErrAnd}
use Rattle.std.proofs.Common.{refl, sym, subst}
use Rattle.fs_cred.specs.declared.errno.Errno.{Errno}
use Rattle.fs_cred.specs.declared.errno.Errno.TheVariants.{ESRCH}
use Rattle.fs_cred.specs.declared.refusal.Refusal.{Refusal}
use Rattle.fs_cred.specs.declared.refusal.Refusal.TheVariants.{Failed}
use Rattle.fs_layout.specs.declared.geometry.Geometry.{Geometry}
use Rattle.sector_txn.specs.Sectors.{TxnState, SameStore}
use Rattle.sector_txn.proofs.TransactionRuns.{store_same}
use Rattle.fs_model.specs.declared.call.Call.{Call}
use Rattle.fs_model.specs.declared.reply.Reply.{Reply}
use Rattle.fs_model.specs.States.{State}
use Rattle.call_parts.specs.Performing.{IsStateOf, IsRefused, Performs}
use Rattle.path_walk.proofs.Kept.{is_err}
use Rattle.call_parts.proofs.Calling.{absent_refused}

-- ---- a refusal, passed on

pub refused_performs : {p : Geometry} {time : ℕ} {asked : AnyCall} {old new : TxnState} {tables : Tables} (r : Result Reply Refusal) (e : Refusal) → IsErr r → IsErrAnd r (λ y. y ≡ e)
    → SameStore old new → ((s : State) → IsStateOf p old.sectors tables s → IsRefused old.disk new.disk s asked e) → Performs p time asked old new tables tables r
refused_performs {p} {time} {asked} {old} {new} {tables} r e err and store each =
    subst (λ (x : Result Reply Refusal). Performs p time asked old new tables tables x) (sym (is_err r e err and))
    (record { store = store; super = tt; table = refl; each = each })

-- there is no such process
pub absent_performs : {p : Geometry} {time : ℕ} {who : Who} {call : Call} {txn : TxnState} {tables : Tables} (r : Result Reply Refusal) (errno : Errno) → IsErr r
    → IsErrAnd r (λ y. y ≡ Failed errno) → (errno ≡ ESRCH) × IsAbsent tables.processes who → Performs p time (ByCaller who call) txn txn tables tables r
absent_performs {p} {time} {who} {call} {txn} {tables} r errno err and is = refused_performs r (Failed errno) err and store_same
    (λ s at. absent_refused at txn.disk txn.disk who call errno is)

abbrev pub refusing : (A : Type 0) → Refusal → Result A Refusal
refusing A e = Err e

pub same_err : {A : Type 0} (x y : Refusal) → refusing A x ≡ Err y → x ≡ y
same_err x y e = cc

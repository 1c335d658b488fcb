-- What reads leave as it was.
use Rattle.std.proofs.Common.{◌≡◌, ◌≤◌, ◌∙◌, Result, Ok, Err, sym, ap, subst, inl, inr, ◌⊎◌}
use Rattle.std.specs.Prelude.{IsErr, IsErrAnd, IfOk, IfErr, OnOk}
use Rattle.sector_disk.specs.Disk.{DiskState}
use Rattle.sector_disk.proofs.Moments.{failed_later}
use Rattle.fs_cred.specs.declared.errno.Errno.TheVariants.{EIO, ELOOP, ENOMEM}
use Rattle.fs_cred.specs.declared.refusal.Refusal.{Refusal}
use Rattle.fs_cred.specs.declared.refusal.Refusal.TheVariants.{Failed}
use Rattle.fs_layout.specs.declared.geometry.Geometry.{Geometry}
use Rattle.fs_layout.specs.Bytes.{SectorMap}
use Rattle.fs_layout.specs.Ownership.{IsConsistent}
use Rattle.sector_txn.specs.Sectors.{TxnState, IsUnchanged}
use Rattle.bit_alloc.specs.Faults.{HasCauseOf}
use Rattle.bit_alloc.specs.Inodes.{IsSound}
use Rattle.bit_alloc.proofs.Transactions.{bitmaps_unchanged}
use Rattle.path_walk.specs.Answers.{FailsToRead, Interrupts, IsCaused, IsAnswered}

-- the map is the same
pub same_map : {old new : TxnState} → IsUnchanged old new → new.sectors ≡ old.sectors
same_map same = λ i n. same.sectors n i

-- so is what is said of it
pub kept : (P : SectorMap → Type 0) {old new : TxnState} → IsUnchanged old new → P old.sectors → P new.sectors
kept P same h = subst P (sym (same_map same)) h

pub kept_back : (P : SectorMap → Type 0) {old new : TxnState} → IsUnchanged old new → P new.sectors → P old.sectors
kept_back P same h = subst P (same_map same) h

pub sound_kept : {p : Geometry} {old new : TxnState} → IsUnchanged old new → IsSound p old → IsSound p new
sound_kept {p} {old} {new} same sound = record {
  consistent = kept (IsConsistent p) same sound.consistent;
  bitmaps = bitmaps_unchanged p old new sound.bitmaps same;
}

-- what interrupts a later call, since an earlier moment
pub interrupts_later : {old mid : TxnState} {r : Refusal} (new : DiskState) → IsUnchanged old mid → Interrupts mid.disk new r → Interrupts old.disk new r
interrupts_later {old} {mid} new same way = elim way [
  | inl memory ↦ inl memory
  | inr read ↦ inr (read.0, failed_later old.disk mid.disk new same.store.reads.failures read.1)
]

-- ---- errors passed on
ok_is_no_err : {A : Type 0} (x : A) → IsErr {T = A} {E = Refusal} (Ok x) → ⊥
ok_is_no_err x h = cc

pub is_err : {A : Type 0} (r : Result A Refusal) (e : Refusal) → IsErr r → IsErrAnd r (λ y. y ≡ e) → r ≡ Err e
is_err (Ok x) e err and = absurd (ok_is_no_err x err)
is_err (Err y) e err and = ap (λ (z : Refusal). Err z) and

-- what was answered as an error, is answered so
pub answered_err : {A : Type 0} (old new : DiskState) (right r : Result A Refusal) (e : Refusal) → IsErr r → IsErrAnd r (λ y. y ≡ e)
    → (right ≡ Err e) ⊎ Interrupts old new e → IsAnswered old new right r
answered_err old new right r e err and h = subst (λ (q : Result _ Refusal). IsAnswered old new right q) (sym (is_err r e err and)) h

-- an error of a call that is always right is an interruption
pub interrupted : {A : Type 0} (old new : DiskState) (x : A) (e : Refusal) → (Ok x ≡ Err e) ⊎ Interrupts old new e → Interrupts old new e
interrupted old new x e h = elim h [ inl no_ok ↦ absurd (cc) | inr way ↦ way ]

abbrev pub answer : {A : Type 0} → A → Result A Refusal
answer x = Ok x

pub same_ok : {A : Type 0} (x y : A) → answer x ≡ answer y → x ≡ y
same_ok x y e = cc

pub on_err : {A : Type 0} (P : Type 0) (r : Result A Refusal) → IsErr r → OnOk r P
on_err P (Ok x) err = absurd (ok_is_no_err x err)
on_err P (Err e) err = tt

pub failed_with : {A : Type 0} (r : Result A Refusal) (e : Refusal) (P : Refusal → Type 0) → IsErr r → IsErrAnd r (λ y. y ≡ e) → P e → IfErr r P
failed_with r e P err and h = subst (λ (s : Result _ Refusal). IfErr s P) (sym (is_err r e err and)) h

-- a fault behind what was done before
pub failed_behind : {A : Type 0} (old mid new : DiskState) (r : Result A Refusal) (e : Refusal) → old.failures ≤ mid.failures → IsErr r → IsErrAnd r (λ y. y ≡ e)
    → FailsToRead mid new e → IfErr r (FailsToRead old new)
failed_behind old mid new r e grows err and failed =
    failed_with r e (FailsToRead old new) err and (failed.0, failed_later old mid new grows failed.1)

-- ---- causes
pub interrupt_caused : (old new : DiskState) (e : Refusal) → Interrupts old new e → IsCaused old new e
interrupt_caused old new e way is = elim way [
  | inl memory ↦ absurd (let both : Failed ENOMEM ≡ Failed EIO = sym memory ∙ is in cc)
  | inr read ↦ read.1
]

-- as does what follows a link
pub loop_caused : (old new : DiskState) (e : Refusal) (P : Type 0) → (P × (e ≡ Failed ELOOP)) ⊎ Interrupts old new e → IsCaused old new e
loop_caused old new e P way is = elim way [
  | inl loop ↦ absurd (let both : Failed ELOOP ≡ Failed EIO = sym loop.1 ∙ is in cc)
  | inr other ↦ interrupt_caused old new e other is
]

pub caused_later : {old mid : TxnState} {e : Refusal} (new : DiskState) → IsUnchanged old mid → IsCaused mid.disk new e → IsCaused old.disk new e
caused_later {old} {mid} new same cause is = failed_later old.disk mid.disk new same.store.reads.failures (cause is)

pub cause_of : {A : Type 0} (old new : DiskState) (r : Result A Refusal) (e : Refusal) → old.failures ≤ new.failures → IsErr r → IsErrAnd r (λ y. y ≡ e)
    → IsCaused old new e → HasCauseOf (Failed EIO) old new r
cause_of old new r e later err and cause = record { later = later; failed = failed_with r e (IsCaused old new) err and cause }

pub if_err : {A : Type 0} (P : A → Type 0) (r : Result A Refusal) → IsErr r → IfOk r P
if_err P (Ok x) err = absurd (ok_is_no_err x err)
if_err P (Err e) err = tt

-- an error since a read that changed nothing, with the cause of what interrupted
pub caused_behind : {A : Type 0} {old mid : TxnState} (new : DiskState) (r : Result A Refusal) (e : Refusal) → IsUnchanged old mid → IsErr r
    → IsErrAnd r (λ y. y ≡ e) → Interrupts mid.disk new e → IfErr r (IsCaused old.disk new)
caused_behind {old = old} {mid} new r e same err and way =
    failed_with r e (IsCaused old.disk new) err and (caused_later new same (interrupt_caused mid.disk new e way))

-- the same of a call that changes nothing
pub cause_then : {A : Type 0} {old new : TxnState} (r : Result A Refusal) (e : Refusal) → IsUnchanged old new → IsErr r → IsErrAnd r (λ y. y ≡ e)
    → IsCaused old.disk new.disk e → HasCauseOf (Failed EIO) old.disk new.disk r
cause_then {old = old} {new} r e same err and cause = cause_of old.disk new.disk r e same.store.reads.failures err and cause

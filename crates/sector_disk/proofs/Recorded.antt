-- What a record keeps when an event is added to it, or isn't.
use Rattle.std.proofs.Common.{◌≡◌, ℕ, List, length, sym, ap, subst}
use Rattle.std.specs.Prelude.{Result, Ok, Err, OnOk, OnErr, true, false}
use Rattle.std.specs.Result.{is_err}
use Rattle.std.proofs.lemmas.Bool.{true≢false}
use Rattle.sector_disk.specs.Disk.{IsWholeSector}
use Rattle.sector_disk.specs.Places.{KeptSectors}
use Rattle.sector_disk.specs.Record.{Past}
use Rattle.sector_disk.specs.Steps.{IsRecord, past_of}
use Rattle.sector_disk.specs.declared.history.Step.{Step}
use Rattle.sector_disk.specs.Whole.{AreWhole, whole_written, whole_synced}
use Rattle.sector_disk.specs.Record.{Written, Synced}
use Rattle.sector_disk.proofs.Done.{more}

-- where recording is no error, what it says at Ok is true
pub recorded : {T E P : Type 0} (r : Result T E) → is_err r ≡ false → OnOk r P → P
recorded (Ok x) fine is = is
recorded (Err e) fine is = absurd (true≢false fine)

-- and where it is one, what it says at Err is
pub unrecorded : {T E P : Type 0} (r : Result T E) → is_err r ≡ true → OnErr r P → P
unrecorded (Ok x) bad is = absurd (true≢false (sym bad))
unrecorded (Err e) bad is = is

-- what has come back to what it was is the record that it was
module _ {seen seen' : KeptSectors} {done done' : List Step} (same : seen' ≡ seen)
    (steps : done' ≡ done) where
  pub record_as : {synced : ℕ} → IsRecord seen done synced → IsRecord seen' done' synced
  record_as is = rw (same, steps) is

  pub past_as : {past : Past} → past_of seen.shown done ≡ past → past_of seen'.shown done' ≡ past
  past_as is = rw (same, steps) is

-- as many whole sectors as before
pub record StaysWhole (past new : Past) : Type 0 where
  pub size : length new.start ≡ length past.start
  pub whole : AreWhole new

same_size : (past new : Past) → AreWhole past → new ≡ past → StaysWhole past new
same_size past new whole same = record { size = ap (λ (p : Past). length p.start) same; whole = subst AreWhole (sym same) whole }

pub written_stays : {T E : Type 0} (past new : Past) (n : ℕ) (content : List ℕ) (r : Result T E) → AreWhole past → IsWholeSector content
    → OnOk r (new ≡ more past (Written n content)) → OnErr r (new ≡ past) → StaysWhole past new
written_stays past new n content (Ok x) whole is ok err =
    let same = ok in record { size = ap (λ (p : Past). length p.start) same; whole = subst AreWhole (sym same) (whole_written past n content whole is) }
written_stays past new n content (Err e) whole is ok err = same_size past new whole err

pub synced_stays : {T E : Type 0} (past new : Past) (r : Result T E) → AreWhole past → OnOk r (new ≡ more past Synced) → OnErr r (new ≡ past) → StaysWhole past new
synced_stays past new (Ok x) whole ok err =
    let same = ok in record { size = ap (λ (p : Past). length p.start) same; whole = subst AreWhole (sym same) (whole_synced past whole) }
synced_stays past new (Err e) whole ok err = same_size past new whole err

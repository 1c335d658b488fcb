-- Faults of calls among several.
use Rattle.std.proofs.Common.{◌≤◌, arith, Result, Ok, Err}
use Rattle.std.specs.Prelude.{OnErr}
use Rattle.sector_disk.specs.Disk.{DiskState, HasCause}
use Rattle.sector_disk.proofs.Moments.{failed_later}

pub on_err : {T E P : Type 0} (r : Result T E) → P → OnErr r P
on_err (Ok x) p = tt
on_err (Err e) p = p

-- the fault of a later call is one of all
pub later_cause : {T U E F : Type 0} {e : E} (old mid new : DiskState) → old.failures ≤ mid.failures → HasCause {T = T} mid new (Err e) → (r : Result U F)
    → HasCause old new r
later_cause old mid new first cause r = record {
  later = let then = cause.later in omega (arith, first, then);
  fault = on_err r (failed_later old mid new first cause.fault);
}

-- that of the first
pub first_cause : {T U E F : Type 0} {e : E} (old new : DiskState) → HasCause {T = T} old new (Err e) → (r : Result U F) → HasCause old new r
first_cause old new cause r = record { later = cause.later; fault = on_err r cause.fault }

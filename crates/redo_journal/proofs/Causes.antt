-- Why a run of calls tells a fault, and how it counts failed writes: one line of a proof for each way that it ends.
use Rattle.std.proofs.Common.{◌≡◌, ⊎_elim, inl, inr, ◌≤◌, arith, refl, subst, sym, ◌∙◌}
use Rattle.std.proofs.lemmas.Bool.{true≢false}
use Rattle.std.proofs.lemmas.Result.{on_err_weaker, on_ok_weaker}
use Rattle.std.specs.Prelude.{Result, Ok, Err, IsErr}
use Rattle.sector_disk.specs.Disk.{DiskState, CountsWrites, HasCause, HasFailedToWrite, HasWriteCause}
use Rattle.sector_disk.proofs.Moments.{failed_later}

-- ---- without a call
pub cause_of_none : {T E : Type 0} {x : T} {disk : DiskState} → HasCause {E = E} disk disk (Ok x)
cause_of_none = record { later = omega arith; fault = tt }

pub told_of_none : {T E : Type 0} {x : T} {disk : DiskState} → HasWriteCause {E = E} disk disk (Ok x)
told_of_none = record { later = omega arith; fault = tt; quiet = refl }

-- ---- after calls that went well
pub cause_since : {T E : Type 0} {old mid new : DiskState} {last : Result T E} → old.failures ≤ mid.failures → HasCause mid new last → HasCause old new last
cause_since {old = old} {mid = mid} {new = new} {last = last} grows then = record {
  later = omega (arith, grows, then.later);
  fault = on_err_weaker last (failed_later old mid new grows) then.fault;
}

pub cause_then : {A F T E : Type 0} {old mid new : DiskState} {first : Result A F} {last : Result T E} → HasCause old mid first → HasCause mid new last → HasCause old new last
cause_then first then = cause_since first.later then

unwritten_later : (old mid new : DiskState) → mid.failed_writes ≡ old.failed_writes → HasFailedToWrite mid new → HasFailedToWrite old new
unwritten_later old mid new quiet failed = ⊎_elim (λ more. inl (omega (arith, quiet, more))) (λ worn. inr worn) failed

pub told_since : {T E : Type 0} {old mid new : DiskState} {last : Result T E} → mid.failed_writes ≡ old.failed_writes → HasWriteCause mid new last → HasWriteCause old new last
told_since {old = old} {mid = mid} {new = new} {last = last} quiet then = record {
  later = omega (arith, quiet, then.later);
  fault = on_err_weaker last (unwritten_later old mid new quiet) then.fault;
  quiet = on_ok_weaker last (λ still. still ∙ quiet) then.quiet;
}

pub told_then : {A F T E : Type 0} {x : A} {old mid new : DiskState} {last : Result T E} → HasWriteCause {E = F} old mid (Ok x) → HasWriteCause mid new last → HasWriteCause old new last
told_then first then = told_since first.quiet then

-- ---- what a `?` passes on, which is no value
pub cause_on : {A F T E : Type 0} {e : F} {old new : DiskState} (r : Result T E) → IsErr r → HasCause {T = A} old new (Err e) → HasCause old new r
cause_on (Ok x) is cause = absurd (true≢false (sym is))
cause_on (Err fault) is cause = record { later = cause.later; fault = cause.fault }

pub told_on : {A F T E : Type 0} {e : F} {old new : DiskState} (r : Result T E) → IsErr r → HasWriteCause {T = A} old new (Err e) → HasWriteCause old new r
told_on (Ok x) is told = absurd (true≢false (sym is))
told_on (Err fault) is told = record { later = told.later; fault = told.fault; quiet = tt }

-- ---- what a state of a commit gives in place of the disk's answer, and as it is seen
pub cause_as : {D T E : Type 0} (state : D → DiskState) {inside seen : D} {new : DiskState} {result : Result T E} → inside ≡ seen → HasCause (state inside) new result → HasCause (state seen) new result
cause_as state {new = new} {result = result} is cause = subst (λ d. HasCause (state d) new result) is cause

pub told_as : {D T E : Type 0} (state : D → DiskState) {inside seen : D} {new : DiskState} {result : Result T E} → inside ≡ seen → HasWriteCause (state inside) new result → HasWriteCause (state seen) new result
told_as state {new = new} {result = result} is told = subst (λ d. HasWriteCause (state d) new result) is told

pub cause_at_ok : {A F T E : Type 0} {x : A} {y : T} {old new : DiskState} → HasCause {E = F} old new (Ok x) → HasCause {E = E} old new (Ok y)
cause_at_ok is = record { later = is.later; fault = tt }

pub cause_at_err : {A F T E : Type 0} {e : F} {fault : E} {old new : DiskState} → HasCause {T = A} old new (Err e) → HasCause {T = T} old new (Err fault)
cause_at_err is = record { later = is.later; fault = is.fault }

pub told_at_ok : {A F T E : Type 0} {x : A} {y : T} {old new : DiskState} → HasWriteCause {E = F} old new (Ok x) → HasWriteCause {E = E} old new (Ok y)
told_at_ok is = record { later = is.later; fault = tt; quiet = is.quiet }

pub told_at_err : {A F T E : Type 0} {e : F} {fault : E} {old new : DiskState} → HasWriteCause {T = A} old new (Err e) → HasWriteCause {T = T} old new (Err fault)
told_at_err is = record { later = is.later; fault = is.fault; quiet = tt }

-- ---- calls in a loop, all of which went well
pub record WentWell (old new : DiskState) : Type 0 where
  pub failures : old.failures ≤ new.failures
  pub quiet : new.failed_writes ≡ old.failed_writes

pub well_none : {disk : DiskState} → WentWell disk disk
well_none = record { failures = omega arith; quiet = refl }

pub well_more : {old mid new : DiskState} → WentWell old mid → mid.failures ≤ new.failures → new.failed_writes ≡ mid.failed_writes → WentWell old new
well_more so_far later quiet = record { failures = omega (arith, so_far.failures, later); quiet = quiet ∙ so_far.quiet }

pub well_cause : {T E : Type 0} {x : T} {old new : DiskState} → WentWell old new → HasCause {E = E} old new (Ok x)
well_cause well = record { later = well.failures; fault = tt }

pub well_told : {T E : Type 0} {x : T} {old new : DiskState} → WentWell old new → HasWriteCause {E = E} old new (Ok x)
well_told well = record { later = omega (arith, well.quiet); fault = tt; quiet = well.quiet }

pub well_counted : {T E : Type 0} {x : T} {old new : DiskState} → WentWell old new → CountsWrites {E = E} old new (Ok x)
well_counted well = record { later = omega (arith, well.quiet); quiet = well.quiet }

-- Why a call may tell that the disk has failed.
--     HasCauseOf        where only one of its faults says so
use Rattle.std.specs.Prelude.{◌≡◌, ◌≤◌, Result, IfErr}
use Rattle.sector_disk.specs.Disk.{DiskState, HasFailed}

-- The count of failures doesn't fall, and this fault is told only where the disk has failed since. Other faults need no
-- failure.
pub record HasCauseOf {T E : Type 0} (fault : E) (old new : DiskState) (result : Result T E) : Type 0 where
  pub later : old.failures ≤ new.failures
  pub failed : IfErr result (λ e. e ≡ fault → HasFailed old new)

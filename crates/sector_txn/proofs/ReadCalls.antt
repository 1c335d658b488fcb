-- What a read leaves, one line of a proof for each way that it ends.
use Rattle.std.proofs.Common.{◌≡◌, refl, subst}
use Rattle.std.specs.Prelude.{Result, Ok, Err, IsErr}
use Rattle.sector_disk.specs.Disk.{DiskState}
use Rattle.sector_disk.proofs.Moments.{reads_nothing}
use Rattle.redo_journal.proofs.Causes.{cause_at_ok, cause_of_none, cause_on}
use Rattle.sector_txn.specs.Waits.{IsRead}

-- without a call
pub read_nothing : {T E : Type 0} {x : T} {disk : DiskState} → IsRead {E = E} disk disk (Ok x)
read_nothing = record { same = λ n. refl; unchanged = record { narrowed = reads_nothing.narrowed; kept = λ n content holds. holds }; reads = reads_nothing; cause = cause_of_none }

-- another value
pub read_at_ok : {A F T E : Type 0} {x : A} {y : T} {old new : DiskState} → IsRead {E = F} old new (Ok x) → IsRead {E = E} old new (Ok y)
read_at_ok read = record { same = read.same; unchanged = read.unchanged; reads = read.reads; cause = cause_at_ok read.cause }

-- what a `?` passes on, which is no value
pub read_on : {A F T E : Type 0} {e : F} {old new : DiskState} (r : Result T E) → IsErr r → IsRead {T = A} old new (Err e) → IsRead old new r
read_on r err read = record { same = read.same; unchanged = read.unchanged; reads = read.reads; cause = cause_on r err read.cause }

-- as the disk is seen
pub read_as : {D T E : Type 0} (state : D → DiskState) {inside seen : D} {new : DiskState} {result : Result T E} → inside ≡ seen → IsRead (state inside) new result → IsRead (state seen) new result
read_as state {new = new} {result = result} is read = subst (λ d. IsRead (state d) new result) is read

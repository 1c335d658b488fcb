-- Runs of reads.
use Rattle.std.proofs.Common.{◌≡◌, ℕ, Result, Ok, Err}
use Rattle.std.specs.Prelude.{IsErr, IsErrAnd}
use Rattle.fs_layout.specs.Bytes.{SectorMap}
pub use Rattle.bit_alloc.proofs.Transactions.{unchanged_joined}
use Rattle.block_map.specs.declared.fault.MapFault.{MapFault}

-- two maps that agree at each sector are one
pub same_map : (old new : SectorMap) → ((n : ℕ) → new n ≡ old n) → new ≡ old
same_map old new same = λ i n. same n i

-- ---- faults passed on
-- a fault passed on is the fault
pub same_fault : (r : Result (Unit {0}) MapFault) (e f : MapFault) → IsErr r → IsErrAnd r (λ y. y ≡ e) → r ≡ Err f → e ≡ f
same_fault (Ok u) e f err and is = cc
same_fault (Err y) e f err and is = cc

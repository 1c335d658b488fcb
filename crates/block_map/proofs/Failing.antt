-- The cause of a bitmap's fault that is passed on, and what isn't past the end of a file.
use Rattle.std.proofs.Common.{◌≡◌, ◌<◌, ◌≤◌, ◌-◌, ◌+◌, ℕ, Result, Err, refl, arith}
use Rattle.std.specs.Prelude.{IsErr, IsErrAnd}
use Rattle.sector_disk.specs.Disk.{DiskState}
use Rattle.bit_alloc.specs.declared.bitmap.TakeFault.{TakeFault}
use Rattle.bit_alloc.specs.declared.bitmap.TakeFault.TheVariants as take
use Rattle.bit_alloc.specs.Faults.{HasCauseOf}
use Rattle.bit_alloc.proofs.Passing.{through_try}
use Rattle.block_map.specs.declared.fault.MapFault.{MapFault}
use Rattle.block_map.specs.declared.fault.MapFault.TheVariants.{DiskFault}
use Rattle.block_map.specs.Faults.{as_map_fault}

-- what is passed on as a fault of the disk was one
was_of_disk : {P : Type 0} (e : TakeFault) → (e ≡ take.DiskFault → P) → as_map_fault e ≡ DiskFault → P
was_of_disk take.Full f is = absurd (cc)
was_of_disk take.DiskFault f is = f refl

-- so its cause stays
pub bitmap_cause : {T : Type 0} {old new : DiskState} (r : Result (Unit {0}) MapFault) (e : TakeFault) → IsErr r × IsErrAnd r (λ y. y ≡ as_map_fault e)
    → HasCauseOf {T = T} take.DiskFault old new (Err e) → HasCauseOf DiskFault old new r
bitmap_cause r e passed cause = record { later = cause.later; failed = through_try _ r (as_map_fault e) passed (was_of_disk e cause.failed) }

-- a size that a file may have isn't past the most
pub not_past : {P : Type 0} {n limit most : ℕ} → limit ≡ most → n ≤ limit → most < n → P
not_past e within past = absurd (omega arith)

-- nor is the end of bytes that a file may hold
pub end_not_past : {P : Type 0} {offset len limit most : ℕ} → limit ≡ most → offset ≤ limit - len → len ≤ limit → most < offset + len → P
end_not_past e within fits past = absurd (omega arith)

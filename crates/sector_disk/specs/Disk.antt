-- A disk of sectors: what reads give, what a stop may leave, and how calls change that.
--     Image, sector        the contents of all sectors; that of one
--     IsWholeSector        512 bytes
--     EndsInZeros        bytes of a sector that are zeros
--     DiskState, IsImage, IsStable        what is known at one moment; what a stop may leave then
--     Elapses        time goes on, and the past is kept
--     IsNarrowed, IsSame, ForgetsPast, IsWritten, ChangesOnly        what one call does
--     HasFailed, HasCause        why a call may tell a fault
--     HasFailedToWrite, HasWriteCause        why a write or a sync may
--     CountsWrites        how often writes and syncs fail in calls that read too
--     LeavesOnly        what a stop leaves at any moment of a run of calls
--     OnlyReads, AddsOnly, IsImageOr, IsWrite        what several calls do
use Rattle.std.specs.Prelude.{◌≡◌, ◌⊎◌, ℕ, ◌<◌, ◌≤◌, ◌^◌, ◌-◌, List, [], length, get_or, slice_index_or, slice_set, Result, OnOk, OnErr}

-- the contents of the sectors, in their order
abbrev pub Image : Type 0
Image = List (List ℕ)

-- the content of one sector
abbrev pub sector : Image → ℕ → List ℕ
sector image n = slice_index_or image n []

-- 512 bytes
pub record IsWholeSector (content : List ℕ) : Type 0 where
  pub len : length content ≡ 512
  pub bytes : (i : ℕ) → get_or content i 0 < 256

-- the bytes of a sector from number `first` on are zeros
abbrev pub EndsInZeros : ℕ → List ℕ → Type 0
EndsInZeros first content = (i : ℕ) → first ≤ i → i < 512 → get_or content i 0 ≡ 0

-- what is known of a disk at one moment
pub record DiskState : Type 1 where
  -- the number of sectors
  pub size : ℕ
  -- the content of each sector, as a read gives it
  pub seen : Image
  -- a stop may leave this content in this sector
  pub may_hold : ℕ → List ℕ → Type 0
  -- the moment, as a number
  pub moment : ℕ
  -- a stop at some moment from that one on might have left this image
  pub left_since : ℕ → Image → Type 0
  -- how often the disk has failed
  pub failures : ℕ
  -- how often a write or a sync has
  pub failed_writes : ℕ

-- a stop may leave this image
pub record IsImage (disk : DiskState) (image : Image) : Type 0 where
  pub size : length image ≡ disk.size
  pub each : (n : ℕ) → n < disk.size → disk.may_hold n (sector image n)

-- a stop leaves what reads give
abbrev pub IsStable : DiskState → Type 0
IsStable disk = (n : ℕ) (content : List ℕ) → n < disk.size → disk.may_hold n content → content ≡ sector disk.seen n

-- a new disk with these contents, all of them stable
pub record IsFresh (disk : DiskState) (image : Image) : Type 0 where
  pub size : disk.size ≡ length image
  pub seen : disk.seen ≡ image
  pub stable : IsStable disk
  pub failures : disk.failures ≡ 0

-- Time goes on: a stop since t might have left what it might have left before, or what it may leave now.
pub record Elapses (old new : DiskState) : Type 0 where
  pub later : old.moment ≤ new.moment
  pub nothing_else : (t : ℕ) (image : Image) → t ≤ old.moment → new.left_since t image → old.left_since t image ⊎ IsImage new image
  pub keeps : (t : ℕ) (image : Image) → t ≤ old.moment → old.left_since t image → new.left_since t image

-- reads give the same, and a stop may leave no other contents than before
pub record IsNarrowed (old new : DiskState) : Type 0 where
  pub size : new.size ≡ old.size
  pub seen : new.seen ≡ old.seen
  pub nothing_else : (n : ℕ) (content : List ℕ) → new.may_hold n content → old.may_hold n content

-- reads give the same, and a stop may leave the same
pub record IsSame (old new : DiskState) : Type 0 where
  pub narrowed : IsNarrowed old new
  pub kept : (n : ℕ) (content : List ℕ) → old.may_hold n content → new.may_hold n content

-- reads give the same, and a stop may leave the same; of earlier moments nothing is known but what it may leave now
pub record ForgetsPast (old new : DiskState) : Type 0 where
  pub same : IsSame old new
  pub failures : new.failures ≡ old.failures
  pub failed_writes : new.failed_writes ≡ old.failed_writes
  pub nothing_earlier : (t : ℕ) (image : Image) → new.left_since t image → IsImage new image

-- A read of sector n gives the content, and a stop may leave it there.
pub record IsWritten (old new : DiskState) (n : ℕ) (content : List ℕ) : Type 0 where
  pub seen : new.seen ≡ slice_set old.seen n content
  pub may_hold : new.may_hold n content

-- A write of the content to sector n, which may have failed: nothing but this may have changed.
pub record ChangesOnly (old new : DiskState) (n : ℕ) (content : List ℕ) : Type 0 where
  pub size : new.size ≡ old.size
  pub seen : (new.seen ≡ old.seen) ⊎ (new.seen ≡ slice_set old.seen n content)
  pub nothing_else : (k : ℕ) (c : List ℕ) → new.may_hold k c → old.may_hold k c ⊎ ((k ≡ n) × (c ≡ content))
  pub kept : (k : ℕ) (c : List ℕ) → old.may_hold k c → new.may_hold k c

-- the disk has failed since, or can't count any further
abbrev pub HasFailed : DiskState → DiskState → Type 0
HasFailed old new = (old.failures < new.failures) ⊎ (new.failures ≡ 2 ^ 64 - 1)

-- the count doesn't fall, and an error is told only where the disk has failed since
pub record HasCause {T E : Type 0} (old new : DiskState) (result : Result T E) : Type 0 where
  pub later : old.failures ≤ new.failures
  pub fault : OnErr result (HasFailed old new)

-- a write or a sync has failed since, or the disk can't count any further
abbrev pub HasFailedToWrite : DiskState → DiskState → Type 0
HasFailedToWrite old new = (old.failed_writes < new.failed_writes) ⊎ (new.failures ≡ 2 ^ 64 - 1)

-- the count of failed writes and syncs doesn't fall, and an error is told only where a write or a sync has failed since
pub record HasWriteCause {T E : Type 0} (old new : DiskState) (result : Result T E) : Type 0 where
  pub later : old.failed_writes ≤ new.failed_writes
  pub fault : OnErr result (HasFailedToWrite old new)
  -- at Ok no write and no sync has failed since
  pub quiet : OnOk result (new.failed_writes ≡ old.failed_writes)

-- the count of failed writes and syncs doesn't fall, and at Ok it is as before
pub record CountsWrites {T E : Type 0} (old new : DiskState) (result : Result T E) : Type 0 where
  pub later : old.failed_writes ≤ new.failed_writes
  pub quiet : OnOk result (new.failed_writes ≡ old.failed_writes)

-- a stop at any moment since old leaves an image that has P
pub record LeavesOnly (old new : DiskState) (P : Image → Type 0) : Type 0 where
  pub later : old.moment ≤ new.moment
  pub each : (image : Image) → new.left_since old.moment image → P image
  -- for a run that began earlier
  pub before : (t : ℕ) (image : Image) → t ≤ old.moment → new.left_since t image → old.left_since t image ⊎ P image

-- reads alone: they give the same, a stop at any moment leaves nothing that it might not have left before, and no write or
-- sync has failed
pub record OnlyReads (old new : DiskState) : Type 0 where
  pub narrowed : IsNarrowed old new
  pub later : old.moment ≤ new.moment
  pub since : (t : ℕ) (image : Image) → t ≤ old.moment → new.left_since t image → old.left_since t image
  pub failures : old.failures ≤ new.failures
  pub failed_writes : new.failed_writes ≡ old.failed_writes

-- a stop may leave in each sector what it might have left before, or what R allows there
pub record AddsOnly (R : ℕ → List ℕ → Type 0) (old new : DiskState) : Type 0 where
  pub size : new.size ≡ old.size
  pub nothing_else : (n : ℕ) (content : List ℕ) → new.may_hold n content → old.may_hold n content ⊎ R n content

-- each sector has what a stop may leave there, or what R allows there
pub record IsImageOr (R : ℕ → List ℕ → Type 0) (disk : DiskState) (image : Image) : Type 0 where
  pub size : length image ≡ disk.size
  pub each : (n : ℕ) → n < disk.size → disk.may_hold n (sector image n) ⊎ R n (sector image n)

-- one write allows this content in this sector
abbrev pub IsWrite : ℕ → List ℕ → ℕ → List ℕ → Type 0
IsWrite at written n content = (n ≡ at) × (content ≡ written)

-- What a call that asks the tree on a disk answers.
--     refused_or        an answer, unless something refuses before it
--     FailsToRead        the disk has failed
--     Interrupts        memory is lacking, or the disk has failed
--     IsCaused        EIO only where the disk has failed
--     IsAnswered        the right answer, or one of these in its place
use Rattle.std.specs.Prelude.{◌≡◌, ◌⊎◌, None, Some, Result, Ok, Err}
use Rattle.sector_disk.specs.Disk.{DiskState, HasFailed}
use Rattle.fs_cred.specs.declared.errno.Errno.TheVariants.{ENOMEM, EIO}
use Rattle.fs_cred.specs.declared.refusal.Refusal.{Refusal}
use Rattle.fs_cred.specs.declared.refusal.Refusal.TheVariants.{Failed}
use Rattle.fs_model.specs.Demands.{Demand}

-- the refusal of the demand, and where it refuses nothing what comes after it
abbrev pub refused_or : {A : Type 0} → Demand → Result A Refusal → Result A Refusal
refused_or None answer = answer
refused_or (Some refusal) answer = Err refusal

-- EIO, and the disk has failed since
abbrev pub FailsToRead : DiskState → DiskState → Refusal → Type 0
FailsToRead old new refusal = (refusal ≡ Failed EIO) × HasFailed old new

-- what may stand in place of an answer: memory is lacking, or the disk has failed since
abbrev pub Interrupts : DiskState → DiskState → Refusal → Type 0
Interrupts old new refusal = (refusal ≡ Failed ENOMEM) ⊎ FailsToRead old new refusal

-- where it is EIO, the disk has failed since
abbrev pub IsCaused : DiskState → DiskState → Refusal → Type 0
IsCaused old new refusal = refusal ≡ Failed EIO → HasFailed old new

-- the answer, or what may stand in its place
abbrev pub IsAnswered : {A : Type 0} → DiskState → DiskState → Result A Refusal → Result A Refusal → Type 0
IsAnswered old new answer (Ok x) = answer ≡ Ok x
IsAnswered old new answer (Err refusal) = (answer ≡ Err refusal) ⊎ Interrupts old new refusal

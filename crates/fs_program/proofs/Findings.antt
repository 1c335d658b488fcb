-- What a check finds: a finding's rule is one of the fourteen, and what is told is how the check ends.
use Rattle.std.proofs.Common.{ℕ, arith, subst}
use Rattle.std.specs.Prelude.{◌≤◌, Bool, Option, Result, Ok, Err, IfErr, IfOk, IfSome}
use Rattle.sector_disk.specs.Disk.{DiskState, Image, OnlyReads}
use Rattle.sector_disk.specs.Parts.{IsImageOf}
use Rattle.sector_disk.specs.Record.{Held}
use Rattle.fs_check.specs.Checks.{IsClean, IsFirst, IsReason, Passed}
use Rattle.fs_check.specs.declared.faults.CheckFault.{CheckFault}
use Rattle.fs_check.specs.declared.faults.CheckFault.TheVariants.{Found, DiskFault, OutOfMemory}
use Rattle.fs_check.specs.declared.faults.Summary.{Summary}
use Rattle.fs_program.specs.declared.failure.Failure.{Failure}
use Rattle.fs_command.specs.declared.status.Status.{Status}
use Rattle.fs_program.specs.Jobs.{CheckEnds, HasChecked, IsOfRule, IsCheckTold, is_clean, has_finding, is_unchecked}
use Rattle.fs_program.specs.Streams.{Writing}
use Rattle.fs_layout.specs.Bytes.{SectorMap}
use Rattle.fs_model.specs.Rules.{ImageRule, InodeBits, rule_number, IsFinding, no_geometry, no_commit, fails}

numbered : (r : ImageRule) → (1 ≤ rule_number r) × (rule_number r ≤ 14)
numbered InodeBits = (omega arith, omega arith)
numbered _ = (omega arith, omega arith)

pub rule_in_range : {sectors : ℕ} {image : SectorMap} {rule at : ℕ} → IsFinding sectors image rule at → (1 ≤ rule) × (rule ≤ 14)
rule_in_range (no_geometry none) = (omega arith, omega arith)
rule_in_range (no_commit geometry none) = (omega arith, omega arith)
rule_in_range (fails p r at geometry commit before least) = numbered r

pub is_of_rule : (found : Result Summary CheckFault) (old new : DiskState) → IfErr found (IsReason IsFirst old new) → IfErr found IsOfRule
is_of_rule (Ok summary) old new reason = tt
is_of_rule (Err (Found finding)) old new reason = rule_in_range reason
is_of_rule (Err DiskFault) old new reason = tt
is_of_rule (Err OutOfMemory) old new reason = tt

-- what is told of a check is how it ends
pub check_ends : (found : Result Summary CheckFault) (old now : DiskState) (explain : Bool) (w : Writing) (result : Result Status Failure)
    → IfOk found (IsClean old) → Passed IsFirst old now found → IsCheckTold explain w found result → CheckEnds old now explain w result
check_ends (Ok summary) old now explain w result clean passed told = is_clean summary clean told
check_ends (Err (Found finding)) old now explain w result clean passed told = has_finding finding passed.reason told
check_ends (Err DiskFault) old now explain w result clean passed told = is_unchecked DiskFault passed.reason told
check_ends (Err OutOfMemory) old now explain w result clean passed told = is_unchecked OutOfMemory tt told

-- a disk that was only read is the same image of a file as before
pub image_before : (file : Option Held) (old now : DiskState) → OnlyReads old now → IfSome file (IsImageOf now.seen) → IfSome file (IsImageOf old.seen)
image_before file old now reads is = subst (λ (i : Image). IfSome file (IsImageOf i)) reads.narrowed.seen is

pub checked_of_rule : {P : Type 0} (part : P → DiskState) (file : Option Held) (found : Result Summary CheckFault) → HasChecked part file found
    → IfErr found IsOfRule
checked_of_rule part file found checked = is_of_rule found (part checked.old) (part checked.now) checked.passed.reason

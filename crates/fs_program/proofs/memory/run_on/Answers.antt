use Rattle.std.specs.Prelude.{◌≡◌, Bool, Result, Ok, Err}
use Rattle.fs_shell.specs.Watching.{FailsWhere}
use Rattle.fs_shell.specs.declared.answer.Count.{Count}
use Rattle.fs_shell.specs.declared.fault.RunFault.{RunFault}
use Rattle.fs_shell.specs.declared.fault.RunFault.TheVariants.{ReadFault, WriteFault}
use Rattle.fs_program.specs.declared.failure.Failure.{Failure}
use Rattle.fs_program.specs.declared.failure.Failure.TheVariants.{Run}
use Rattle.fs_program.proofs.memory.run_on.Goals as goal

abbrev TellsRun : Result Count RunFault → RunFault → Type 0
TellsRun result fault = result ≡ Err fault

abbrev Tells : Result Count Failure → RunFault → Type 0
Tells result fault = result ≡ Err (Run fault)

-- what the run tells is told
passed_on : (old new : Bool) (fault why : RunFault) → FailsWhere old new (TellsRun (Err fault) why) → FailsWhere old new (Tells (Err (Run fault)) why)
passed_on old new fault why ran = record {
  failed = λ told. ran.failed (cc);
  same = λ other. ran.same (λ told. other (cc));
}

passed_ok : (old new : Bool) (count : Count) (why : RunFault) → FailsWhere old new (TellsRun (Ok count) why) → FailsWhere old new (Tells (Ok count) why)
passed_ok old new count why ran = record {
  failed = λ told. ran.failed (cc);
  same = λ other. ran.same (λ told. other (cc));
}

pub returns-in-Ok-clause-read_fault : goal.returns-in-Ok-clause-read_fault
returns-in-Ok-clause-read_fault g c = passed_ok _ _ c.in-Ok.count ReadFault c.in-Ok.ensures.read_fault

pub returns-in-Ok-clause-write_fault : goal.returns-in-Ok-clause-write_fault
returns-in-Ok-clause-write_fault g c = passed_ok _ _ c.in-Ok.count WriteFault c.in-Ok.ensures.write_fault

pub returns-in-Ok-clause-ran : goal.returns-in-Ok-clause-ran
returns-in-Ok-clause-ran g c =
    let new = c.in_ok-fs.ensures in
    let ran = c.in-Ok.ensures.ran new.0 new.1 in
    (new.0, new.2, ran.0, ran.2)

pub returns-clause-ran : goal.returns-clause-ran
returns-clause-ran g c =
    let new = c.in_ok-fs.ensures in
    let ran = c.in-Err.ensures.ran new.0 new.1 in
    (new.0, new.2, ran.0, ran.2)

pub returns-clause-read_fault : goal.returns-clause-read_fault
returns-clause-read_fault g c = passed_on _ _ c.in-Err.fault ReadFault c.in-Err.ensures.read_fault

pub returns-clause-write_fault : goal.returns-clause-write_fault
returns-clause-write_fault g c = passed_on _ _ c.in-Err.fault WriteFault c.in-Err.ensures.write_fault

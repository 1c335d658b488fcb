-- The status of the program.
--     status_of, code_of        the status of a script, and the number of a status
use Rattle.std.specs.Prelude.{◌==◌, ℕ, if◌then◌else◌}
use Rattle.fs_command.specs.declared.status.Status.{Status}
use Rattle.fs_command.specs.declared.status.Status.TheVariants.{Done, Faulty, BadWords, Failed}

-- a script that was run to its end: done where each of its lines was in order
abbrev pub status_of : ℕ → Status
status_of faults = if faults == 0 then Done else Faulty

abbrev pub code_of : Status → ℕ
code_of Done = 0
code_of Faulty = 1
code_of BadWords = 2
code_of Failed = 3

-- What is printed of a job.
--     IsUndone        a job isn't done, and nothing is printed
--     Tells        a line is printed, and the status is this one; or it can't be printed
use Rattle.std.specs.Prelude.{◌≡◌, ◌⊎◌, ℕ, List, Result, Ok, Err}
use Rattle.std.specs.Io.KnownBytes.{Appends}
use Rattle.fs_command.specs.declared.status.Status.{Status}
use Rattle.fs_command.specs.declared.status.Status.TheVariants.{Failed}
use Rattle.fs_program.specs.Streams.{Writing}
use Rattle.fs_program.specs.declared.failure.Failure.{Failure}

-- The job isn't done, for this reason, and nothing is printed.
abbrev pub IsUndone : Writing → Failure → Result Status Failure → Type 0
IsUndone w failure result = (w.after ≡ w.before) × (result ≡ Err failure)

-- The line is printed, and the status is this one; or it can't be printed.
abbrev pub Tells : Writing → List ℕ → Status → Result Status Failure → Type 0
Tells w line status result = (Appends w.before w.after line × (result ≡ Ok status)) ⊎ (result ≡ Ok Failed)

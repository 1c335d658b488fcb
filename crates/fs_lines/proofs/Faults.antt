-- Readings that end in a fault.
use Rattle.std.specs.Prelude.{◌≡◌, Result, Ok, Err, IsErrAnd}
use Rattle.fs_lines.specs.declared.line.LineFault.{LineFault}
use Rattle.fs_lines.specs.declared.line.LineFault.TheVariants.{OutOfMemory}
use Rattle.fs_lines.specs.Readings.{Gives}

-- memory may run out whatever is said
pub out_of_memory : {X Y : Type 0} (view : X → Y) (read : Result X LineFault) (said : Result Y LineFault) → IsErrAnd read (λ fault. fault ≡ OutOfMemory) → Gives view read said
out_of_memory view (Ok x) said out = absurd out
out_of_memory view (Err fault) said out = λ other. absurd (other out)
